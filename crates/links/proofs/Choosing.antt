-- The two standard tables: the links begin with one of them, and the host chooses between them. Assumes nothing.
use mathlib.Core.Path.{◌≡◌}
use mathlib.Core.List.{[], ◌∷◌}
use Rattle.links_wiring.specs.Tables.{local_table, connected_table}
use Rattle.links_replies.specs.Replies.{statuses_of}
use Rattle.links_replies.proofs.Statuses.{local_statuses, connected_statuses}
use Rattle.links_sending.specs.Sending.{silence}
use Rattle.links.specs.declared.Links.{Links}
use Rattle.links.specs.States.{local_links, connected_links}
use Rattle.links.specs.Calls.{taken, with_table}
use Rattle.links.specs.Runs.{to_local, to_connected, obey, InLinks}
use Rattle.links.proofs.Steps.{table_chosen}
use Rattle.links.proofs.Ranges.{passed}

pub begins_local : statuses_of local_links.table ≡ 77 ∷ 66 ∷ 70 ∷ 74 ∷ []
begins_local = local_statuses

pub begins_connected : statuses_of connected_links.table ≡ 69 ∷ 66 ∷ 78 ∷ 76 ∷ []
begins_connected = connected_statuses

pub local_chosen : (l : Links) → InLinks l → obey to_local l ≡ taken (with_table l local_links.table) silence
local_chosen l r = table_chosen l local_table (passed l r)

pub connected_chosen : (l : Links) → InLinks l
    → obey to_connected l ≡ taken (with_table l connected_links.table) silence
connected_chosen l r = table_chosen l connected_table (passed l r)
