-- The modules' codes and the standard tables, written out as 01 and 001 have them. Assumes nothing.
use mathlib.Core.Path.{◌≡◌, refl}
use mathlib.Core.List.{List, [], ◌∷◌, map}
use Rattle.links_wiring.specs.declared.Module.{Module}
use Rattle.links_wiring.specs.declared.Module.TheVariants.{Screen, Keyboard, Modem, Socket}
use Rattle.links_wiring.specs.Modules.{receiver_code, sender_code}
use Rattle.links_wiring.specs.Tables.{local_table, connected_table}
use Rattle.links_wiring.specs.Reading.{all_reached}

-- "(screen, keyboard, modem, socket)"
abbrev pub modules : List Module
modules = Screen ∷ Keyboard ∷ Modem ∷ Socket ∷ []

-- "receiver 5/8 to 5/B, sender 5/0 to 5/3"
pub receivers_written : map receiver_code modules ≡ 88 ∷ 89 ∷ 90 ∷ 91 ∷ []
receivers_written = refl

pub senders_written : map sender_code modules ≡ 80 ∷ 81 ∷ 82 ∷ 83 ∷ []
senders_written = refl

-- «clavier vers modem», «clavier vers prise péri-informatique», «modem vers écran», «prise péri-informatique vers
-- écran»
pub local_written : all_reached local_table ≡ [] ∷ (Modem ∷ Socket ∷ []) ∷ (Screen ∷ []) ∷ (Screen ∷ []) ∷ []
local_written = refl

-- «clavier vers modem», «modem vers écran», «modem vers prise péri-informatique», «prise péri-informatique vers modem»
pub connected_written :
    all_reached connected_table ≡ [] ∷ (Modem ∷ []) ∷ (Screen ∷ Socket ∷ []) ∷ (Modem ∷ []) ∷ []
connected_written = refl
