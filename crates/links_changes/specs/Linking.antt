-- What an order does to the table (01, "Links and commands"). Assumes nothing.
use Rattle.std.specs.Prelude.{Bool, cond}
use Rattle.links_wiring.specs.declared.Module.{Module}
use Rattle.links_wiring.specs.Each.{Table, with}
use Rattle.links_wiring.specs.Modules.{same}
use Rattle.links_wiring.specs.Tables.{row_of}
use Rattle.links_commands.specs.declared.Order.{Order}
use Rattle.links_commands.specs.declared.Order.TheVariants.{Nothing, Pass, Pair, Link, Ask}

abbrev pub relinked : Table → Module → Module → Bool → Table
relinked t receiver sender on = with t sender (with (row_of t sender) receiver on)

-- "sets or clears a link"; "A module is never linked to itself; such a command answers with the status unchanged"
unfoldable pub linked : Table → Module → Module → Bool → Table
linked t receiver sender on = cond (same receiver sender) t (relinked t receiver sender on)

-- only a link command changes the table
abbrev pub table_after : Table → Order → Table
table_after t Nothing = t
table_after t (Pass v) = t
table_after t (Pair v) = t
table_after t (Link receiver sender on) = linked t receiver sender on
table_after t (Ask receiver) = t
