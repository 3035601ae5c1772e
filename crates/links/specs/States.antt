-- The state of the links (01, "Links and commands"). Assumes nothing.
use Rattle.std.specs.Prelude.{Bool, ◌&&◌, not}
use Rattle.links_wiring.specs.Each.{Table}
use Rattle.links_wiring.specs.Tables.{self_linked, local_table, connected_table}
use Rattle.links_hearing.specs.declared.Unfinished.{Unfinished}
use Rattle.links.specs.declared.Links.{Links}
use Rattle.links_hearing.specs.declared.ears.Ear.{Ear}
use Rattle.links_hearing.specs.Ears.{own_of, free, going_on, both_in_range}

-- a table, and nothing unfinished
abbrev pub starting : Table → Links
starting t = record { table = t; unfinished = free }

abbrev pub local_links : Links
local_links = starting local_table

abbrev pub connected_links : Links
connected_links = starting connected_table

-- what is unfinished from an ear
abbrev pub unfinished : Links → Ear → Unfinished
unfinished l e = own_of e l.unfinished.modem l.unfinished.socket

-- with this table, and this unfinished from an ear
abbrev pub left : Links → Ear → Table → Unfinished → Links
left l e t u = record { table = t; unfinished = going_on l.unfinished e u }

-- "each of the two has its own unfinished sequence: in range it is ..", each code at most 127; and "A module is never
-- linked to itself"
unfoldable pub in_range : Links → Bool
in_range l = not (self_linked l.table) && both_in_range l.unfinished
