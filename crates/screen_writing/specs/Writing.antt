-- A character written: the ground that it takes, and its cell (01, "Screen cells"). Assumes nothing.
use Rattle.std.specs.Prelude.{Option, Some, None, Bool, cond, ℕ}
use Rattle.screen_cells.specs.declared.Character.{Character}
use Rattle.screen_cells.specs.declared.Cell.{Cell}
use Rattle.screen_cells.specs.Characters.{takes}
use Rattle.screen_attributes.specs.declared.Zone.{Zone}
use Rattle.screen_attributes.specs.declared.Attributes.{Attributes}
use Rattle.screen_writing.specs.declared.Written.{Written}

-- the ground is in force, and none waits
abbrev pub taking : (ground : ℕ) → Zone
taking g = record { ground = g; waiting = None }

abbrev pub after_waiting : Option ℕ → Zone → Bool → Zone
after_waiting None z t = z
after_waiting (Some g) z t = cond t (taking g) z

-- what is serial with a character and after it: "which takes it and all later ones"
abbrev pub zone_after : Zone → Character → Zone
zone_after z c = after_waiting z.waiting z (takes c)

-- those in force with a character and after it
abbrev pub after_writing : Attributes → Character → Attributes
after_writing a c =
    record { set = a.set; ink = a.ink; zone = zone_after a.zone c; flash = a.flash; inverse = a.inverse }

-- the cell of a character with the attributes in force
abbrev pub cell_of : Attributes → Character → Cell
cell_of a c =
    record { character = c; ink = a.ink; ground = a.zone.ground; flash = a.flash; inverse = a.inverse }

abbrev pub written : Attributes → Character → Written
written a c = record { attributes = after_writing a c; cell = cell_of (after_writing a c) c }
