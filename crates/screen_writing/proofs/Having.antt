-- The cell of a character: the character, and the attributes in force with it; which of these are in force after it.
-- Assumes nothing.
use mathlib.Core.Path.{refl}
use Rattle.screen_cells.specs.declared.Character.{Character}
use Rattle.screen_attributes.specs.declared.Attributes.{Attributes}
use Rattle.screen_writing.specs.Writing.{cell_of, written}
use Rattle.screen_writing.specs.Having.{Has, AlikeButZone}

-- with given attributes
pub cell_has : (a : Attributes) (x : Character) → Has (cell_of a x) x a a.zone.ground
cell_has a x = record { character = refl; ink = refl; ground = refl; flash = refl; inverse = refl }

-- a character changes nothing that is not serial
pub written_alike : (a : Attributes) (x : Character) → AlikeButZone a (written a x).attributes
written_alike a x = record { set = refl; ink = refl; flash = refl; inverse = refl }

-- the cell has the ink, flash and inverse in force, and the ground that is in force with it, taken or not
pub written_has : (a : Attributes) (x : Character) → Has (written a x).cell x a (written a x).attributes.zone.ground
written_has a x = record { character = refl; ink = refl; ground = refl; flash = refl; inverse = refl }
