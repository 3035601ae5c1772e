-- Writing a character makes nothing inverse. Assumes nothing.
use Rattle.screen_cells.specs.declared.Character.{Character}
use Rattle.screen_attributes.specs.declared.Attributes.{Attributes}
use Rattle.screen_attributes.specs.Attributing.{Upright}
use Rattle.screen_writing.specs.Writing.{written}

pub write_upright : (a : Attributes) (x : Character) → Upright a → Upright (written a x).attributes
write_upright a x h = h
