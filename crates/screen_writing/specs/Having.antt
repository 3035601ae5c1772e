-- What the claims on written cells speak of (01, "Screen cells"). Assumes nothing.
use Rattle.std.specs.Prelude.{◌≡◌, ℕ}
use Rattle.screen_cells.specs.declared.Character.{Character}
use Rattle.screen_cells.specs.declared.Cell.{Cell}
use Rattle.screen_attributes.specs.declared.Attributes.{Attributes}

-- a cell of this character, with the ink, flash and inverse of these attributes, and with ground g
pub record Has (c : Cell) (x : Character) (a : Attributes) (g : ℕ) : Type 0 where
  pub character : c.character ≡ x
  pub ink : c.ink ≡ a.ink
  pub ground : c.ground ≡ g
  pub flash : c.flash ≡ a.flash
  pub inverse : c.inverse ≡ a.inverse

-- attributes alike in all that is not serial
pub record AlikeButZone (a b : Attributes) : Type 0 where
  pub set : b.set ≡ a.set
  pub ink : b.ink ≡ a.ink
  pub flash : b.flash ≡ a.flash
  pub inverse : b.inverse ≡ a.inverse
