-- Where the change of one bit makes a block valid, by what can be seen before it is changed (001, section 5-3-4).
-- Assumes nothing.
use Rattle.std.specs.Prelude.{ℕ, ◌/◌, ◌<◌, ◌≡◌, false, List, get_or, take}
use Rattle.block_parity.specs.Parity.{even, odds}
use Rattle.block_validity.specs.Block.{remainder}
use Rattle.block_validity.specs.Units.{unit}

-- a remainder points to one of the first so many bits: those of bytes 1 to 16
abbrev pub pointable : ℕ
pointable = 128

-- remainder r points to bit k: it is what that bit alone leaves
abbrev pub PointsTo : ℕ → ℕ → Type 0
PointsTo r k = (k < pointable) × (remainder (unit k) ≡ r)

-- byte 17 is zero, one of bytes 1 to 16 alone is odd, bit k lies in it, and the remainder points to bit k
pub record Mends (k : ℕ) (B : List ℕ) : Type 0 where
  pub validation : get_or B 16 0 ≡ 0
  pub alone : odds (take 16 B) ≡ 1
  pub inside : even (get_or B (k / 8) 0) ≡ false
  pub pointed : PointsTo (remainder B) k
