-- Changed bits. A bit's place counts from 0 in block order: byte 1 first, and weight 1 first in each byte. Assumes
-- nothing.
use Rattle.std.specs.Prelude.{ℕ, suc, ◌/◌, ◌%◌, ◌^◌, ◌<◌, ◌≡◌, cond, List, [], ◌∷◌, eqb, get_or, set}
use Rattle.std.specs.Int.Bits.{bit_xor}
use Rattle.block_division.specs.Division.{bits}

-- a byte with the bit of weight w changed
abbrev pub turned : ℕ → ℕ → ℕ
turned b w = bit_xor b w

-- the block with the bit in place k changed
unfoldable pub flip : ℕ → List ℕ → List ℕ
flip k B = set B (k / 8) (turned (get_or B (k / 8) 0) (2 ^ (k % 8)))

-- the block hit in each of these places: the bit there changed, one after the other
unfoldable pub hits : List ℕ → List ℕ → List ℕ
hits [] B = B
hits (k ∷ ks) B = flip k (hits ks B)

-- each is the place of one of a block's 136 bits
abbrev pub Places : List ℕ → Type 0
Places [] = Unit {0}
Places (k ∷ ks) = (k < 136) × Places ks

-- k is none of these places
abbrev pub NoneOf : ℕ → List ℕ → Type 0
NoneOf k [] = Unit {0}
NoneOf k (j ∷ js) = (k ≡ j → ⊥) × NoneOf k js

-- C is B, or B with one of its first n bits changed
pub data Near (n : ℕ) (B : List ℕ) : List ℕ → Type 0 where
  same : Near n B B
  changed : (k : ℕ) → k < n → Near n B (flip k B)

-- in how many places two rows of bits differ
unfoldable pub differences : List ℕ → List ℕ → ℕ
differences [] ys = 0
differences (x ∷ xs) [] = 0
differences (x ∷ xs) (y ∷ ys) = cond (eqb x y) (differences xs ys) (suc (differences xs ys))

-- in how many bits two blocks differ
unfoldable pub distance : List ℕ → List ℕ → ℕ
distance B C = differences (bits B) (bits C)
