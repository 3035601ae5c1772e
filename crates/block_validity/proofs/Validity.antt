-- What validity says: of worked blocks, and part by part. Assumes nothing.
use mathlib.Core.Path.{◌≡◌, refl}
use mathlib.Core.Bool.{true, false, ◌&&◌}
use mathlib.Core.List.{List, [], ◌∷◌, ◌++◌}
use Prim.Native.Nat.{ℕ}
use lib.Dec.{T, eqb, eqb→eq}
use lib.ListN.{length, get_or, take, replicate}
use borrow.Author.Tests.{eq-eqb}
use Rattle.laws.proofs.Computed.{and_left, and_right, both, holds}
use Rattle.block_division.specs.Division.{low_bits, bits, reduce, divide}
use Rattle.block_parity.specs.Parity.{ones, even, all_even}
use Rattle.block_validity.specs.Block.{code_bits, remainder, valid, Valid}

-- ---- worked blocks: W1 of 01 is valid; W5 (byte 16), W6 (byte 17), W7 (the remainder), and W1 with a byte more or
-- less are not, each for that one reason

pub worked :
    (valid (replicate 17 0) ≡ true) × (valid (replicate 15 0 ++ (128 ∷ 0 ∷ [])) ≡ false)
    × (valid (replicate 16 0 ++ (1 ∷ [])) ≡ false) × (valid (3 ∷ replicate 16 0) ≡ false)
    × (valid (replicate 18 0) ≡ false) × (valid (replicate 16 0) ≡ false)
unfolding low_bits bits reduce divide ones even all_even code_bits remainder valid
worked = (refl, refl, refl, refl, refl, refl)

-- ---- any block

module _ (B : List ℕ) (v : Valid B) where
  v₁ : T (eqb (length B) 17 && all_even (take 16 B) && eqb (remainder B) 0)
  unfolding valid
  v₁ = and_left (eqb (length B) 17 && all_even (take 16 B) && eqb (remainder B) 0) (eqb (get_or B 16 0) 0) v

  v₂ : T (eqb (length B) 17 && all_even (take 16 B))
  v₂ = and_left (eqb (length B) 17 && all_even (take 16 B)) (eqb (remainder B) 0) v₁

  pub valid_length : length B ≡ 17
  valid_length = eqb→eq (length B) 17 (and_left (eqb (length B) 17) (all_even (take 16 B)) v₂)

  pub valid_even : T (all_even (take 16 B))
  valid_even = and_right (eqb (length B) 17) (all_even (take 16 B)) v₂

  pub valid_remainder : remainder B ≡ 0
  valid_remainder =
      eqb→eq (remainder B) 0 (and_right (eqb (length B) 17 && all_even (take 16 B)) (eqb (remainder B) 0) v₁)

  pub valid_last : get_or B 16 0 ≡ 0
  unfolding valid
  valid_last =
      eqb→eq (get_or B 16 0) 0
      (and_right (eqb (length B) 17 && all_even (take 16 B) && eqb (remainder B) 0) (eqb (get_or B 16 0) 0) v)

pub is_valid : (B : List ℕ) → length B ≡ 17 → T (all_even (take 16 B)) → remainder B ≡ 0 → get_or B 16 0 ≡ 0 → Valid B
unfolding valid
is_valid B l e r z =
    both (eqb (length B) 17 && all_even (take 16 B) && eqb (remainder B) 0) (eqb (get_or B 16 0) 0)
    (both (eqb (length B) 17 && all_even (take 16 B)) (eqb (remainder B) 0)
    (both (eqb (length B) 17) (all_even (take 16 B)) (holds (eq-eqb (length B) 17 l)) e)
    (holds (eq-eqb (remainder B) 0 r))) (holds (eq-eqb (get_or B 16 0) 0 z))
