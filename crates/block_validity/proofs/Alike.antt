-- The code is linear: what hits make of any valid block is the sum of that block and of what the same hits make of
-- seventeen zeros, and the two are valid alike. Assumes nothing.
use mathlib.Core.Path.{◌≡◌, ap, ap₂, ◌∙◌, subst}
use mathlib.Core.Bool.{◌&&◌}
use mathlib.Core.List.{List, [], ◌∷◌}
use Prim.Native.Nat.{ℕ, ◌/◌, ◌%◌, ◌^◌}
use lib.Dec.{eqb}
use lib.ListN.{length, get_or, replicate}
use lib.Bits.{bit_xor}
use Rattle.laws.proofs.Sums.{Sum, sum_length, sum_take, sum_at, sum_zeros, sum_add}
use Rattle.block_parity.proofs.Parities.{all_even_sum}
use Rattle.block_validity.specs.Block.{remainder, valid, Valid}
use Rattle.block_validity.specs.Changed.{flip, hits}
use Rattle.block_validity.proofs.Powers.{remainder_sum}
use Rattle.block_validity.proofs.Validity.{valid_even, valid_remainder, valid_last}

module _ {W B C : List ℕ} (s : Sum W B C) where
  -- a bit changed in both
  pub flip_alike : (k : ℕ) → Sum W (flip k B) (flip k C)
  unfolding flip
  flip_alike k = sum_add (k / 8) (2 ^ (k % 8)) s

  pub valid_alike : Valid W → valid C ≡ valid B
  unfolding valid
  valid_alike v =
      ap₂ ◌&&◌
      (ap₂ ◌&&◌
      (ap₂ ◌&&◌ (ap (λ (n : ℕ). eqb n 17) (sum_length s)) (all_even_sum (sum_take 16 s) (valid_even W v)))
      (ap (λ (n : ℕ). eqb n 0)
      (remainder_sum s ∙ ap (λ (n : ℕ). bit_xor n (remainder B)) (valid_remainder W v))))
      (ap (λ (n : ℕ). eqb n 0) (sum_at 16 s ∙ ap (λ (n : ℕ). bit_xor n (get_or B 16 0)) (valid_last W v)))

pub hits_sum : (ks W : List ℕ) → length W ≡ 17 → Sum W (hits ks (replicate 17 0)) (hits ks W)
unfolding hits
hits_sum [] W e = subst (λ (n : ℕ). Sum W (replicate n 0) W) e (sum_zeros W)
hits_sum (k ∷ ks) W e = flip_alike (hits_sum ks W e) k
