-- The parity bit of byte 16: bit 127 in block order, the one behind the code bits, and none of them. Assumes nothing.
use mathlib.Core.Path.{◌≡◌, refl, subst}
use mathlib.Core.List.{List}
use Prim.Native.Nat.{ℕ}
use lib.ListN.{length, get_or, set, replicate}
use Rattle.laws.proofs.Sums.{Sum, sum_one, sum_zeros}
use Rattle.block_division.specs.Division.{low_bits, bits, reduce, divide}
use Rattle.block_validity.specs.Block.{code_bits, remainder}
use Rattle.block_validity.specs.Changed.{turned, flip}
use Rattle.block_validity.specs.Units.{unit}
use Rattle.block_validity.proofs.Powers.{code_length, code_sum}
use Rattle.block_validity.proofs.Flips.{flip_sum}

-- weight 128 of byte 16
pub weight_128 : (B : List ℕ) → flip 127 B ≡ set B 15 (turned (get_or B 15 0) 128)
unfolding flip
weight_128 B = refl

alone : code_bits (unit 127) ≡ replicate 127 0
unfolding code_bits bits low_bits
alone = refl

pub no_code_bit : (B : List ℕ) → length B ≡ 17 → code_bits (flip 127 B) ≡ code_bits B
no_code_bit B e =
    sum_one
    (subst (λ (l : List ℕ). Sum (code_bits B) l (code_bits (flip 127 B))) alone (code_sum (flip_sum 127 B e)))
    (subst (λ (n : ℕ). Sum (code_bits B) (replicate n 0) (code_bits B)) (code_length B e) (sum_zeros (code_bits B)))

-- so it leaves nothing
pub leaves_nothing : remainder (unit 127) ≡ 0
unfolding remainder code_bits bits low_bits reduce divide
leaves_nothing = refl
