-- `block_parity::is_even` meets its contract: the bit that is left of each byte is its parity, computed at all 256.
-- Assumes nothing.
use mathlib.Core.Path.{ap}
use Prim.Native.Nat.{ℕ, ◌/◌, ◌%◌}
use lib.Dec.{eqb}
use lib.Bits.{bit_xor}
use borrow.Author.Rules.{rules}
use Rattle.laws.proofs.Computed.{Equal, equal_at}
use Rattle.block_division.specs.Division.{low_bits}
use Rattle.block_parity.specs.Parity.{ones, even}
use Rattle.block_parity.proofs.is_even.Goals as goal

abbrev four : ℕ → ℕ
four b = bit_xor b (b / 16)

abbrev two : ℕ → ℕ
two b = bit_xor (four b) (four b / 4)

abbrev one : ℕ → ℕ
one b = bit_xor (two b) (two b / 2)

all_right : Equal (λ b. one b % 2) (λ b. ones (low_bits 8 b) % 2) 256
unfolding ones low_bits
all_right = tt

pub returns : goal.returns
unfolding even
returns c =
    ap (λ (x : ℕ). eqb x 0)
    (equal_at (λ b. one b % 2) (λ b. ones (low_bits 8 b) % 2) 256 all_right c.args.byte (search rules))
