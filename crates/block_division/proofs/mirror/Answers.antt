-- `block_division::mirror` meets its contract: what it makes of a byte is computed at all 256. Assumes nothing.
use mathlib.Core.Path.{ap, ◌∙◌}
use Prim.Native.Nat.{ℕ, ◌/◌}
use borrow.Author.Rules.{rules}
use Rattle.std.proofs.Common.{w8}
use Rattle.std.specs.Int.{reverse_bits, reverse_bits_onto}
use Rattle.laws.proofs.Computed.{equal_at}
use Rattle.block_division.specs.Division.{low_bits}
use Rattle.block_division.specs.Polynomials.{polynomial}
use Rattle.block_division.specs.Table.{mirrored}
use Rattle.block_division.proofs.mirror.Goals as goal

-- the eighth bit, which comes first, goes
abbrev made : ℕ → ℕ
made c = reverse_bits w8 c / 2

pub returns : goal.returns
unfolding reverse_bits_onto low_bits mirrored polynomial
returns c =
    ap (λ (x : ℕ). x / 2) c.reverse_bits.ensures ∙ equal_at made mirrored 256 tt c.args.c (search rules)
