-- `block_validity::remainder` meets its contract. Assumes nothing.
use mathlib.Core.Path.{sym, ap, ◌∙◌}
use mathlib.Core.List.{List}
use Prim.Native.Nat.{ℕ, ◌%◌}
use native.Mathlib.Omega.{arith}
use lib.ListN.{get_or}
use lib.Seq.{length-take-le}
use lib.Bits.{bit_xor}
use Rattle.block_validity.proofs.Powers.{remainder_by_check, remainder_short}
use Rattle.block_validity.proofs.remainder.Goals as goal

pub returns-then-block-lt16 : goal.returns-then-block-lt16
returns-then-block-lt16 c =
    c.check_bits.ensures
    ∙ sym (remainder_short c.args.block.now c.if-block-lt16.true)

pub slice_bounds-check_bits-end : goal.slice_bounds-check_bits-end
slice_bounds-check_bits-end c =
    sym (length-take-le 15 c.args.block.now (omega arith))

pub returns : goal.returns
returns c =
    let b : List ℕ = c.args.block.now in
    ap (λ (x : ℕ). bit_xor x (get_or b 15 0 % 128)) c.check_bits-2.ensures ∙ sym (remainder_by_check b)
