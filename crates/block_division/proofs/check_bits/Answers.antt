-- `block_division::check_bits` meets its contract: m is the check bits so far, mirrored. Assumes nothing.
use mathlib.Core.Path.{◌≡◌, refl, ap, ◌∙◌}
use mathlib.Core.List.{List}
use Prim.Native.Nat.{ℕ, ◌+◌, ◌<◌}
use native.Mathlib.Omega.{arith}
use lib.ListN.{length, get_or, take}
use lib.Seq.{take_all}
use lib.Bits.{bit_xor, xor_lt}
use Rattle.block_division.specs.Division.{low_bits, bits, reduce, divide, check_bits}
use Rattle.block_division.specs.Polynomials.{polynomial}
use Rattle.block_division.specs.Table.{mirrored, entering, Remainders}
use Rattle.block_division.proofs.Entering.{rule, next_byte, so_far_lt, back_again}
use Rattle.block_division.proofs.check_bits.Goals as goal

-- what the table has for the byte in place i, with the check bits of those before it added
looked_up : (table : List ℕ) (B : List ℕ) (i m k : ℕ) → Remainders table → m ≡ mirrored (check_bits (take i B))
    → i < length B → get_or B i 0 < 256 → k ≡ bit_xor m (get_or B i 0)
    → get_or table k 0 ≡ mirrored (check_bits (take (i + 1) B))
unfolding Remainders
looked_up table B i m k r e h l f =
    let b : ℕ = get_or B i 0 in
    let m_less : m < 256 = omega (arith, e, so_far_lt (take i B)) in
    ap (λ (x : ℕ). get_or table x 0) f ∙ r (bit_xor m b) (xor_lt 8 m b m_less l)
    ∙ ap (λ (x : ℕ). entering (bit_xor x b)) e ∙ next_byte B i h

-- the table's rule is shown here, once: the last part is the test over all 256 entries, computed
pub loop-byte-init : goal.loop-byte-init
unfolding check_bits bits divide reduce low_bits mirrored polynomial entering
loop-byte-init c = (refl, rule _ tt)

pub loop-byte-preserved : goal.loop-byte-preserved
loop-byte-preserved c =
    let l = c.loop-byte in
    let b : List ℕ = c.args.bytes.now in (
      looked_up _ b l.byte-index l.m c.from.result l.invariant.1 l.invariant.0 (omega arith)
          (omega (arith, c.type_inv.bytes l.byte-index)) c.from.ensures,
      l.invariant.1,
    )

pub returns : goal.returns
returns c =
    let l = c.loop-byte in
    let b : List ℕ = c.args.bytes.now in
    c.mirror.ensures ∙ ap mirrored l.invariant.0 ∙ back_again (take l.byte-index b)
    ∙ ap check_bits (take_all l.byte-index b (omega arith))
