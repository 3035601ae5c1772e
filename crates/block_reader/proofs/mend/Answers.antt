-- `block_reader::mend` meets its contract: each answer is right, and so it is the judged one. Assumes nothing.
use mathlib.Core.Path.{◌≡◌, refl, sym, ap, ◌∙◌}
use mathlib.Core.List.{List}
use Prim.Native.Nat.{ℕ, ◌%◌}
use native.Mathlib.Nat.{mod-eq_of_lt}
use native.Mathlib.Omega.{arith}
use lib.Dec.{T}
use lib.ListN.{take}
use lib.Seq.{length-take-le}
use Rattle.laws.proofs.Computed.{fails, holds}
use Rattle.block_parity.specs.Parity.{all_even}
use Rattle.block_validity.specs.Block.{remainder}
use Rattle.block_validity.specs.Mending.{PointsTo}
use Rattle.block_validity.proofs.Powers.{remainder_lt}
use Rattle.block_reader.specs.declared.Verdict.TheVariants.{Clean, Mended, Repeat, WrongLength}
use Rattle.block_reader.proofs.Verdicts.{settled}
use Rattle.block_reader.proofs.Mending.{not_zero, clean, elsewhere, mended}
use Rattle.block_reader.proofs.mend.Goals as goal
use Rattle.block_reader.proofs.mend.Goals.{else-even-via-then-even+else-r-eq0, else-even-via-else-even}

-- what is found by a table is what the remainder points to
points : (b : List ℕ) (r k : ℕ) → r ≡ remainder b → PointsTo (r % 128) k → PointsTo (remainder b) k
points b r k e p = (p.0, p.1 ∙ ap (λ (x : ℕ). x % 128) e ∙ mod-eq_of_lt (remainder_lt b))

pub returns-then-block-ne17 : goal.returns-then-block-ne17
returns-then-block-ne17 c = settled c.args.block.now WrongLength c.if-block-ne17.true refl

pub returns-then-block-ne0 : goal.returns-then-block-ne0
returns-then-block-ne0 c =
    let b : List ℕ = c.args.block.now in
    settled b Repeat (not_zero b c.if-block-ne17.false c.if-block-ne0.true) refl

pub slice_bounds-are_even-end-2 : goal.slice_bounds-are_even-end-2
slice_bounds-are_even-end-2 c =
    sym (length-take-le _ c.args.block.now (omega arith))

pub returns-then-r-eq0 : goal.returns-then-r-eq0
returns-then-r-eq0 c =
    let b : List ℕ = c.args.block.now in
    settled b Clean
    (clean b c.if-block-ne17.false c.if-block-ne0.false (holds (sym c.are_even-even.ensures ∙ c.if-even.true))
    (sym c.remainder-r.ensures ∙ c.if-r-eq0.true)) refl

pub slice_bounds-odd_bytes-end-2 : goal.slice_bounds-odd_bytes-end-2
slice_bounds-odd_bytes-end-2 c = sym (length-take-le 16 c.args.block.now (omega arith))

pub returns-then-not-is_the_odd_one : goal.returns-then-not-is_the_odd_one
returns-then-not-is_the_odd_one c =
    let b : List ℕ = c.args.block.now in
    let r : c.remainder-r.result ≡ remainder b = c.remainder-r.ensures in
    let not_clean : T (all_even (take 16 b)) → remainder b ≡ 0 → ⊥ =
    elim c.else-even.branch [
      | else-even-via-then-even+else-r-eq0 w ↦ λ e z. w.if-r-eq0.false (r ∙ z)
      | else-even-via-else-even w ↦ λ e z. fails (sym c.are_even-even.ensures ∙ w.if-even.false) e
    ] in
    let p : PointsTo (remainder b) c.place-k.result = points b c.remainder-r.result c.place-k.result r c.place-k.ensures in
    settled b Repeat
    (elsewhere b c.if-block-ne17.false not_clean c.place-k.result p
    (simp (← c.odd_bytes-odd.ensures, ← c.is_the_odd_one.ensures) c.if-not-is_the_odd_one.true)) refl

pub returns : goal.returns
returns c =
    let b : List ℕ = c.args.block.now in
    let r : c.remainder-r.result ≡ remainder b = c.remainder-r.ensures in
    let not_clean : T (all_even (take 16 b)) → remainder b ≡ 0 → ⊥ =
    elim c.else-even.branch [
      | else-even-via-then-even+else-r-eq0 w ↦ λ e z. w.if-r-eq0.false (r ∙ z)
      | else-even-via-else-even w ↦ λ e z. fails (sym c.are_even-even.ensures ∙ w.if-even.false) e
    ] in
    let p : PointsTo (remainder b) c.place-k.result = points b c.remainder-r.result c.place-k.result r c.place-k.ensures in
    settled b (Mended c.place-k.result)
    (mended b c.if-block-ne17.false not_clean c.place-k.result p c.if-block-ne0.false
    (simp (← c.odd_bytes-odd.ensures, ← c.is_the_odd_one.ensures) c.if-not-is_the_odd_one.false)) c.flip.ensures
