-- `lent::add` meets its contract. Assumes nothing.
use mathlib.Core.Path.{◌≡◌, sym, ap₂, ◌∙◌}
use mathlib.Core.List.{List}
use Prim.Native.Nat.{ℕ, ◌+◌, ◌-◌}
use native.Mathlib.Omega.{arith}
use borrow.Rule.Slice.PartMut.{put_mid}
use Rattle.lent.proofs.Behind.{no_place, put_over}
use Rattle.lent.proofs.add.Goals as goal

pub returns-then-out-at-clause-left : goal.returns-then-out-at-clause-left
returns-then-out-at-clause-left c = sym (no_place _ _ _ c.if-out-at.true)

pub returns-clause-left : goal.returns-clause-left
returns-clause-left c =
    let a = c.args in
    let n : ℕ = c.min-fit.result in
    let fit : a.at + n - a.at ≡ n = omega arith in
    ap₂ (λ (k : ℕ) (x : List ℕ). put_mid a.at k a.out.now x) fit c.copy_from_slice.ensures.after
    ∙ put_over a.out.now a.at a.bytes.now n (omega arith) c.min-fit.ensures
