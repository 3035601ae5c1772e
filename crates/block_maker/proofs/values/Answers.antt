-- `block_maker::values` meets its contract: the first places hold values, and the others are as they began. Assumes
-- nothing.
use mathlib.Core.Path.{◌≡◌, ap, ap₂, sym, ◌∙◌}
use mathlib.Core.List.{List, ◌++◌, append-nil}
use Prim.Native.Nat.{ℕ}
use native.Mathlib.Omega.{arith}
use lib.ListN.{length, take, drop, set, replicate}
use lib.Seq.{take_all}
use borrow.Author.Rules.{rules}
use Rattle.laws.proofs.Lists.{put}
use Rattle.block_maker.specs.Making.{values_of}
use Rattle.block_maker.proofs.Blocks.{values_length, value_at}
use Rattle.block_maker.proofs.values.Goals as goal

pub loop-place-preserved : goal.loop-place-preserved
loop-place-preserved c =
    let B : List ℕ = c.args.bytes in
    let i : ℕ = c.loop-place.place in
    let l : length (values_of B) ≡ 15 = values_length B (search rules) in
    ap₂ (λ (x : List ℕ) (y : ℕ). set x i y) c.loop-place.invariant (sym (value_at B i (omega arith)))
    ∙ put (values_of B) (replicate 15 0) i 0 (omega arith) (omega arith)

pub returns : goal.returns
returns c =
    let B : List ℕ = c.args.bytes in
    let e : c.loop-place.place ≡ 15 = omega arith in
    let l : length (values_of B) ≡ 15 = values_length B (search rules) in
    c.loop-place.invariant ∙ ap (λ (n : ℕ). take n (values_of B) ++ drop n (replicate 15 0)) e
    ∙ append-nil (take 15 (values_of B)) ∙ take_all 15 (values_of B) (omega arith)
