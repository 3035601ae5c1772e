-- `block_maker::fill` meets its contract: the first i bytes are useful ones, and the others as they were. Assumes
-- nothing.
use mathlib.Core.Path.{◌≡◌, ap, ap₂, ◌∙◌}
use mathlib.Core.List.{List, ◌++◌}
use Prim.Native.Nat.{ℕ}
use native.Mathlib.Omega.{arith}
use lib.ListN.{length, take, drop, set}
use lib.Seq.{take_all}
use Rattle.laws.proofs.Lists.{put}
use Rattle.block_maker.specs.Making.{useful}
use Rattle.block_maker.proofs.Blocks.{useful_length}
use Rattle.block_maker.proofs.fill.Goals as goal

pub loop-i-preserved : goal.loop-i-preserved
loop-i-preserved c =
    let n : length (useful c.args.values.now) ≡ 15 = useful_length c.args.values.now c.requires.0 in
    ap₂ (λ (x : List ℕ) (y : ℕ). set x c.loop-i.i y) c.loop-i.invariant c.useful_at.ensures
    ∙ put (useful c.args.values.now) c.args.out.now c.loop-i.i 0 (omega arith) (omega arith)

pub returns : goal.returns
returns c =
    let u : List ℕ = useful c.args.values.now in
    let o : List ℕ = c.args.out.now in
    let e : c.loop-i.i ≡ 15 = omega arith in
    let n : length u ≡ 15 = useful_length c.args.values.now c.requires.0 in
    c.loop-i.invariant ∙ ap (λ (i : ℕ). take i u ++ drop i o) e
    ∙ ap (λ (x : List ℕ). x ++ drop 15 o) (take_all 15 u (omega arith))
