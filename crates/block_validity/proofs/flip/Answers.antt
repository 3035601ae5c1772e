-- `block_validity::flip` meets its contract: the shift makes the powers of two. Assumes nothing.
use mathlib.Core.Path.{◌≡◌, sym, ap}
use mathlib.Core.List.{List}
use Prim.Native.Nat.{ℕ, ◌*◌, ◌/◌, ◌%◌, ◌^◌}
use native.Mathlib.Omega.{arith}
use lib.ListN.{get_or, set}
use lib.Seq.{set_out}
use Rattle.laws.proofs.Computed.{equal_at}
use Rattle.block_validity.specs.Changed.{turned, flip}
use Rattle.block_validity.proofs.flip.Goals as goal

weight : (k : ℕ) → 1 * 2 ^ (k % 8) % 256 ≡ 2 ^ (k % 8)
weight k = equal_at (λ (j : ℕ). 1 * 2 ^ j % 256) (λ (j : ℕ). 2 ^ j) 8 tt (k % 8) (omega arith)

pub returns-then-at-block : goal.returns-then-at-block
unfolding flip
returns-then-at-block c =
    let b : List ℕ = c.args.block.now in
    let k : ℕ = c.args.k in
    ap (λ (x : ℕ). set b (k / 8) (turned (get_or b (k / 8) 0) x)) (weight k)

pub returns-else-at-block : goal.returns-else-at-block
unfolding flip
returns-else-at-block c = sym (set_out c.args.block.now (c.args.k / 8) _ c.if-at-block.false)
