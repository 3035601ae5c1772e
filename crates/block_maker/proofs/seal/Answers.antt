-- `block_maker::seal` meets its contract. Assumes nothing.
use mathlib.Core.Path.{sym, ap, ◌∙◌}
use mathlib.Core.List.{List}
use Prim.Native.Nat.{ℕ}
use native.Mathlib.Omega.{arith}
use lib.ListN.{set}
use lib.Seq.{length-take-le}
use Rattle.block_parity.specs.Parity.{with_parity}
use Rattle.block_maker.proofs.Stores.{seal_stores}
use Rattle.block_maker.proofs.seal.Goals as goal

pub slice_bounds-check_bits-end-2 : goal.slice_bounds-check_bits-end-2
slice_bounds-check_bits-end-2 c = sym (length-take-le 15 c.args.out.now (omega arith))

pub returns : goal.returns
returns c =
    let o : List ℕ = c.args.out.now in
    ap (λ (x : ℕ). set (set o 15 x) 16 0) (c.with_parity.ensures ∙ ap with_parity c.check_bits-c.ensures)
    ∙ seal_stores o c.requires
