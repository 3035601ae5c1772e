-- `block_parity::are_even` meets its contract. Assumes nothing.
use mathlib.Core.Path.{◌∙◌}
use mathlib.Core.Bool.{Bool, true, ◌&&◌}
use Prim.Native.Nat.{ℕ}
use Rattle.std.proofs.Common.{rules, tests}
use Rattle.std.proofs.lemmas.Iterator.{YieldsList-from_slice}
use Rattle.std.proofs.lemmas.Iterator.Consumers.{fold_from_yields_List}
use Rattle.block_parity.specs.Parity.{even}
use Rattle.block_parity.proofs.Parities.{all_folded}
use Rattle.block_parity.proofs.are_even.Goals as goal

pub returns : goal.returns
returns c =
    fold_from_yields_List _ (λ (all : Bool) (b : ℕ). even b && all) true _ c.fold.ensures.ran
    (YieldsList-from_slice c.args.bytes.now cc) (λ a x b q k. search (rules, tests))
    ∙ all_folded c.args.bytes.now
