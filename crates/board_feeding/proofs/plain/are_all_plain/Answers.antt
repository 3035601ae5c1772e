-- `board_feeding::plain::are_all_plain` meets its contract. Assumes nothing.
use mathlib.Core.Path.{◌∙◌}
use mathlib.Core.Bool.{Bool, true, ◌&&◌}
use Prim.Native.Nat.{ℕ}
use Rattle.std.proofs.Common.{rules, tests}
use Rattle.std.proofs.lemmas.Iterator.{YieldsList-from_slice}
use Rattle.std.proofs.lemmas.Iterator.Consumers.{fold_from_yields_List}
use Rattle.board_feeding.specs.Plain.{plain}
use Rattle.board_feeding.proofs.Passed.{folded}
use Rattle.board_feeding.proofs.plain.are_all_plain.Goals as goal

pub returns : goal.returns
returns c =
    fold_from_yields_List _ (λ (all : Bool) (v : ℕ). plain v && all) true _ c.fold.ensures.ran
    (YieldsList-from_slice c.args.values cc) (λ a x v q k. search (rules, tests))
    ∙ folded c.args.values
