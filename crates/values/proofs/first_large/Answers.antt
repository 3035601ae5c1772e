-- `values::first_large` meets its contract. Assumes nothing.
use mathlib.Core.Path.{◌∙◌}
use Prim.Native.Nat.{◌<◌}
use Rattle.std.proofs.Common.{rules, tests}
use Rattle.std.proofs.lemmas.Iterator.{IsFirst-from_position, YieldsList-from_slice}
use Rattle.values.proofs.Found.{found}
use Rattle.values.proofs.first_large.Goals as goal

pub returns : goal.returns
returns c =
    c.unwrap_or.ensures
    ∙ found c.args.values.now c.position.result
    (IsFirst-from_position _ _ _ (λ v. 127 < v) (λ v. v < 128) c.position.ensures.ran
    (YieldsList-from_slice c.args.values.now cc) (λ x q k. search (rules, tests)) (λ x q k. search (rules, tests)))
