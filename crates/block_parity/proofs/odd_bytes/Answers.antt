-- `block_parity::odd_bytes` meets its contract. Assumes nothing.
use mathlib.Core.Path.{◌∙◌}
use Rattle.std.proofs.Common.{rules, tests}
use Rattle.std.proofs.lemmas.Iterator.{YieldsList-from_slice}
use Rattle.std.proofs.lemmas.Iterator.Consumers.{fold_from_yields_List}
use Rattle.block_parity.proofs.Parities.{summed, odds_summed}
use Rattle.block_parity.proofs.odd_bytes.Goals as goal

pub returns : goal.returns
returns c =
    fold_from_yields_List _ summed 0 _ c.fold.ensures.ran
    (YieldsList-from_slice c.args.bytes.now cc) (λ a x b q k. search (rules, tests))
    ∙ odds_summed c.args.bytes.now (search rules)
