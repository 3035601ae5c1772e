-- `block_maker::useful_at` meets its contract. Assumes nothing.
use mathlib.Core.Path.{sym, ◌∙◌}
use Rattle.block_maker.proofs.Stores.{useful_in, useful_past}
use Rattle.block_maker.proofs.useful_at.Goals as goal

pub returns-then-i-values : goal.returns-then-i-values
returns-then-i-values c =
    c.with_parity.ensures ∙ sym (useful_in c.args.values.now c.args.i c.if-i-values.true)

pub returns-else-i-values : goal.returns-else-i-values
returns-else-i-values c =
    sym (useful_past c.args.values.now c.args.i c.if-i-values.false)
