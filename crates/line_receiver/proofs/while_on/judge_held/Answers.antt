-- `line_receiver::while_on::judge_held` meets its contract: the verdict is the one judged, and an array of fifteen is
-- full. Assumes nothing.
use Rattle.std.proofs.Common.{rules, sym, ◌∙◌}
use Rattle.line_receiver.proofs.Cases.{passed_on, asked_for}
use Rattle.line_receiver.proofs.while_on.judge_held.Goals as goal

pub returns-then-accepts : goal.returns-then-accepts
returns-then-accepts c =
    passed_on c.args.r c.args.byte c.mend-verdict.result c.mend-verdict.new.block c.mend-verdict.ensures
    (sym c.accepts.ensures ∙ c.if-accepts.true) c.silent.result
    (simp (c.silent.ensures, c.emptied.ensures, c.next_number-after.ensures)) c.of.ensures c.values-values.ensures
    (search rules)

pub returns-else-accepts : goal.returns-else-accepts
returns-else-accepts c =
    asked_for c.args.r c.args.byte c.mend-verdict.result c.mend-verdict.new.block c.mend-verdict.ensures
    (sym c.accepts.ensures ∙ c.if-accepts.false) c.ask.result (simp (c.ask.ensures, c.emptied-else-accepts.ensures))
