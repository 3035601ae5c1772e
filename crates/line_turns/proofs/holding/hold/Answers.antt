-- `line_turns::holding::hold` meets its contract. Assumes nothing.
use Rattle.std.proofs.Common.{rules, arith, sym, ◌∙◌}
use Rattle.line_turns.proofs.Held.{holds_some, holds_none}
use Rattle.line_turns.proofs.holding.hold.Goals as goal

pub returns-then-not-is_holding : goal.returns-then-not-is_holding
returns-then-not-is_holding c =
    holds_none c.args.r c.args.bytes.now (sym c.is_holding.ensures ∙ c.if-not-is_holding.true)

pub returns-then-bytes-ge16 : goal.returns-then-bytes-ge16
returns-then-bytes-ge16 c =
    holds_some c.args.r c.args.bytes.now (sym c.is_holding.ensures ∙ c.if-not-is_holding.false) (search rules) 16
    (omega arith) c.fill.ensures

pub returns : goal.returns
returns c =
    holds_some c.args.r c.args.bytes.now (sym c.is_holding.ensures ∙ c.if-not-is_holding.false) (search rules)
    c.min-count.result c.min-count.ensures c.fill-2.ensures
