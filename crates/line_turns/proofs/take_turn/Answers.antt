-- `line_turns::take_turn` meets its contract. Assumes nothing.
use Rattle.std.proofs.Common.{arith}
use Rattle.line_turns.proofs.Held.{goes_on, ends}
use Rattle.line_turns.proofs.take_turn.Goals as goal

pub returns-then-count-bytes : goal.returns-then-count-bytes
returns-then-count-bytes c =
    goes_on c.args.receiver c.args.bytes.now c.hold-count.result c.hold-count.ensures (omega arith)
    c.step-stepped.ensures c.note_on.ensures

pub returns-else-count-bytes : goal.returns-else-count-bytes
returns-else-count-bytes c =
    ends c.args.receiver c.args.bytes.now c.hold-count.result c.hold-count.ensures (omega arith) c.silent.ensures
