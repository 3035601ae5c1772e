-- The theorem is proved where its words are. Assumes nothing.
use Rattle.line_receiver.proofs.Waits.{waits}
use Rattle.line_demands.proofs.runs.waiting_ends_at_the_first_resumption.Goals as goal

pub returns : goal.returns
returns c = waits
