-- The theorem is proved where its words are. Assumes nothing.
use Rattle.line_receiver.proofs.Outgoing.{answers}
use Rattle.line_demands.proofs.states.each_call_gives_its_number.Goals as goal

pub returns : goal.returns
returns c = answers
