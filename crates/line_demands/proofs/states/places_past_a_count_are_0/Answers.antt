-- The theorem is proved where its words are. Assumes nothing.
use Rattle.line_receiver.proofs.Padding.{cleared}
use Rattle.line_demands.proofs.states.places_past_a_count_are_0.Goals as goal

pub returns : goal.returns
returns c = cleared
