-- The theorem is proved where its words are. Assumes nothing.
use Rattle.links.proofs.Few.{few}
use Rattle.links_demands.proofs.states.at_most_five_small_bytes.Goals as goal

pub returns : goal.returns
returns c = few
