-- The theorem is proved where its words are. Assumes nothing.
use Rattle.links.proofs.Own.{own}
use Rattle.links_demands.proofs.replying.each_has_its_own_sequence.Goals as goal

pub returns : goal.returns
returns c = own
