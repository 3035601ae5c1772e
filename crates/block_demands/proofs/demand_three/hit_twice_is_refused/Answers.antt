-- The theorem is proved where its words are. Assumes nothing.
use Rattle.block_reader.proofs.Verdicts.{twice_refused}
use Rattle.block_demands.proofs.demand_three.hit_twice_is_refused.Goals as goal

pub returns : goal.returns
returns c = twice_refused
