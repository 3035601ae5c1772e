-- The theorem is proved where its words are. Assumes nothing.
use Rattle.block_reader.proofs.Verdicts.{once_whole, once_refused}
use Rattle.block_reader.proofs.Handed.{once_handed}
use Rattle.block_demands.proofs.demand_three.hit_once_comes_back_whole.Goals as goal

pub returns : goal.returns
returns c = record {
  by_index = λ W k v h. let o = once_whole W k v h in (o.0, o.1, once_handed W k v h);
  elsewhere = once_refused;
}
