-- The theorem is proved where its words are. Assumes nothing.
use Rattle.values.proofs.Found.{none_large, lowest}
use Rattle.block_demands.proofs.demand_one.the_lowest_place_is_named.Goals as goal

pub returns : goal.returns
returns c = record {
  by_index = lowest;
  none = none_large;
}
