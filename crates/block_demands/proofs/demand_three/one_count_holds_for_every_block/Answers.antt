-- The theorem is proved where its words are. Assumes nothing.
use Rattle.block_reader.proofs.AsZeros.{same_verdict, same_return}
use Rattle.block_demands.proofs.demand_three.one_count_holds_for_every_block.Goals as goal

pub returns : goal.returns
returns c = record {
  judged = same_verdict;
  whole = same_return;
}
