-- The theorem is proved where its words are. Assumes nothing.
use Rattle.block_reader.proofs.Verdicts.{handed_on, asked_when_none}
use Rattle.block_reader.proofs.Handed.{handed_first}
use Rattle.block_demands.proofs.demand_three.handed_on_is_the_only_valid_block_near.Goals as goal

pub returns : goal.returns
returns c = record {
  only = handed_on;
  part = handed_first;
  asked = asked_when_none;
}
