-- The theorem is proved where its words are. Assumes nothing.
use Rattle.block_division.proofs.Entering.{byte_more, place_lt, back_again}
use Rattle.block_demands.proofs.demand_two.a_byte_enters_the_division_in_one_step.Goals as goal

pub returns : goal.returns
returns c = record {
  by_index = byte_more;
  place = place_lt;
  back = back_again;
}
