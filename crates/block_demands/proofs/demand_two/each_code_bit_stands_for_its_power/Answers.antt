-- The theorem is proved where its words are. Assumes nothing.
use Rattle.block_validity.proofs.Powers.{power_of_useful, power_of_check}
use Rattle.block_demands.proofs.demand_two.each_code_bit_stands_for_its_power.Goals as goal

pub returns : goal.returns
returns c = record {
  useful = power_of_useful;
  check = power_of_check;
}
