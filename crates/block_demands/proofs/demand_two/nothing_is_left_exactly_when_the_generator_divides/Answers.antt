-- The theorem is proved where its words are. Assumes nothing.
use Rattle.block_validity.proofs.Powers.{divisible}
use Rattle.block_demands.proofs.demand_two.nothing_is_left_exactly_when_the_generator_divides.Goals as goal

pub returns : goal.returns
returns c = divisible
