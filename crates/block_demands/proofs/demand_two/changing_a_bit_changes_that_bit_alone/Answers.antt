-- The theorem is proved where its words are. Assumes nothing.
use Rattle.block_validity.proofs.Flips.{flip_bits}
use Rattle.block_demands.proofs.demand_two.changing_a_bit_changes_that_bit_alone.Goals as goal

pub returns : goal.returns
returns c = flip_bits
