-- The theorem is proved where its words are. Assumes nothing.
use Rattle.block_validity.proofs.Odd.{one_bit}
use Rattle.block_reader.proofs.Mending.{mended_where, parity_mended_where}
use Rattle.block_demands.proofs.demand_three.mended_where_the_remainder_points_into_the_one_odd_byte.Goals as goal

pub returns : goal.returns
returns c = record {
  by_index = mended_where;
  one = one_bit;
  parity = parity_mended_where;
}
