-- The theorem is proved where its words are. Assumes nothing.
use Rattle.block_validity.proofs.ParityBit.{weight_128, no_code_bit}
use Rattle.block_reader.proofs.Mendable.{code_bits_and_one, no_other}
use Rattle.block_demands.proofs.demand_three.the_mendable_bits_are_the_code_bits_and_the_parity_bit_of_byte_16.Goals as goal

pub returns : goal.returns
returns c = record {
  by_index = code_bits_and_one;
  parity = λ B l. (weight_128 B, no_code_bit B l);
  others = λ B C l z n v. no_other B l z n v;
}
