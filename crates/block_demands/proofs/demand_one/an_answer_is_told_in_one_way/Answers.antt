-- The theorem is proved where its words are. Assumes nothing.
use Rattle.block_maker.proofs.Numbered.{told_one as one-made}
use Rattle.block_reader.proofs.Handed.{told_one as one-verdict, bit_mended, bit_none}
use Rattle.block_demands.proofs.demand_one.an_answer_is_told_in_one_way.Goals as goal

pub returns : goal.returns
returns c = record {
  making = one-made;
  judging = one-verdict;
  bit = λ B. (bit_mended B, bit_none B);
}
