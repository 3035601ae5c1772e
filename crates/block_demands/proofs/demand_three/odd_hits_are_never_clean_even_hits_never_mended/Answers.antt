-- The theorem is proved where its words are. Assumes nothing.
use Rattle.block_reader.proofs.Verdicts.{odd_not_clean, even_not_mended}
use Rattle.block_reader.proofs.Mendable.{mended_by_one_more}
use Rattle.block_demands.proofs.Computed.{another}
use Rattle.block_demands.proofs.demand_three.odd_hits_are_never_clean_even_hits_never_mended.Goals as goal

pub returns : goal.returns
returns c = record {
  odd = odd_not_clean;
  even = even_not_mended;
  fourth = mended_by_one_more;
  reached = another;
}
