-- The theorem is proved where its words are. Assumes nothing.
use Rattle.block_maker.proofs.Blocks.{made_valid, values_back}
use Rattle.block_maker.proofs.Left.{left_block}
use Rattle.block.proofs.Returned.{made_clean, made_handed}
use Rattle.block_demands.proofs.demand_two.what_the_maker_writes_the_reader_hands_back.Goals as goal

pub returns : goal.returns
returns c = record {
  by_index = λ vs h f. (made_valid vs h, made_clean vs h, made_handed vs h, values_back vs h f);
  written = left_block;
}
