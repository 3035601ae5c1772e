-- The theorem is proved where its words are. Assumes nothing.
use Rattle.line_receiver.proofs.Seventeen.{block_passes, block_asked}
use Rattle.line_demands.proofs.runs.each_seventeenth_byte_is_judged.Goals as goal

pub returns : goal.returns
returns c = record {
  near = block_passes;
  none = block_asked;
}
