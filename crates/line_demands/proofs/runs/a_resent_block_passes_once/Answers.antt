-- The theorem is proved where its words are. Assumes nothing.
use Rattle.block_reader.proofs.Verdicts.{once_none}
use Rattle.line_receiver.proofs.Whole.{sending, twice_far}
use Rattle.line_demands.proofs.runs.a_resent_block_passes_once.Goals as goal

pub returns : goal.returns
returns c = record {
  once = sending;
  twice = twice_far;
  alone = once_none;
}
