-- The theorem is proved where its words are. Assumes nothing.
use Rattle.line_receiver.proofs.WhileOff.{value_passes, odd_passes}
use Rattle.line_demands.proofs.runs.while_off_each_byte_passes_by_itself.Goals as goal

pub returns : goal.returns
returns c = record {
  even = value_passes;
  odd = odd_passes;
}
