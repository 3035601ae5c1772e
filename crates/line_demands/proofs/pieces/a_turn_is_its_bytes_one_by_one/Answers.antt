-- The theorem is proved where its words are. Assumes nothing.
use Rattle.line_turns.proofs.Steps.{taken_singly, whole_stretch, no_bytes}
use Rattle.line_demands.proofs.pieces.a_turn_is_its_bytes_one_by_one.Goals as goal

pub returns : goal.returns
returns c = record {
  taken_singly = taken_singly;
  whole = whole_stretch;
  none = no_bytes;
}
