-- The theorem is proved where its words are. Assumes nothing.
use Rattle.board.proofs.Ranges.{tested, passed_in, fresh_in}
use Rattle.board.proofs.Parts.{apart}
use Rattle.board_demands.proofs.every_event_keeps_the_range.Goals as goal

pub returns : goal.returns
returns c = record {
  anew = fresh_in;
  runs = λ b i es. (apart es b i).range;
  tested = tested;
  passed = passed_in;
}
