-- The theorem is proved where its words are. Assumes nothing.
use Rattle.board.proofs.Refusals.{numbers, broken, large, nothing_moves}
use Rattle.board_demands.proofs.each_call_gives_its_number.Goals as goal

pub returns : goal.returns
returns c = record {
  number = numbers;
  broken = broken;
  large = large;
  unmoved = nothing_moves;
}
