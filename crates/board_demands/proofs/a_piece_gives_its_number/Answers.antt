-- The theorem is proved where its words are. Assumes nothing.
use Rattle.board_pieces.proofs.Numbered.{numbers}
use Rattle.board_pieces.proofs.Taken.{has_room, takes, taken_whole, nothing_taken}
use Rattle.board_demands.proofs.a_piece_gives_its_number.Goals as goal

pub returns : goal.returns
returns c = record {
  number = numbers;
  room = λ b xs r. (has_room b xs r, takes b xs r);
  whole = taken_whole;
  kept = nothing_taken;
}
