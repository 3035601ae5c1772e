-- The theorem is proved where its words are. Assumes nothing.
use Rattle.board_pieces.proofs.Noting.{noted_numbers, places, not_taken, too_few, notes_cut}
use Rattle.board_demands.proofs.a_piece_with_notes_is_that_piece.Goals as goal

pub returns : goal.returns
returns c = record {
  number = noted_numbers;
  places = places;
  fewer = λ b xs r n h. (not_taken b xs r n h, too_few b xs r n h);
  cut = notes_cut;
}
