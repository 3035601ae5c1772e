-- The theorem is proved where its words are. Assumes nothing.
use Rattle.board.proofs.Shown.{page_shown, page_met}
use Rattle.board_pieces.proofs.Shown.{piece_shown}
use Rattle.board_demands.proofs.Example.{example}
use Rattle.board_demands.proofs.the_page_shown_is_the_page_sent.Goals as goal

pub returns : goal.returns
returns c = record {
  by_index = page_shown;
  piece = piece_shown;
  met = page_met;
  example = example;
}
