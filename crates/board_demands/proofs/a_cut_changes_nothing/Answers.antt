-- The theorem is proved where its words are. Assumes nothing.
use Rattle.board_pieces.proofs.Cut.{in_two, in_one}
use Rattle.board_pieces.proofs.Numbered.{cut_run, cut_handed, cut_asked}
use Rattle.board_demands.proofs.a_cut_changes_nothing.Goals as goal

pub returns : goal.returns
returns c = record {
  in_two = in_two;
  whole = in_one;
  board = cut_run;
  handed = cut_handed;
  asked = cut_asked;
}
