-- The theorem is proved where its words are. Assumes nothing.
use mathlib.Core.Path.{refl}
use Rattle.board.proofs.Fresh.{fresh_receiver, fresh_statuses, fresh_free, fresh_screen_lem}
use Rattle.board_demands.proofs.a_fresh_board_is_off_local_and_blank.Goals as goal

pub returns : goal.returns
returns c = record {
  off = fresh_receiver;
  local = (fresh_statuses, fresh_free, refl);
  blank = fresh_screen_lem;
}
