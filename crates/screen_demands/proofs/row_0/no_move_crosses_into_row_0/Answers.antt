-- The theorem is proved where its words are. Assumes nothing.
use Rattle.screen_motion.proofs.Rows.{left_side, right_side, up_side, first_side, down_side}
use Rattle.screen_demands.proofs.row_0.no_move_crosses_into_row_0.Goals as goal

pub returns : goal.returns
returns c = (λ p. (left_side p, right_side p, up_side p, first_side p, down_side p))
