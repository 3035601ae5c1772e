-- The theorem is proved where its words are. Assumes nothing.
use Rattle.board_pieces.proofs.Taken.{surely_taken}
use Rattle.board_demands.proofs.such_outputs_surely_suffice.Goals as goal

pub returns : goal.returns
returns c = surely_taken
