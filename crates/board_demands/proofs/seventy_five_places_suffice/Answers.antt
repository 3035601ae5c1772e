-- The theorem is proved where its words are. Assumes nothing.
use Rattle.board_feeding.proofs.Suffices.{enough}
use Rattle.board_demands.proofs.seventy_five_places_suffice.Goals as goal

pub returns : goal.returns
returns c = enough
