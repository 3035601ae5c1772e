-- The theorem is proved where its words are. Assumes nothing.
use Rattle.board.proofs.Parts.{apart}
use Rattle.board_demands.proofs.each_part_goes_its_own_way.Goals as goal

pub returns : goal.returns
returns c = λ b i es. apart es b i
