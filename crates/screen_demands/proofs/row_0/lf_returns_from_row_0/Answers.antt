-- The theorem is proved where its words are. Assumes nothing.
use Rattle.screen.proofs.Returned.{returned}
use Rattle.screen_demands.proofs.Staying.{met}
use Rattle.screen_demands.proofs.row_0.lf_returns_from_row_0.Goals as goal

pub returns : goal.returns
returns c = record {
  returns = returned;
  met = met;
}
