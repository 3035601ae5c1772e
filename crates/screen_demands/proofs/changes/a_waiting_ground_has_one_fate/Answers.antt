-- The theorem is proved where its words are. Assumes nothing.
use Rattle.screen_cells.proofs.Takers.{taker, mosaic_takes, space_takes}
use Rattle.screen.proofs.Returned.{step_fate}
use Rattle.screen_demands.proofs.changes.a_waiting_ground_has_one_fate.Goals as goal

pub returns : goal.returns
returns c = record {
  fate = step_fate;
  takers = taker;
  taken = (mosaic_takes, space_takes);
}
