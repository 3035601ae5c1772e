-- The theorem is proved where its words are. Assumes nothing.
use Rattle.screen.proofs.Lasting.{step_upright, run_upright}
use Rattle.screen_demands.proofs.Anew.{fresh_upright}
use Rattle.screen_demands.proofs.changes.the_attributes_of_g1_are_never_inverse.Goals as goal

pub returns : goal.returns
returns c = record {
  anew = fresh_upright;
  steps = step_upright;
  runs = run_upright;
}
