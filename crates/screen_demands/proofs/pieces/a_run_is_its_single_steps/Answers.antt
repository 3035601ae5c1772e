-- The theorem is proved where its words are. Assumes nothing.
use Rattle.screen.proofs.Given.{run_singly, run_parts}
use Rattle.screen_demands.proofs.pieces.a_run_is_its_single_steps.Goals as goal

pub returns : goal.returns
returns c = record {
  single = run_singly;
  parts = run_parts;
}
