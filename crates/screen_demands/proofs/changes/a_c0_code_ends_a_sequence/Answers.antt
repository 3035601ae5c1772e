-- The theorem is proved where its words are. Assumes nothing.
use Rattle.screen.proofs.Repeated.{nul_step, control_step, dropped_step}
use Rattle.screen_demands.proofs.changes.a_c0_code_ends_a_sequence.Goals as goal

pub returns : goal.returns
returns c = record {
  nul = nul_step;
  ended = control_step;
  separated = dropped_step;
}
