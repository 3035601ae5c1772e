-- The theorem is proved where its words are. Assumes nothing.
use Rattle.line_receiver.specs.Runs.{run}
use Rattle.line_receiver.proofs.Kept.{new_in, runs_keep}
use Rattle.line_receiver.proofs.Outgoing.{handed_back, fits}
use Rattle.line_receiver.proofs.WhileOff.{new_off}
use Rattle.line_demands.proofs.states.a_broken_state_is_handed_back.Goals as goal

pub returns : goal.returns
returns c = record {
  broken = λ r f e. handed_back e r f;
  anew = (new_in, new_off.0, new_off.1, new_off.2);
  runs = λ r g es. (runs_keep es r g, λ e. fits e (run r es) (runs_keep es r g));
}
