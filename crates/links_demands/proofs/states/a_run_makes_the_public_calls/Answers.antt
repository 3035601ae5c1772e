-- The theorem is proved where its words are. Assumes nothing.
use Rattle.links.proofs.Steps.{public_values, public_choices}
use Rattle.links_demands.proofs.states.a_run_makes_the_public_calls.Goals as goal

pub returns : goal.returns
returns c = record {
  values = public_values;
  choices = public_choices;
}
