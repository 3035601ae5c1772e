-- The theorem is proved where its words are. Assumes nothing.
use Rattle.line_receiver.specs.Runs.{run}
use Rattle.line_receiver.proofs.Past.{same_calls, same_runs}
use Rattle.line_demands.proofs.runs.places_past_the_held_never_matter.Goals as goal

pub returns : goal.returns
returns c =
    (λ r q a es e. same_calls e (run r es) (run q es) (same_runs es r q a))
