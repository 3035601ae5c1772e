-- The theorem is proved where its words are. Assumes nothing.
use Rattle.line_receiver.proofs.Kept.{run_append, sent_append}
use Rattle.line_demands.proofs.runs.a_run_is_the_run_over_its_parts.Goals as goal

pub returns : goal.returns
returns c = (λ es fs r. (run_append es fs r, sent_append es fs r))
