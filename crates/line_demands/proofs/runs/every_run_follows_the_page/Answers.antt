-- The theorem is proved where its words are. Assumes nothing.
use Rattle.line_receiver.proofs.Followed.{follows}
use Rattle.line_receiver.proofs.Once.{one_course}
use Rattle.line_demands.proofs.runs.every_run_follows_the_page.Goals as goal

pub returns : goal.returns
returns c = record {
  course = follows;
  once = λ s t u es os ps a b. one_course a b;
}
