-- The theorem is proved where its words are. Assumes nothing.
use Rattle.links.proofs.Ranges.{tested, passed, run_kept, local_in, connected_in}
use Rattle.links_demands.proofs.states.every_call_keeps_the_range.Goals as goal

pub returns : goal.returns
returns c = record {
  anew = (local_in, connected_in);
  runs = λ l r cs. run_kept l cs r;
  never = λ l r cs m. (run_kept l cs r).none_itself m;
  tested = passed;
  passed = tested;
}
