-- The theorem is proved where its words are. Assumes nothing.
use Rattle.links.proofs.Replying.{still_midway, is_over}
use Rattle.links_demands.proofs.replying.exactly_so_many_codes_are_taken.Goals as goal

pub returns : goal.returns
returns c = record {
  midway = still_midway;
  over = is_over;
}
