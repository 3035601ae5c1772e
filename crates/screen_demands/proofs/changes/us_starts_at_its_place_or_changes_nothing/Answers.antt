-- The theorem is proved where its words are. Assumes nothing.
use Rattle.screen.proofs.Addressed.{us_starts, us_kept, us_dropped}
use Rattle.screen_demands.proofs.changes.us_starts_at_its_place_or_changes_nothing.Goals as goal

pub returns : goal.returns
returns c = record {
  good = us_starts;
  kept = us_kept;
  bad = us_dropped;
}
