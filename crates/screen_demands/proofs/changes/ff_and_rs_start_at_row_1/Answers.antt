-- The theorem is proved where its words are. Assumes nothing.
use Rattle.screen.proofs.Addressed.{ff_starts, rs_starts}
use Rattle.screen_demands.proofs.changes.ff_and_rs_start_at_row_1.Goals as goal

pub returns : goal.returns
returns c = record {
  ff = ff_starts;
  rs = rs_starts;
}
