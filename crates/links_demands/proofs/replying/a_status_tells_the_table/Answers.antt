-- The theorem is proved where its words are. Assumes nothing.
use Rattle.links_replies.proofs.Statuses.{status_bit, status_column}
use Rattle.links_demands.proofs.replying.a_status_tells_the_table.Goals as goal

pub returns : goal.returns
returns c = record {
  bits = status_bit;
  column = status_column;
}
