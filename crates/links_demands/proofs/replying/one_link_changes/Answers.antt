-- The theorem is proved where its words are. Assumes nothing.
use Rattle.links.proofs.Replying.{one_link, asking_leaves}
use Rattle.links_demands.proofs.replying.one_link_changes.Goals as goal

pub returns : goal.returns
returns c = record {
  link = one_link;
  ask = asking_leaves;
}
