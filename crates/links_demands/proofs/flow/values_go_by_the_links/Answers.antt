-- The theorem is proved where its words are. Assumes nothing.
use Rattle.links.proofs.Flow.{plain_goes, key_goes}
use Rattle.links_demands.proofs.flow.values_go_by_the_links.Goals as goal

pub returns : goal.returns
returns c = record {
  heard = plain_goes;
  keys = key_goes;
}
