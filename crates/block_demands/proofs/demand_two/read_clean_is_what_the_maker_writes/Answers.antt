-- The theorem is proved where its words are. Assumes nothing.
use Rattle.block.proofs.Returned.{clean_made}
use Rattle.block_demands.proofs.demand_two.read_clean_is_what_the_maker_writes.Goals as goal

pub returns : goal.returns
returns c = clean_made
