-- The theorem is proved where its words are. Assumes nothing.
use Rattle.links.proofs.Steps.{keys_change_nothing}
use Rattle.links_demands.proofs.flow.keys_change_nothing.Goals as goal

pub returns : goal.returns
returns c = keys_change_nothing
