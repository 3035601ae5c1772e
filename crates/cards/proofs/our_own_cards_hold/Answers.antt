-- The theorem is proved where its words are. Assumes nothing.
use Rattle.cards.proofs.ScreenRuns.{ours}
use Rattle.cards.proofs.our_own_cards_hold.Goals as goal

pub returns : goal.returns
returns c = ours
