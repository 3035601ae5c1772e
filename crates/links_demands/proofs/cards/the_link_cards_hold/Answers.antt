-- The theorem is proved where its words are. Assumes nothing.
use Rattle.links.proofs.Cards.{link_cards_lem}
use Rattle.links_demands.proofs.cards.the_link_cards_hold.Goals as goal

pub returns : goal.returns
returns c = link_cards_lem
