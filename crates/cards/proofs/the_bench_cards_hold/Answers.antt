-- The theorem is proved where its words are. Assumes nothing.
use Rattle.cards.proofs.Computed.{bench}
use Rattle.cards.proofs.the_bench_cards_hold.Goals as goal

pub returns : goal.returns
returns c = bench
