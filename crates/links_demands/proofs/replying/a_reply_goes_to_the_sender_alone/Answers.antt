-- The theorem is proved where its words are. Assumes nothing.
use Rattle.links_hearing.proofs.Apart.{names}
use Rattle.links.proofs.Replying.{link_answered, ask_answered}
use Rattle.links_demands.proofs.replying.a_reply_goes_to_the_sender_alone.Goals as goal

pub returns : goal.returns
returns c = record {
  names = names;
  link = link_answered;
  ask = ask_answered;
}
