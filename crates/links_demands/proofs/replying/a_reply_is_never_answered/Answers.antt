-- The theorem is proved where its words are. Assumes nothing.
use Rattle.links.proofs.Echoes.{each_swallowed, never_answered}
use Rattle.links_demands.proofs.replying.a_reply_is_never_answered.Goals as goal

pub returns : goal.returns
returns c = record {
  each = each_swallowed;
  whole = never_answered;
}
