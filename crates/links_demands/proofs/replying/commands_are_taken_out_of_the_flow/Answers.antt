-- The theorem is proved where its words are. Assumes nothing.
use Rattle.links.proofs.Replying.{codes_wait, unknown_swallowed}
use Rattle.links_demands.proofs.replying.commands_are_taken_out_of_the_flow.Goals as goal

pub returns : goal.returns
returns c = record {
  waits = codes_wait;
  unknown = unknown_swallowed;
}
