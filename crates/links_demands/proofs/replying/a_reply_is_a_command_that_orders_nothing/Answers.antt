-- The theorem is proved where its words are. Assumes nothing.
use Rattle.links_commands.proofs.Echoes.{reply_ordered}
use Rattle.links_sending.proofs.Echoes.{reply_spelled}
use Rattle.links_demands.proofs.replying.a_reply_is_a_command_that_orders_nothing.Goals as goal

pub returns : goal.returns
returns c = record {
  spelled = reply_spelled;
  orders = reply_ordered;
}
