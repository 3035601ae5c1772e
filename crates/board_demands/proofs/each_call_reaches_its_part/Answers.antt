-- The theorem is proved where its words are. Assumes nothing.
use Rattle.board.proofs.Events.{hears, key_out, socket_out, chooses}
use Rattle.board_demands.proofs.each_call_reaches_its_part.Goals as goal

pub returns : goal.returns
returns c = record {
  line = hears;
  keys = key_out;
  socket = socket_out;
  tables = chooses;
}
