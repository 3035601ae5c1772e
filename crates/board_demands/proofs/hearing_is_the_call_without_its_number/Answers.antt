-- The theorem is proved where its words are. Assumes nothing.
use Rattle.board_feeding.proofs.Refused.{broken_fed, large_fed}
use Rattle.board_front.proofs.Refused.{broken_receiver, broken_links}
use Rattle.board.proofs.Events.{one_heard}
use Rattle.board_demands.proofs.hearing_is_the_call_without_its_number.Goals as goal

pub returns : goal.returns
returns c = record {
  line = one_heard;
  receiver = broken_receiver;
  behind = broken_links;
  links = broken_fed;
  large = large_fed;
}
