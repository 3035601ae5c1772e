-- The theorem is proved where its words are. Assumes nothing.
use Rattle.line_codes.proofs.Numbered.{spelled}
use Rattle.line_codes.proofs.Seen.{codes_carry_parity}
use Rattle.line_receiver.proofs.Kept.{again_same}
use Rattle.line_receiver.proofs.Asked.{requests, again_gives}
use Rattle.line_demands.proofs.runs.a_request_names_the_awaited_block.Goals as goal

pub returns : goal.returns
returns c =
    record {
      codes = codes_carry_parity;
      spelled = spelled;
      fact = λ r g e. requests e r g;
      again = λ r g. (again_same r, again_gives r g);
    }
