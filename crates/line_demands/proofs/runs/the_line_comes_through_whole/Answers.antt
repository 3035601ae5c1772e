-- The theorem is proved where its words are. Assumes nothing.
use Rattle.line_codes.proofs.Seen.{nowhere_none}
use Rattle.line_receiver.specs.Line.{made_of}
use Rattle.line_receiver.proofs.Whole.{line_whole, asked_once, each_once, unhit, made_at}
use Rattle.line_demands.proofs.runs.the_line_comes_through_whole.Goals as goal

pub returns : goal.returns
returns c = record {
  whole = line_whole;
  asked = asked_once;
  once = each_once;
  met = (λ vs. unhit (made_of vs), nowhere_none, made_at);
}
