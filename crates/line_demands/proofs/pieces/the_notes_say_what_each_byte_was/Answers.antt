-- The theorem is proved where its words are. Assumes nothing.
use Rattle.line_turns.proofs.Held.{notes_append}
use Rattle.line_turns.proofs.Noted.{as_written, bit_told, while_off}
use Rattle.line_turns.proofs.Steps.{notes_many}
use Rattle.line_demands.proofs.pieces.the_notes_say_what_each_byte_was.Goals as goal

pub returns : goal.returns
returns c = record {
  xs_len = notes_many;
  cut = λ r xs ys. notes_append xs ys r;
  card = as_written;
  bit = bit_told;
  off = while_off;
}
