-- The theorem is proved where its words are. Assumes nothing.
use Rattle.screen_page.proofs.Reading.{read_number_lem, cursor_number_lem, reads_cell, reads_off, points, fresh_blank}
use Rattle.screen_demands.proofs.states.reading_gives_the_cell_at_its_place.Goals as goal

pub returns : goal.returns
returns c = record {
  numbers = λ s. (read_number_lem s, cursor_number_lem s);
  cell = reads_cell;
  off = reads_off;
  cursor = points;
  anew = fresh_blank;
}
