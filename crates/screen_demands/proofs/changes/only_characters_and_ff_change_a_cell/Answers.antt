-- The theorem is proved where its words are. Assumes nothing.
use Rattle.screen_page.proofs.Stays.{unbroken}
use Rattle.screen.proofs.Touched.{others_stay, ff_cell}
use Rattle.screen.proofs.Given.{step_taken}
use Rattle.screen_demands.proofs.changes.only_characters_and_ff_change_a_cell.Goals as goal

pub returns : goal.returns
returns c = record {
  steps = λ s h b l. step_taken s b (unbroken h) l;
  others = λ s h b x k. others_stay s b x h.pen.here.place k;
  blanks = λ s h b x k. ff_cell s b x h k;
}
