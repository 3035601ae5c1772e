-- The theorem is proved where its words are. Assumes nothing.
use Rattle.screen_sequences.proofs.Opened.{open_good, good_open}
use Rattle.screen_page.proofs.Stays.{fresh_in_range, true_screen, whole, unbroken}
use Rattle.screen.proofs.Given.{stepped_in}
use Rattle.screen_demands.proofs.states.every_step_keeps_the_range.Goals as goal

pub returns : goal.returns
returns c = record {
  anew = fresh_in_range;
  steps = stepped_in;
  tested = λ s h. unbroken h;
  passed = λ s n e. true_screen s n (whole s e);
  opened = λ q. (open_good q, good_open q);
}
