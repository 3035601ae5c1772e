-- The theorem is proved where its words are. Assumes nothing.
use Rattle.screen_demands.proofs.Anew.{fresh_never}
use Rattle.screen.proofs.Lasting.{step_last, step_written, run_written}
use Rattle.screen_demands.proofs.changes.only_a_written_character_becomes_the_last.Goals as goal

pub returns : goal.returns
returns c = record {
  last = step_last;
  anew = fresh_never;
  stays = λ s f. (λ b. step_written s b f, λ vs. run_written s vs f);
}
