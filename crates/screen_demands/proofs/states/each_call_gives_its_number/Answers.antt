-- The theorem is proved where its words are. Assumes nothing.
use mathlib.Core.Path.{sym, refl, ap, ◌∙◌}
use mathlib.Core.Bool.{Bool, cond}
use mathlib.Core.List.{[], ◌∷◌}
use Rattle.screen_page.proofs.Reading.{read_number_lem, cursor_number_lem}
use Rattle.screen.proofs.Answers.{ran_large}
use Rattle.screen.proofs.Given.{run_told_lem, step_told, step_broken, run_broken, step_large}
use Rattle.screen_demands.proofs.states.each_call_gives_its_number.Goals as goal

pub returns : goal.returns
returns c = record {
  runs = run_told_lem;
  steps = step_told;
  broken = λ s e. (
    λ b. step_broken s b e,
    λ vs. run_broken s vs e,
    λ r c. read_number_lem s r c ∙ ap (λ (t : Bool). cond t (5 ∷ []) (0 ∷ [])) e,
    cursor_number_lem s ∙ ap (λ (t : Bool). cond t (5 ∷ []) (0 ∷ [])) e,
  );
  large = λ s e. (λ b h. step_large s b e h, λ vs h. sym (ran_large s vs e _ refl h));
}
