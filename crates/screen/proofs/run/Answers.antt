-- `screen::run` meets its contract. Assumes nothing.
use mathlib.Core.Path.{◌≡◌, sym, ◌∙◌}
use Rattle.screen_answers.proofs.Given.{taken_only}
use Rattle.screen_answers.specs.Answers.{Taken}
use Rattle.values.proofs.Found.{all_small}
use Rattle.screen_page.proofs.Stays.{whole}
use Rattle.screen.specs.Calls.{answered, ran}
use Rattle.screen.proofs.Answers.{is_taken, ran_refused}
use Rattle.screen.proofs.run.Goals as goal
use Rattle.screen.proofs.run.Goals.{After-answer_to-answer}

-- the answer that was asked for
asked : (c : After-answer_to-answer) → c.answer_to-answer.result ≡ answered c.args.screen c.args.values.now
asked c = simp (c.answer_to-answer.ensures, c.first_large-at.ensures, c.is_broken-broken.ensures)

pub returns-then-is_err : goal.returns-then-is_err
returns-then-is_err c =
    ran_refused _ _ _ (asked (goal.at.returns-then-is_err c).After-answer_to-answer) (sym c.if-is_err.ensures.value)

pub advance-screen-requires : goal.advance-screen-requires
advance-screen-requires c =
    let e = asked (goal.at.advance-screen-requires c).After-answer_to-answer in
    let t = taken_only _ _ _ (sym e ∙ is_taken _ (sym c.if-is_err.ensures.value)) in
    record { in_range = whole _ t.0; values = all_small _ t.1 }

pub returns : goal.returns
unfolding ran
returns c =
    let e = asked (goal.at.returns c).After-answer_to-answer in
    let t : c.answer_to-answer.result ≡ Taken = is_taken _ (sym c.if-is_err.ensures.value) in
    simp (c.advance-screen.ensures, ← e, t)
