-- What a call answers, case by case. Assumes nothing.
use mathlib.Core.Path.{◌≡◌, refl, ap}
use mathlib.Core.Bool.{true, false}
use mathlib.Core.List.{List}
use Prim.Native.Nat.{ℕ, ◌≤◌, ◌<◌}
use lib.ListN.{length}
use borrow.Author.Tests.{lt-ltb, le-ltb}
use Rattle.std.specs.Prelude.{Ok, Err}
use Rattle.std.specs.Result.{is_err}
use Rattle.screen_answers.specs.declared.Refusal.TheVariants.{TooLarge}
use Rattle.screen_answers.specs.Answers.{Answer, Taken}
use Rattle.values.specs.Large.{first_large}
use Rattle.screen_page.specs.declared.Screen.{Screen}
use Rattle.screen_page.specs.Ranges.{broken}
use Rattle.screen.specs.Screens.{advanced_by}
use Rattle.screen.specs.Calls.{left_by, answered, runs_to, ran}

-- ---- by the answer

pub is_taken : (a : Answer) → is_err a ≡ false → a ≡ Taken
is_taken (Ok u) h = refl
is_taken (Err e) h = cc

pub ran_refused : (s : Screen) (vs : List ℕ) (a : Answer) → a ≡ answered s vs → is_err a ≡ true
    → runs_to s a ≡ ran s vs
unfolding ran
ran_refused s vs (Ok u) e h = cc
ran_refused s vs (Err r) e h = ap (λ (d : Answer). runs_to (left_by d s (advanced_by s vs)) d) e

-- ---- by its conditions

module _ (s : Screen) (vs : List ℕ) (e : broken s ≡ false) where
  pub ran_large : (i : ℕ) → i ≡ first_large vs → i < length vs → runs_to s (Err (TooLarge i)) ≡ ran s vs
  unfolding ran
  ran_large i f h = simp (e, ← f, lt-ltb i (length vs) h)

  pub ran_taken : length vs ≤ first_large vs → runs_to (advanced_by s vs) Taken ≡ ran s vs
  unfolding ran
  ran_taken h = simp (e, le-ltb (first_large vs) (length vs) h)
