-- The numbers given, and a piece as single steps. Assumes nothing.
use mathlib.Core.Path.{◌≡◌, refl, sym, ap, ◌∙◌, subst, subst⁻¹}
use mathlib.Core.Bool.{true, false}
use mathlib.Core.List.{List, [], ◌∷◌, ◌++◌}
use Prim.Native.Nat.{ℕ, suc, ◌≤◌, ◌<◌}
use native.Mathlib.Omega.{arith}
use native.Mathlib.Nat.{zero-lt-suc}
use lib.ListN.{length}
use borrow.Author.Tests.{lt-ltb, le-ltb}
use Rattle.std.specs.Prelude.{Ok, Err}
use Rattle.screen_answers.specs.declared.Refusal.TheVariants.{TooLarge, Broken}
use Rattle.screen_answers.specs.Answers.{Answer, Taken, told}
use Rattle.screen_answers.proofs.Given.{answer_told}
use Rattle.values.specs.Large.{Values, first_large}
use Rattle.values.proofs.Found.{none_large, values_append}
use Rattle.screen_page.specs.declared.Screen.{Screen}
use Rattle.screen_page.specs.Ranges.{broken, InScreen}
use Rattle.screen_page.proofs.Stays.{unbroken}
use Rattle.screen.specs.declared.Ran.{Ran}
use Rattle.screen.specs.Screens.{advanced, advanced_by}
use Rattle.screen.specs.Calls.{left_by, answered, stepped, runs_to, ran, run_told}
use Rattle.screen.specs.Claims.{singly}
use Rattle.screen.proofs.Stays.{advanced_in}
use Rattle.screen.proofs.Steps.{by_append}
use Rattle.screen.proofs.Answers.{ran_taken}

-- ---- numbers

-- what a run tells comes of its conditions
pub run_told_lem : (s : Screen) (vs : List ℕ) → told (ran s vs).answer ≡ run_told s vs
unfolding ran
run_told_lem s vs = answer_told (broken s) (first_large vs) (length vs)

-- a step tells what the run over its one value does
pub step_told : (s : Screen) (b : ℕ) → told (stepped s b).answer ≡ run_told s (b ∷ [])
unfolding stepped
step_told s b = answer_told (broken s) (first_large (b ∷ [])) 1

-- ---- refusals

pub step_broken : (s : Screen) (b : ℕ) → broken s ≡ true → stepped s b ≡ runs_to s (Err Broken)
unfolding stepped
step_broken s b e = simp e

pub step_large : (s : Screen) (b : ℕ) → broken s ≡ false → 127 < b → stepped s b ≡ runs_to s (Err (TooLarge 0))
unfolding stepped first_large
step_large s b e h = simp (e, le-ltb b 128 h)

pub run_broken : (s : Screen) (vs : List ℕ) → broken s ≡ true → ran s vs ≡ runs_to s (Err Broken)
unfolding ran
run_broken s vs e = simp e

-- ---- steps

pub step_taken : (s : Screen) (b : ℕ) → broken s ≡ false → b ≤ 127 → stepped s b ≡ runs_to (advanced s b) Taken
unfolding stepped first_large
step_taken s b e h = simp (e, lt-ltb b 128 (omega (arith, h)))

pub stepped_in : (s : Screen) → InScreen s → (b : ℕ) → b ≤ 127 → InScreen (stepped s b).screen
stepped_in s h b l =
    subst InScreen (sym (ap (λ (a : Ran). a.screen) (step_taken s b (unbroken h) l))) (advanced_in b l h)

pub run_taken : (s : Screen) (vs : List ℕ) → broken s ≡ false → Values vs → ran s vs ≡ runs_to (advanced_by s vs) Taken
run_taken s vs e h = sym (ran_taken s vs e (omega (arith, none_large vs h)))

singly_by : (s : Screen) (vs : List ℕ) → InScreen s → Values vs → advanced_by s vs ≡ singly s vs
unfolding advanced_by
singly_by s [] h v = refl
singly_by s (b ∷ bs) h v =
    let l : b ≤ 127 = omega (arith, v 0 (zero-lt-suc (length bs))) in
    singly_by (advanced s b) bs (advanced_in b l h) (λ i k. v (suc i) (omega (arith, k)))
    ∙ ap (λ (x : Screen). singly x bs) (sym (ap (λ (a : Ran). a.screen) (step_taken s b (unbroken h) l)))

-- a piece of values of 0 to 127 is its single steps
pub run_singly : (s : Screen) (vs : List ℕ) → InScreen s → Values vs → ran s vs ≡ runs_to (singly s vs) Taken
run_singly s vs h v =
    run_taken s vs (unbroken h) v ∙ ap (λ (x : Screen). runs_to x Taken) (singly_by s vs h v)

by_in : (s : Screen) (vs : List ℕ) → InScreen s → Values vs → InScreen (advanced_by s vs)
unfolding advanced_by
by_in s [] h v = h
by_in s (b ∷ bs) h v =
    by_in (advanced s b) bs (advanced_in b (omega (arith, v 0 (zero-lt-suc (length bs)))) h)
    (λ i k. v (suc i) (omega (arith, k)))

pub ran_in : (s : Screen) (vs : List ℕ) → InScreen s → Values vs → InScreen (ran s vs).screen
ran_in s vs h v = subst⁻¹ (λ (r : Ran). InScreen r.screen) (run_taken s vs (unbroken h) v) (by_in s vs h v)

-- no values leave a screen as it was, in range or not
pub ran_none : (s : Screen) → (ran s []).screen ≡ s
unfolding ran advanced_by
ran_none s = kept (answered s [])
  where
    kept : (a : Answer) → left_by a s s ≡ s
    kept (Ok u) = refl
    kept (Err e) = refl

-- a run over some values and then others is the run over the first, then over the others
pub run_parts : (s : Screen) (us vs : List ℕ) → InScreen s → Values us → Values vs
    → ran s (us ++ vs) ≡ ran (ran s us).screen vs
run_parts s us vs h k l =
    run_taken s (us ++ vs) (unbroken h) (values_append us vs k l)
    ∙ ap (λ (x : Screen). runs_to x Taken) (by_append s us vs)
    ∙ sym (run_taken (advanced_by s us) vs (unbroken (by_in s us h k)) l)
    ∙ ap (λ (r : Ran). ran r.screen vs) (sym (run_taken s us (unbroken h) k))
