-- What calls answer, written out (01, "Numbers given"). Assumes nothing.
use mathlib.Core.Path.{◌≡◌, refl}
use mathlib.Core.Bool.{Bool, true, false}
use mathlib.Core.List.{List, [], ◌∷◌}
use Prim.Native.Nat.{ℕ}
use Rattle.std.specs.Prelude.{Err}
use Rattle.screen_answers.specs.declared.Refusal.TheVariants.{TooLarge, Broken}
use Rattle.screen_answers.specs.Answers.{Answer, Taken, answer_to}

-- whether the state is broken, the lowest place of a value too large, how many values there are, and the answer
abbrev Answers : List (Bool × ℕ × ℕ × Answer) → Type 0
Answers [] = Unit {0}
Answers (e ∷ es) = (answer_to e.0 e.1 e.2 ≡ e.3) × Answers es

-- "Order where several hold: 1, 5, 2, 4, 3"; "lowest place named; places count from 0"
abbrev calls : List (Bool × ℕ × ℕ × Answer)
calls =
    (true, 0, 1, Err Broken) ∷ (true, 2, 5, Err Broken) ∷ (true, 5, 5, Err Broken) ∷ (false, 0, 1, Err (TooLarge 0))
    ∷ (false, 2, 5, Err (TooLarge 2)) ∷ (false, 4, 5, Err (TooLarge 4)) ∷ (false, 5, 5, Taken) ∷ (false, 0, 0, Taken)
    ∷ []

pub answers_are : Answers calls
answers_are = (refl, (refl, (refl, (refl, (refl, (refl, (refl, (refl, tt))))))))
