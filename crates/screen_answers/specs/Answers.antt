-- What a call on the screen answers (01, "Numbers given"). Assumes nothing.
use Rattle.std.specs.Prelude.{Result, Ok, Err, Bool, cond, [], ◌∷◌, ℕ, ltb}
use Rattle.numbers.specs.Numbers.{Told}
use Rattle.screen_answers.specs.declared.Refusal.{Refusal}
use Rattle.screen_answers.specs.declared.Refusal.TheVariants.{TooLarge, Broken}

-- what is taken, or why it is refused
abbrev pub Answer : Type 0
Answer = Result (Unit {0}) Refusal

abbrev pub Taken : Answer
Taken = Ok tt

-- the number of each answer, and what it names
abbrev pub told : Answer → Told
told (Ok u) = record { number = 0; named = [] }
told (Err (TooLarge place)) = record { number = 2; named = place ∷ [] }
told (Err Broken) = record { number = 5; named = [] }

-- "Order where several hold: 1, 5, 2, 4, 3": a broken state, then a value too large, whose place is below the count
abbrev pub answer_to : Bool → ℕ → ℕ → Answer
answer_to broken place count = cond broken (Err Broken) (cond (ltb place count) (Err (TooLarge place)) Taken)
