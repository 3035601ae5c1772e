-- What each call answers and hands back, for any state and any values (01, "Numbers given"). Assumes nothing.
use Rattle.std.specs.Prelude.{Ok, Err, List, [], ◌∷◌, ℕ, ltb, length}
use Rattle.numbers.specs.Numbers.{Told, told_of}
use Rattle.screen_answers.specs.Answers.{Answer, answer_to}
use Rattle.values.specs.Large.{first_large}
use Rattle.screen_page.specs.declared.Screen.{Screen}
use Rattle.screen_page.specs.Ranges.{broken}
use Rattle.screen.specs.declared.Ran.{Ran}
use Rattle.screen.specs.Screens.{advanced, advanced_by}

-- of the screen handed in and the screen to come: a broken state is "that state handed back", and at a value too large
-- "lent memory and state unchanged"
abbrev pub left_by : Answer → Screen → Screen → Screen
left_by (Ok u) s x = x
left_by (Err e) s x = s

-- what a call with these values answers
abbrev pub answered : Screen → List ℕ → Answer
answered s vs = answer_to (broken s) (first_large vs) (length vs)

abbrev pub runs_to : Screen → Answer → Ran
runs_to s a = record { screen = s; answer = a }

-- ---- one value

unfoldable pub stepped : Screen → ℕ → Ran
stepped s b = let a = answered s (b ∷ []) in runs_to (left_by a s (advanced s b)) a

-- ---- a piece of values

unfoldable pub ran : Screen → List ℕ → Ran
ran s vs = let a = answered s vs in runs_to (left_by a s (advanced_by s vs)) a

-- "a state handed in lies outside the ranges this page gives"; "a value handed to .. screen .. is above 127"
-- number 2 names the "lowest place"
abbrev pub run_told : Screen → List ℕ → Told
run_told s vs = told_of (broken s) (ltb (first_large vs) (length vs)) (first_large vs)
