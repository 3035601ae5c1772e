-- An answer has the number of its conditions, and what is taken meets none. Assumes nothing.
use mathlib.Core.Path.{◌≡◌, refl}
use mathlib.Core.Bool.{Bool, true, false, cond}
use Prim.Native.Nat.{ℕ, ◌≤◌}
use native.Mathlib.Omega.{arith}
use lib.Dec.{ltb}
use Rattle.std.specs.Prelude.{Err}
use Rattle.numbers.specs.Numbers.{told_of}
use Rattle.screen_answers.specs.declared.Refusal.TheVariants.{TooLarge}
use Rattle.screen_answers.specs.Answers.{Taken, told, answer_to}

-- the law of the numbers
pub answer_told : (b : Bool) (i n : ℕ) → told (answer_to b i n) ≡ told_of b (ltb i n) i
answer_told true i n = refl
answer_told false i n = whole (ltb i n)
  where
    whole : (t : Bool) → told (cond t (Err (TooLarge i)) Taken) ≡ told_of false t i
    whole true = refl
    whole false = refl

-- only a whole state and values none of which is too large are taken
pub taken_only : (b : Bool) (i n : ℕ) → answer_to b i n ≡ Taken → (b ≡ false) × (n ≤ i)
taken_only true i n e = cc
taken_only false i n e = (refl, grind arith)
