-- Each number is given exactly when its condition holds and none before it in the order does. Assumes nothing.
use mathlib.Core.Path.{refl}
use mathlib.Core.Bool.{Bool, true, false}
use Rattle.numbers.specs.Numbers.{Conditions, GivenExactly}

by_cases : (w b l r a : Bool)
    → GivenExactly (record { wrong_length = w; broken_state = b; too_large = l; no_room = r; repeat = a })
by_cases true b l r a = record { one = refl; five = refl; two = refl; four = refl; three = refl; zero = refl }
by_cases false true l r a = record { one = refl; five = refl; two = refl; four = refl; three = refl; zero = refl }
by_cases false false true r a = record { one = refl; five = refl; two = refl; four = refl; three = refl; zero = refl }
by_cases false false false true a =
    record { one = refl; five = refl; two = refl; four = refl; three = refl; zero = refl }
by_cases false false false false true =
    record { one = refl; five = refl; two = refl; four = refl; three = refl; zero = refl }
by_cases false false false false false =
    record { one = refl; five = refl; two = refl; four = refl; three = refl; zero = refl }

pub given_exactly : (c : Conditions) → GivenExactly c
given_exactly c = by_cases c.wrong_length c.broken_state c.too_large c.no_room c.repeat
