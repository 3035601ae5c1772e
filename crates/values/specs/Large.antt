-- Values of 0 to 127, and the first that is above ("lowest place named; places count from 0": 01, "Numbers given").
-- Assumes nothing.
use Rattle.std.specs.Prelude.{cond, List, [], ◌∷◌, ℕ, suc, ◌<◌, ltb, length, get_or}

-- each value is 0 to 127
abbrev pub Values : List ℕ → Type 0
Values vs = (i : ℕ) → i < length vs → get_or vs i 0 < 128

-- the lowest place of a value above 127, or the number of values
unfoldable pub first_large : List ℕ → ℕ
first_large [] = 0
first_large (v ∷ vs) = cond (ltb v 128) (suc (first_large vs)) 0
