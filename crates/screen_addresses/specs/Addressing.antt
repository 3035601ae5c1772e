-- The place that US names (01, "Screen cells"). Assumes nothing.
use Rattle.std.specs.Prelude.{Option, Some, None, Bool, cond, ◌&&◌, ℕ, ◌-◌, leb}
use Rattle.screen_cursor.specs.declared.Place.{Place}
use Rattle.screen_cursor.specs.Places.{at}

-- "row r minus 64 in 0 to 24, column c minus 64 in 1 to 40"
abbrev pub good : ℕ → ℕ → Bool
good r c = leb 64 r && (leb r 88 && (leb 65 c && leb c 104))

-- "US r c: .. cursor there ..; else all three dropped"
abbrev pub addressed : ℕ → ℕ → Option Place
addressed r c = cond (good r c) (Some (at (r - 64) (c - 64))) None
