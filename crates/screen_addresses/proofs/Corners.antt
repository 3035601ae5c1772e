-- What US names at the corners and beyond them, written out (01, "Screen cells"). Assumes nothing.
use mathlib.Core.Path.{◌≡◌, refl}
use mathlib.Core.List.{List, [], ◌∷◌}
use Prim.Native.Nat.{ℕ}
use Rattle.std.specs.Prelude.{Option, Some, None}
use Rattle.screen_cursor.specs.declared.Place.{Place}
use Rattle.screen_cursor.specs.Places.{at}
use Rattle.screen_addresses.specs.Addressing.{addressed}

-- a code for the row and one for the column name this
abbrev Names : List (ℕ × ℕ × Option Place) → Type 0
Names [] = Unit {0}
Names (e ∷ es) = (addressed e.0 e.1 ≡ e.2) × Names es

-- "row r minus 64 in 0 to 24, column c minus 64 in 1 to 40: cursor there"
abbrev good : List (ℕ × ℕ × Option Place)
good =
    (64, 65, Some (at 0 1)) ∷ (64, 104, Some (at 0 40)) ∷ (65, 65, Some (at 1 1)) ∷ (69, 73, Some (at 5 9))
    ∷ (88, 65, Some (at 24 1)) ∷ (88, 104, Some (at 24 40)) ∷ []

-- "else all three dropped"
abbrev bad : List (ℕ × ℕ × Option Place)
bad =
    (63, 65, None) ∷ (63, 104, None) ∷ (89, 65, None) ∷ (89, 104, None) ∷ (64, 64, None)
    ∷ (88, 64, None) ∷ (64, 105, None) ∷ (88, 105, None) ∷ (32, 32, None) ∷ (127, 127, None) ∷ []

pub at_the_corners : Names good × Names bad
at_the_corners = (
  (refl, (refl, (refl, (refl, (refl, (refl, tt)))))),
  (refl, (refl, (refl, (refl, (refl, (refl, (refl, (refl, (refl, (refl, tt)))))))))),
)
