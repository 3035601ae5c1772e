-- The corners of the screen and the places beyond them, written out (01, "Screen cells"). Assumes nothing.
use mathlib.Core.Path.{◌≡◌, refl}
use mathlib.Core.Bool.{true, false}
use mathlib.Core.List.{List, [], ◌∷◌}
use Prim.Native.Nat.{ℕ}
use Rattle.screen_cursor.specs.declared.Place.{Place}
use Rattle.screen_cursor.specs.Places.{at, on_screen, index_of}

-- each place has this cell among the thousand
abbrev Lie : List (Place × ℕ) → Type 0
Lie [] = Unit {0}
Lie (e ∷ es) = (on_screen e.0 ≡ true) × (index_of e.0 ≡ e.1) × Lie es

-- each place is off the screen
abbrev Beyond : List Place → Type 0
Beyond [] = Unit {0}
Beyond (x ∷ xs) = (on_screen x ≡ false) × Beyond xs

-- "Rows 0 to 24, columns 1 to 40": row 0 is the first forty cells, row 1 the next
abbrev corners : List (Place × ℕ)
corners = (at 0 1, 0) ∷ (at 0 40, 39) ∷ (at 1 1, 40) ∷ (at 1 40, 79) ∷ (at 24 1, 960) ∷ (at 24 40, 999) ∷ []

abbrev beyond : List Place
beyond = at 0 0 ∷ at 24 0 ∷ at 0 41 ∷ at 24 41 ∷ at 25 1 ∷ at 25 40 ∷ at 255 255 ∷ []

pub at_the_corners : Lie corners × Beyond beyond
at_the_corners = (
  (refl, refl, (refl, refl, (refl, refl, (refl, refl, (refl, refl, (refl, refl, tt)))))),
  (refl, (refl, (refl, (refl, (refl, (refl, (refl, tt))))))),
)
