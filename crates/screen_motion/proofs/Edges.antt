-- Each move at every edge of the screen, written out (01, "Screen cells"). Assumes nothing.
use mathlib.Core.Path.{◌≡◌, refl}
use mathlib.Core.List.{List, [], ◌∷◌}
use Rattle.screen_cursor.specs.declared.Place.{Place}
use Rattle.screen_cursor.specs.Places.{at}
use Rattle.screen_motion.specs.Moves.{left_of, right_of, up_of, down_of, first_of}

-- the move leads from the first place of each pair to the second
abbrev Leads : (Place → Place) → List (Place × Place) → Type 0
Leads f [] = Unit {0}
Leads f (e ∷ es) = (f e.0 ≡ e.1) × Leads f es

-- BS: "left of column 1 is column 40 of the row above", "row 24 joins row 1"; "Row 0: BS at column 1 .. do nothing"
abbrev lefts : List (Place × Place)
lefts =
    (at 5 9, at 5 8) ∷ (at 5 2, at 5 1) ∷ (at 2 1, at 1 40) ∷ (at 1 1, at 24 40) ∷ (at 24 40, at 24 39)
    ∷ (at 0 40, at 0 39) ∷ (at 0 1, at 0 1) ∷ []

-- HT: "right of column 40 is column 1 of the row below", "row 24 joins row 1"; "Row 0: .. HT at column 40 .. do
-- nothing"
abbrev rights : List (Place × Place)
rights =
    (at 5 9, at 5 10) ∷ (at 5 39, at 5 40) ∷ (at 1 40, at 2 1) ∷ (at 24 40, at 1 1) ∷ (at 1 1, at 1 2)
    ∷ (at 0 39, at 0 40) ∷ (at 0 40, at 0 40) ∷ []

-- VT; "Row 0: .. VT do nothing"
abbrev ups : List (Place × Place)
ups = (at 5 9, at 4 9) ∷ (at 2 40, at 1 40) ∷ (at 1 7, at 24 7) ∷ (at 24 1, at 23 1) ∷ (at 0 5, at 0 5) ∷ []

-- LF outside row 0
abbrev downs : List (Place × Place)
downs = (at 5 9, at 6 9) ∷ (at 23 40, at 24 40) ∷ (at 24 7, at 1 7) ∷ (at 1 1, at 2 1) ∷ []

-- "CR: column 1"
abbrev firsts : List (Place × Place)
firsts = (at 5 9, at 5 1) ∷ (at 24 40, at 24 1) ∷ (at 1 1, at 1 1) ∷ (at 0 17, at 0 1) ∷ []

pub at_the_edges : Leads left_of lefts × Leads right_of rights × Leads up_of ups × Leads down_of downs
    × Leads first_of firsts
at_the_edges = (
  (refl, (refl, (refl, (refl, (refl, (refl, (refl, tt))))))),
  (refl, (refl, (refl, (refl, (refl, (refl, (refl, tt))))))),
  (refl, (refl, (refl, (refl, (refl, tt))))),
  (refl, (refl, (refl, (refl, tt)))),
  (refl, (refl, (refl, (refl, tt)))),
)
