-- The cells of a screen that is cleared: row 0 as it was, every other blank. Assumes nothing.
use mathlib.Core.Path.{◌≡◌, refl, ap, ◌∙◌}
use mathlib.Core.Bool.{false}
use mathlib.Core.List.{List, [], ◌∷◌, ◌++◌}
use Prim.Native.Nat.{ℕ, ◌+◌, ◌-◌, ◌≤◌, ◌<◌}
use native.Mathlib.Omega.{arith}
use lib.ListN.{length, get_or, take, replicate, get_or-replicate, get_or-append}
use lib.Seq.{get_or-append-add, get_or-take, length-take-le}
use Rattle.screen_cells.specs.declared.Cell.{Cell}
use Rattle.screen_cells.specs.Cells.{blank_of}
use Rattle.screen_sheet.specs.Clearing.{cleared}

-- ---- written out: a screen full of A, cleared, at the ends of rows 0, 1 and 24

abbrev letter : Cell
letter = record { character = record { set = 0; code = 65 }; ink = 7; ground = 0; flash = false; inverse = false }

abbrev Has : List Cell → List (ℕ × Cell) → Type 0
Has cs [] = Unit {0}
Has cs (e ∷ es) = (get_or cs e.0 blank_of ≡ e.1) × Has cs es

abbrev ends : List (ℕ × Cell)
ends =
    (0, letter) ∷ (39, letter) ∷ (40, blank_of) ∷ (79, blank_of) ∷ (960, blank_of) ∷ (999, blank_of) ∷ []

pub rows_cleared : Has (cleared (replicate 1000 letter)) ends × (length (cleared (replicate 1000 letter)) ≡ 1000)
unfolding cleared
rows_cleared = ((refl, (refl, (refl, (refl, (refl, (refl, tt)))))), refl)

-- ---- any cells

module _ (cs : List Cell) (n : length cs ≡ 1000) (i : ℕ) (z : Cell) where
  forty : length (take 40 cs) ≡ 40
  forty = length-take-le 40 cs (omega (arith, n))

  pub row_0_kept : i < 40 → get_or (cleared cs) i z ≡ get_or cs i z
  unfolding cleared
  row_0_kept h =
      get_or-append (take 40 cs) (replicate 960 blank_of) z i (omega (arith, forty, h)) ∙ get_or-take 40 cs i z h

  pub others_blank : 40 ≤ i → i < 1000 → get_or (cleared cs) i z ≡ blank_of
  unfolding cleared
  others_blank l h =
      let e : i ≡ length (take 40 cs) + (i - 40) = omega (arith, forty, l) in
      ap (λ (k : ℕ). get_or (take 40 cs ++ replicate 960 blank_of) k z) e
      ∙ get_or-append-add (take 40 cs) (replicate 960 blank_of) (i - 40) z
      ∙ get_or-replicate 960 (i - 40) blank_of z (omega (arith, l, h))
