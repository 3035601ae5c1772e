-- Characters at the ends of their ranges, those that take a ground, and cells, written out (01, "Screen cells"). Assumes
-- nothing.
use mathlib.Core.Path.{◌≡◌, refl}
use mathlib.Core.Bool.{Bool, true, false}
use mathlib.Core.List.{List, [], ◌∷◌}
use Prim.Native.Nat.{ℕ}
use Rattle.screen_cells.specs.declared.Cell.{Cell}
use Rattle.screen_cells.specs.Characters.{good_character, takes}
use Rattle.screen_cells.specs.Cells.{blank_of, good_cell, same_looks, same_cell, is_blank}

-- "A blank cell has set G1, code 2/0, ink 7, ground 0, no flash, not inverse"
pub blank_is :
    (blank_of.character.set ∷ blank_of.character.code ∷ blank_of.ink ∷ blank_of.ground ∷ [] ≡ 1 ∷ 32 ∷ 7 ∷ 0 ∷ [])
    × (blank_of.flash ≡ false) × (blank_of.inverse ≡ false)
blank_is = (refl, refl, refl)

-- ---- characters

-- of each set and code the test says so
abbrev Are : (ℕ → ℕ → Bool) → List (ℕ × ℕ × Bool) → Type 0
Are f [] = Unit {0}
Are f (e ∷ es) = (f e.0 e.1 ≡ e.2) × Are f es

-- "In range are: sets G0, G1, G2 for cells and the last character ..; codes 2/0 to 7/F"
abbrev characters : List (ℕ × ℕ × Bool)
characters =
    (0, 32, true) ∷ (0, 127, true) ∷ (1, 32, true) ∷ (2, 32, true) ∷ (2, 127, true) ∷ (0, 31, false) ∷ (2, 31, false)
    ∷ (0, 128, false) ∷ (3, 32, false) ∷ (3, 127, false) ∷ []

pub characters_are : Are (λ s d. good_character (record { set = s; code = d })) characters
unfolding good_character
characters_are = (refl, (refl, (refl, (refl, (refl, (refl, (refl, (refl, (refl, (refl, tt))))))))))

-- "a G0 space or any G1 character"
abbrev takers : List (ℕ × ℕ × Bool)
takers = (0, 32, true) ∷ (1, 32, true) ∷ (1, 127, true) ∷ (0, 33, false) ∷ (0, 65, false) ∷ (2, 32, false) ∷ []

pub takers_are : Are (λ s d. takes (record { set = s; code = d })) takers
takers_are = (refl, (refl, (refl, (refl, (refl, (refl, tt))))))

-- ---- cells

-- A in this ink on this ground
abbrev coloured : ℕ → ℕ → Cell
coloured i g = record { character = record { set = 0; code = 65 }; ink = i; ground = g; flash = true; inverse = true }

-- "colours 0 to 7"
abbrev colours : List (ℕ × ℕ × Bool)
colours =
    (0, 0, true) ∷ (7, 0, true) ∷ (0, 7, true) ∷ (7, 7, true) ∷ (8, 0, false) ∷ (0, 8, false) ∷ (8, 8, false) ∷ []

pub colours_are : Are (λ i g. good_cell (coloured i g)) colours
unfolding good_character
colours_are = (refl, (refl, (refl, (refl, (refl, (refl, (refl, tt)))))))

-- cells that differ from a blank one in one part each: its set, its code, ink, ground, flash, inverse
abbrev others : List Cell
others =
    record { character = record { set = 0; code = 32 }; ink = 7; ground = 0; flash = false; inverse = false }
    ∷ record { character = record { set = 1; code = 33 }; ink = 7; ground = 0; flash = false; inverse = false }
    ∷ record { character = record { set = 1; code = 32 }; ink = 6; ground = 0; flash = false; inverse = false }
    ∷ record { character = record { set = 1; code = 32 }; ink = 7; ground = 1; flash = false; inverse = false }
    ∷ record { character = record { set = 1; code = 32 }; ink = 7; ground = 0; flash = true; inverse = false }
    ∷ record { character = record { set = 1; code = 32 }; ink = 7; ground = 0; flash = false; inverse = true }
    ∷ []

abbrev NoneBlank : List Cell → Type 0
NoneBlank [] = Unit {0}
NoneBlank (c ∷ cs) = (is_blank c ≡ false) × (same_cell blank_of c ≡ false) × NoneBlank cs

pub blanks_are : (is_blank blank_of ≡ true) × NoneBlank others
blanks_are = (
  refl,
  (refl, refl, (refl, refl, (refl, refl, (refl, refl, (refl, refl, (refl, refl, tt)))))),
)

-- looks, whatever the character: a mosaic beside A in ink 1 on ground 2, flashing and inverse; then each look alone differs
abbrev mosaic : ℕ → ℕ → Bool → Bool → Cell
mosaic i g f v = record { character = record { set = 1; code = 53 }; ink = i; ground = g; flash = f; inverse = v }

pub looks_are : (same_looks (coloured 1 2) (mosaic 1 2 true true) ≡ true)
    × (same_looks (coloured 1 2) (mosaic 2 2 true true) ≡ false)
    × (same_looks (coloured 1 2) (mosaic 1 1 true true) ≡ false)
    × (same_looks (coloured 1 2) (mosaic 1 2 false true) ≡ false)
    × (same_looks (coloured 1 2) (mosaic 1 2 true false) ≡ false)
looks_are = (refl, refl, refl, refl, refl)
