-- Characters written by hand: the pen before, the character, its cell, the pen after. And pens in range and out of it.
-- Assumes nothing.
use mathlib.Core.Path.{◌≡◌, refl}
use mathlib.Core.Bool.{Bool, true, false}
use mathlib.Core.List.{List, [], ◌∷◌, map}
use Prim.Native.Nat.{ℕ}
use lib.ListN.{replicate}
use Rattle.std.specs.Prelude.{Option, Some, None}
use Rattle.screen_cursor.specs.declared.Place.{Place}
use Rattle.screen_cursor.specs.Places.{at}
use Rattle.screen_sequences.specs.declared.Sequence.{Sequence}
use Rattle.screen_sequences.specs.declared.Sequence.TheVariants.{Free, Repeat, Row}
use Rattle.screen_cells.specs.declared.Cell.{Cell}
use Rattle.screen_cells.specs.declared.Character.{Character}
use Rattle.screen_cells.specs.Characters.{good_character}
use Rattle.screen_attributes.specs.declared.Attributes.{Attributes}
use Rattle.screen_attributes.proofs.Literal.{those, awaiting, flashing, inverted}
use Rattle.screen_pen.specs.declared.Pen.{Pen}
use Rattle.screen_pen.specs.declared.Stroke.{Stroke}
use Rattle.screen_pen.specs.Pens.{fresh_pen, good_spot, in_range}
use Rattle.screen_pen.specs.Strokes.{stroke}

-- place and attributes, what is kept of both, the last character, what is unfinished, whether the cursor is shown
abbrev pub pen : Place → Attributes → Place → Attributes → Option Character → Sequence → Bool → Pen
pen x a y b l q t =
    record {
      here = record { place = x; attributes = a };
      kept = record { place = y; attributes = b };
      last = l;
      sequence = q;
      shown = t;
    }

abbrev pub character : ℕ → ℕ → Character
character s d = record { set = s; code = d }

abbrev cell : ℕ → ℕ → ℕ → ℕ → Bool → Bool → Cell
cell s d i g f v = record { character = character s d; ink = i; ground = g; flash = f; inverse = v }

-- G0, ink 7, ground 0, none waiting, steady, not inverse
abbrev pub start : Attributes
start = those 0 7 0

-- row 3, column 40; G1, ink 2, ground 4, ground 5 waiting, flashing; kept of row 7, column 9: inverse in ink 1
abbrev busy : Pen
busy =
    pen (at 3 40) (flashing (awaiting 5 (those 1 2 4))) (at 7 9) (inverted (those 0 1 0)) (Some (character 0 66))
    Repeat true

abbrev Card : Type 0
Card = Pen × Character × Cell × Pen

abbrev worked : List Card
worked =
    -- A on a fresh screen
    (fresh_pen, character 0 65, cell 0 65 7 0 false false, pen (at 1 2) start (at 1 1) start (Some (character 0 65)) Free false)
    -- a G2 character takes no ground
    ∷ (
      busy,
      character 2 35,
      cell 2 35 2 4 true false,
      pen (at 4 1) (flashing (awaiting 5 (those 1 2 4))) (at 7 9) (inverted (those 0 1 0))
          (Some (character 2 35)) Repeat true,
    )
    -- a G1 character takes it, and has it
    ∷ (
      busy,
      character 1 53,
      cell 1 53 2 5 true false,
      pen (at 4 1) (flashing (those 1 2 5)) (at 7 9) (inverted (those 0 1 0))
          (Some (character 1 53)) Repeat true,
    )
    ∷ []

abbrev left : Cell → Pen → Stroke
left c p = record { cell = c; pen = p }

pub worked_so : map (λ (c : Card). stroke c.0 c.1) worked ≡ map (λ (c : Card). left c.2 c.3) worked
worked_so = refl

-- ---- ranges

-- of every part its bounds, and just beyond them
abbrev good : List Pen
good =
    pen (at 0 1) start (at 0 40) start None Free false
    ∷ pen (at 24 40) (inverted (flashing (awaiting 7 (those 1 7 7)))) (at 24 1) (inverted (awaiting 0 (those 1 0 0)))
    (Some (character 2 127)) (Row 127) true
    ∷ pen (at 1 1) start (at 1 1) start (Some (character 0 32)) (Row 32) false
    ∷ []

-- the cursor, the attributes in force, what is kept of both, the last character, the sequence
abbrev bad : List Pen
bad =
    pen (at 25 1) start (at 1 1) start None Free false
    ∷ pen (at 1 0) start (at 1 1) start None Free false
    ∷ pen (at 1 41) start (at 1 1) start None Free false
    ∷ pen (at 1 1) (those 2 7 0) (at 1 1) start None Free false
    ∷ pen (at 1 1) (those 0 8 0) (at 1 1) start None Free false
    ∷ pen (at 1 1) (those 0 7 8) (at 1 1) start None Free false
    ∷ pen (at 1 1) (awaiting 8 (those 0 7 0)) (at 1 1) start None Free false
    ∷ pen (at 1 1) start (at 25 1) start None Free false
    ∷ pen (at 1 1) start (at 1 0) start None Free false
    ∷ pen (at 1 1) start (at 1 41) start None Free false
    ∷ pen (at 1 1) start (at 1 1) (those 2 7 0) None Free false
    ∷ pen (at 1 1) start (at 1 1) (awaiting 8 (those 0 7 0)) None Free false
    ∷ pen (at 1 1) start (at 1 1) start (Some (character 3 65)) Free false
    ∷ pen (at 1 1) start (at 1 1) start (Some (character 0 31)) Free false
    ∷ pen (at 1 1) start (at 1 1) start (Some (character 0 128)) Free false
    ∷ pen (at 1 1) start (at 1 1) start None (Row 31) false
    ∷ pen (at 1 1) start (at 1 1) start None (Row 128) false
    ∷ []

pub ranges_so : (map in_range good ≡ replicate 3 true) × (map in_range bad ≡ replicate 17 false)
unfolding in_range good_spot good_character
ranges_so = (refl, refl)
