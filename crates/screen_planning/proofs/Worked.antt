-- Values worked by hand: a fresh pen after them. Assumes nothing.
use mathlib.Core.Path.{◌≡◌, refl}
use mathlib.Core.Bool.{true, false}
use mathlib.Core.List.{List, [], ◌∷◌, ◌++◌, map}
use Prim.Native.Nat.{ℕ}
use Rattle.std.specs.Prelude.{Some, None}
use Rattle.screen_cursor.specs.declared.Place.{Place}
use Rattle.screen_cursor.specs.Places.{at}
use Rattle.screen_sequences.specs.declared.Sequence.TheVariants.{Free}
use Rattle.screen_attributes.specs.declared.Attributes.{Attributes}
use Rattle.screen_attributes.proofs.Literal.{those, awaiting, flashing, inverted}
use Rattle.screen_pen.specs.declared.Pen.{Pen}
use Rattle.screen_pen.specs.Pens.{fresh_pen}
use Rattle.screen_pen.specs.Strokes.{after_times}
use Rattle.screen_pen.proofs.Worked.{pen, character, start}
use Rattle.screen_planning.specs.Obeying.{gone, obeyed}
use Rattle.screen_planning.specs.Planning.{pen_after}

-- the pen after these values
abbrev after : Pen → List ℕ → Pen
after p [] = p
after p (b ∷ bs) = after (pen_after p b) bs

-- A, CON, US 4/7 4/8, ESC 4/4, US 4/0 4/1, RS: row 1, column 1 and start attributes, with a last character, the cursor
-- shown, and row 7, column 8 and ink 4 kept
abbrev ready : List ℕ
ready = 65 ∷ 17 ∷ 31 ∷ 71 ∷ 72 ∷ 27 ∷ 68 ∷ 31 ∷ 64 ∷ 65 ∷ 30 ∷ []

abbrev held : Place → Attributes → Pen
held x a = pen x a (at 7 8) (those 0 4 0) (Some (character 0 65)) Free true

-- ESC 4/1, ESC 4/8, ESC 5/2, ESC 5/D: ink 1, flash, ground 2 waiting, inverse; and SO after them
abbrev coloured : List ℕ
coloured = 27 ∷ 65 ∷ 27 ∷ 72 ∷ 27 ∷ 82 ∷ 27 ∷ 93 ∷ []

abbrev colours : Attributes
colours = inverted (flashing (awaiting 2 (those 0 1 0)))

abbrev mosaics : List ℕ
mosaics = coloured ++ (14 ∷ [])

abbrev in_mosaics : Attributes
in_mosaics = flashing (awaiting 2 (those 1 1 0))

-- in row 0, entered from row 1, column 1
abbrev in_row0 : ℕ → Attributes → Pen
in_row0 c a = pen (at 0 c) a (at 1 1) start (Some (character 0 65)) Free true

-- US 4/5 4/6: row 5, column 6
abbrev us56 : List ℕ
us56 = 31 ∷ 69 ∷ 70 ∷ []

abbrev Card : Type 0
Card = List ℕ × Pen

-- from such a pen
abbrev then : List ℕ → Pen → Card
then vs p = (ready ++ vs, p)

abbrev worked : List Card
worked =
    -- a fresh pen
    ([], pen (at 1 1) start (at 1 1) start None Free false)
    ∷ then [] (held (at 1 1) start)
    -- BS, HT, VT, LF and CR from row 5, column 6
    ∷ then (us56 ++ (mosaics ++ (8 ∷ []))) (held (at 5 5) in_mosaics)
    ∷ then (us56 ++ (mosaics ++ (9 ∷ []))) (held (at 5 7) in_mosaics)
    ∷ then (us56 ++ (mosaics ++ (11 ∷ []))) (held (at 4 6) in_mosaics)
    ∷ then (us56 ++ (mosaics ++ (10 ∷ []))) (held (at 6 6) in_mosaics)
    ∷ then (us56 ++ (mosaics ++ (13 ∷ []))) (held (at 5 1) in_mosaics)
    -- BS and VT from row 1, column 1; HT and LF from row 24, column 40
    ∷ then (mosaics ++ (8 ∷ [])) (held (at 24 40) in_mosaics)
    ∷ then (mosaics ++ (11 ∷ [])) (held (at 24 1) in_mosaics)
    ∷ then (mosaics ++ (8 ∷ 9 ∷ [])) (held (at 1 1) in_mosaics)
    ∷ then (mosaics ++ (8 ∷ 10 ∷ [])) (held (at 1 40) in_mosaics)
    -- row 0: BS and VT at column 1; HT, CR, and a character at column 40; LF leads back to row 1, column 1
    ∷ then (31 ∷ 64 ∷ 65 ∷ mosaics ++ (8 ∷ 11 ∷ [])) (in_row0 1 in_mosaics)
    ∷ then (31 ∷ 64 ∷ 104 ∷ mosaics ++ (9 ∷ [])) (in_row0 40 in_mosaics)
    ∷ then (31 ∷ 64 ∷ 104 ∷ mosaics ++ (13 ∷ [])) (in_row0 1 in_mosaics)
    ∷ then (31 ∷ 64 ∷ 104 ∷ 65 ∷ []) (in_row0 40 start)
    ∷ then (31 ∷ 64 ∷ 104 ∷ mosaics ++ (10 ∷ [])) (pen (at 1 1) start (at 1 1) start (Some (character 0 65)) Free true)
    -- COFF; COFF and CON
    ∷ then (mosaics ++ (20 ∷ []))
    (pen (at 1 1) in_mosaics (at 7 8) (those 0 4 0) (Some (character 0 65)) Free false)
    ∷ then (mosaics ++ (20 ∷ 17 ∷ [])) (held (at 1 1) in_mosaics)
    -- ESC pairs; ESC 4/9 and ESC 5/C; ESC 5/8 and ESC 3/1 do nothing
    ∷ then coloured (held (at 1 1) colours)
    ∷ then (coloured ++ (27 ∷ 73 ∷ 27 ∷ 92 ∷ [])) (held (at 1 1) (awaiting 2 (those 0 1 0)))
    ∷ then (coloured ++ (27 ∷ 88 ∷ 27 ∷ 49 ∷ [])) (held (at 1 1) colours)
    -- SO; SO and ESC 5/D; SI; SO and SI
    ∷ then mosaics (held (at 1 1) in_mosaics)
    ∷ then (mosaics ++ (27 ∷ 93 ∷ [])) (held (at 1 1) in_mosaics)
    ∷ then (coloured ++ (15 ∷ [])) (held (at 1 1) colours)
    ∷ then (mosaics ++ (15 ∷ [])) (held (at 1 1) (flashing (awaiting 2 (those 0 1 0))))
    -- FF, RS and a good US
    ∷ then (mosaics ++ (9 ∷ 12 ∷ [])) (held (at 1 1) start)
    ∷ then (mosaics ++ (9 ∷ 30 ∷ [])) (held (at 1 1) start)
    ∷ then (mosaics ++ us56) (held (at 5 6) start)
    -- a bad US: row 25, and column 41
    ∷ then (us56 ++ (mosaics ++ (31 ∷ 89 ∷ 65 ∷ []))) (held (at 5 6) in_mosaics)
    ∷ then (us56 ++ (mosaics ++ (31 ∷ 65 ∷ 105 ∷ []))) (held (at 5 6) in_mosaics)
    -- US into row 0 from row 5 and ESC 4/3; another US within row 0, and LF; LF, and RS
    ∷ then (us56 ++ (mosaics ++ (31 ∷ 64 ∷ 65 ∷ 27 ∷ 67 ∷ [])))
    (pen (at 0 1) (those 0 3 0) (at 5 6) in_mosaics (Some (character 0 65)) Free true)
    ∷ then (us56 ++ (mosaics ++ (31 ∷ 64 ∷ 65 ∷ 27 ∷ 67 ∷ 31 ∷ 64 ∷ 66 ∷ 10 ∷ [])))
    (pen (at 5 6) in_mosaics (at 5 6) in_mosaics (Some (character 0 65)) Free true)
    ∷ then (us56 ++ (mosaics ++ (31 ∷ 64 ∷ 65 ∷ 10 ∷ 30 ∷ [])))
    (pen (at 1 1) start (at 5 6) in_mosaics (Some (character 0 65)) Free true)
    -- REP 4/3; SS2 3/0, and REP 4/2; REP with no last character
    ∷ then (18 ∷ 67 ∷ []) (held (at 1 4) start)
    ∷ then (25 ∷ 48 ∷ 18 ∷ 66 ∷ [])
    (pen (at 1 4) start (at 7 8) (those 0 4 0) (Some (character 2 48)) Free true)
    ∷ (18 ∷ 67 ∷ [], pen (at 1 1) start (at 1 1) start None Free false)
    -- ESC 5/2 and A; ESC 5/2 and a space; ESC 5/2, SO and a mosaic
    ∷ then (27 ∷ 82 ∷ 65 ∷ []) (held (at 1 2) (awaiting 2 (those 0 7 0)))
    ∷ (27 ∷ 82 ∷ 32 ∷ [], pen (at 1 2) (those 0 7 2) (at 1 1) start (Some (character 0 32)) Free false)
    ∷ (
      27 ∷ 82 ∷ 14 ∷ 65 ∷ [],
      pen (at 1 2) (those 1 7 2) (at 1 1) start (Some (character 1 65)) Free false,
    )
    ∷ []

pub worked_so : map (λ (c : Card). after fresh_pen c.0) worked ≡ map (λ (c : Card). c.1) worked
unfolding after_times gone obeyed
worked_so = refl
