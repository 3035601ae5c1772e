-- Words for the cards of the screen: codes, cells and pens written out (01, "Screen cells"). Of the screen's crates
-- only the types are taken, so that a card says what 01 says, whatever a definition there would make of it. Assumes
-- nothing.
use Rattle.std.specs.Prelude.{Some, None, true, false, List, [], ◌∷◌, ℕ, zero, suc, ◌+◌, ◌*◌, replicate}
use Rattle.screen_sequences.specs.declared.Sequence.{Sequence}
use Rattle.screen_sequences.specs.declared.Sequence.TheVariants.{Free}
use Rattle.screen_cells.specs.declared.Cell.{Cell}
use Rattle.screen_attributes.specs.declared.Attributes.{Attributes}
use Rattle.screen_pen.specs.declared.Spot.{Spot}
use Rattle.screen_pen.specs.declared.Pen.{Pen}

-- ---- the codes with names (001, part 2, chapter 2)

abbrev pub nul : ℕ
nul = 0

abbrev pub bs : ℕ
bs = 8

abbrev pub ht : ℕ
ht = 9

abbrev pub lf : ℕ
lf = 10

abbrev pub vt : ℕ
vt = 11

abbrev pub ff : ℕ
ff = 12

abbrev pub cr : ℕ
cr = 13

abbrev pub so : ℕ
so = 14

abbrev pub si : ℕ
si = 15

-- 1/1 and 1/4
abbrev pub con : ℕ
con = 17

abbrev pub coff : ℕ
coff = 20

-- 1/2, 1/3, 1/9, 1/B, 1/E, 1/F
abbrev pub rep : ℕ
rep = 18

abbrev pub sep : ℕ
sep = 19

abbrev pub ss2 : ℕ
ss2 = 25

abbrev pub esc : ℕ
esc = 27

abbrev pub rs : ℕ
rs = 30

abbrev pub us : ℕ
us = 31

-- so many codes, from this one on
abbrev pub codes : ℕ → ℕ → List ℕ
codes c zero = []
codes c (suc n) = c ∷ codes (c + 1) n

-- each of these with b behind it, and with ESC before it too
abbrev pub lettered : List ℕ → List ℕ
lettered [] = []
lettered (c ∷ cs) = c ∷ 98 ∷ lettered cs

abbrev pub pairs : List ℕ → List ℕ
pairs [] = []
pairs (c ∷ cs) = esc ∷ c ∷ 98 ∷ pairs cs

-- ---- cells

-- set, code, ink and ground; no flash, not inverse
abbrev pub cell : ℕ → ℕ → (ink ground : ℕ) → Cell
cell s d i g =
    record { character = record { set = s; code = d }; ink = i; ground = g; flash = false; inverse = false }

-- the same with flash, and inverse
abbrev pub flashing : Cell → Cell
flashing c = record c { flash = true }

abbrev pub inverted : Cell → Cell
inverted c = record c { inverse = true }

-- a code of G0 with start attributes
abbrev pub plain : ℕ → Cell
plain d = cell 0 d 7 0

-- "A blank cell has set G1, code 2/0, ink 7, ground 0, no flash, not inverse": so many, and so many rows of forty
abbrev pub blanks : ℕ → List Cell
blanks n = replicate n (cell 1 32 7 0)

abbrev pub rows : ℕ → List Cell
rows n = blanks (n * 40)

-- ---- attributes

-- set, ink and ground; none waiting, no flash, not inverse
abbrev pub those : ℕ → ℕ → ℕ → Attributes
those s i g =
    record { set = s; ink = i; zone = record { ground = g; waiting = None }; flash = false; inverse = false }

-- "Current attributes at the start: set G0, ink 7, ground 0, none waiting, no flash, not inverse"
abbrev pub start : Attributes
start = those 0 7 0

-- the same with this ground waiting, with flash, and inverse
abbrev pub awaiting : ℕ → Attributes → Attributes
awaiting g a = record a { zone = record { ground = a.zone.ground; waiting = Some g } }

abbrev pub flash : Attributes → Attributes
flash a = record a { flash = true }

abbrev pub inverse : Attributes → Attributes
inverse a = record a { inverse = true }

-- ---- pens

-- this row and column, with these attributes
abbrev pub spot : ℕ → ℕ → Attributes → Spot
spot r c a = record { place = record { row = r; column = c }; attributes = a }

-- there: as at the start nothing was held before row 0 was entered, no character was written, nothing is unfinished, and
-- the cursor is hidden
abbrev pub pen : ℕ → ℕ → Attributes → Pen
pen r c a = record { here = spot r c a; kept = spot 1 1 start; last = None; sequence = Free; shown = false }

-- the same with this place and these attributes held before row 0 was entered
abbrev pub keeping : ℕ → ℕ → Attributes → Pen → Pen
keeping r c a p = record p { kept = spot r c a }

-- with this set and code as the last character
abbrev pub lately : ℕ → ℕ → Pen → Pen
lately s d p = record p { last = Some (record { set = s; code = d }) }

-- with this sequence unfinished
abbrev pub unfinished : Sequence → Pen → Pen
unfinished q p = record p { sequence = q }

-- with the cursor shown
abbrev pub visible : Pen → Pen
visible p = record p { shown = true }
