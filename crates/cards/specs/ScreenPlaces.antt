-- Our own cards of the screen (01, "Screen cells"): moves at every edge, row 0, FF, RS and US. Letters are a (97) to h
-- (104); the rows and columns that US names are codes from 64 on. Assumes nothing.
use Rattle.std.specs.Prelude.{List, [], ◌∷◌, ◌++◌}
use Rattle.cards.specs.Drawn.{bs, ht, lf, vt, ff, cr, so, si, con, coff, rep, ss2, esc, rs, us}
use Rattle.cards.specs.Drawn.{cell, flashing, inverted, plain, blanks, rows}
use Rattle.cards.specs.Drawn.{those, start, awaiting, flash, inverse}
use Rattle.cards.specs.Drawn.{pen, keeping, lately, visible}
use Rattle.cards.specs.Cards.{Card, shown}

-- ---- moves: a letter shows where each leads

-- BS: "left of column 1 is column 40 of the row above", "row 24 joins row 1"; "Row 0: BS at column 1 .. do nothing"
abbrev pub left : Card
left =
    shown
    (us ∷ 65 ∷ 65 ∷ bs ∷ 97
    ∷ us ∷ 66 ∷ 65 ∷ bs ∷ 98
    ∷ us ∷ 88 ∷ 104 ∷ bs ∷ 99
    ∷ us ∷ 67 ∷ 66 ∷ bs ∷ 102
    ∷ us ∷ 64 ∷ 65 ∷ bs ∷ 100
    ∷ us ∷ 64 ∷ 104 ∷ bs ∷ 101 ∷ [])
    (plain 100 ∷ [] ++ blanks 37 ++ plain 101 ∷ [] ++ blanks 1
    ++ blanks 39 ++ plain 98 ∷ []
    ++ rows 1
    ++ plain 102 ∷ [] ++ blanks 39
    ++ rows 20
    ++ blanks 38 ++ plain 99 ∷ plain 97 ∷ [])
    (keeping 3 2 start (lately 0 101 (pen 0 40 start)))

-- HT: "right of column 40 is column 1 of the row below"; a character does the same. "Row 0: .. HT at column 40 .. do
-- nothing; a character in column 40 leaves the cursor there"
abbrev pub right : Card
right =
    shown
    (us ∷ 88 ∷ 104 ∷ ht ∷ 97
    ∷ us ∷ 65 ∷ 104 ∷ ht ∷ 98
    ∷ us ∷ 67 ∷ 69 ∷ ht ∷ 99
    ∷ us ∷ 66 ∷ 104 ∷ 100 ∷ 101
    ∷ us ∷ 64 ∷ 102 ∷ ht ∷ 102 ∷ 103 ∷ ht ∷ 104 ∷ [])
    (blanks 38 ++ plain 102 ∷ plain 104 ∷ []
    ++ plain 97 ∷ [] ++ blanks 39
    ++ plain 98 ∷ [] ++ blanks 38 ++ plain 100 ∷ []
    ++ plain 101 ∷ [] ++ blanks 4 ++ plain 99 ∷ [] ++ blanks 34
    ++ rows 21)
    (keeping 3 2 start (lately 0 104 (pen 0 40 start)))

-- VT: one row up, "row 24 joins row 1"; "Row 0: .. VT do nothing"
abbrev pub up : Card
up =
    shown
    (us ∷ 65 ∷ 71 ∷ vt ∷ 97
    ∷ us ∷ 88 ∷ 104 ∷ vt ∷ 98
    ∷ us ∷ 66 ∷ 67 ∷ vt ∷ 99
    ∷ us ∷ 64 ∷ 69 ∷ vt ∷ 100 ∷ [])
    (blanks 4 ++ plain 100 ∷ [] ++ blanks 35
    ++ blanks 2 ++ plain 99 ∷ [] ++ blanks 37
    ++ rows 21
    ++ blanks 39 ++ plain 98 ∷ []
    ++ blanks 6 ++ plain 97 ∷ [] ++ blanks 33)
    (keeping 1 4 start (lately 0 100 (pen 0 6 start)))

-- LF: one row down, "row 24 joins row 1"
abbrev pub down : Card
down =
    shown
    (us ∷ 88 ∷ 71 ∷ lf ∷ 97
    ∷ us ∷ 65 ∷ 104 ∷ lf ∷ 98 ∷ lf ∷ 99
    ∷ us ∷ 87 ∷ 67 ∷ lf ∷ 100 ∷ [])
    (rows 1
    ++ blanks 6 ++ plain 97 ∷ [] ++ blanks 33
    ++ blanks 39 ++ plain 98 ∷ []
    ++ rows 1
    ++ plain 99 ∷ [] ++ blanks 39
    ++ rows 19
    ++ blanks 2 ++ plain 100 ∷ [] ++ blanks 37)
    (lately 0 100 (pen 24 4 start))

-- "CR: column 1", in row 0 too
abbrev pub first : Card
first =
    shown
    (us ∷ 88 ∷ 104 ∷ cr ∷ 97
    ∷ us ∷ 65 ∷ 65 ∷ cr ∷ 98
    ∷ us ∷ 64 ∷ 81 ∷ cr ∷ 99 ∷ [])
    (plain 99 ∷ [] ++ blanks 39
    ++ plain 98 ∷ [] ++ blanks 39
    ++ rows 22
    ++ plain 97 ∷ [] ++ blanks 39)
    (keeping 1 2 start (lately 0 99 (pen 0 2 start)))

-- ---- LF in row 0

-- "LF returns to the place and attributes held before the last US that entered row 0 from another row": a second US
-- within row 0 changes nothing of it. "A ground waiting at that time waits again"
abbrev pub back : Card
back =
    shown
    (con ∷ us ∷ 69 ∷ 73 ∷ so ∷ esc ∷ 66 ∷ esc ∷ 72 ∷ esc ∷ 81 ∷ 33 ∷ esc ∷ 86
    ∷ us ∷ 64 ∷ 67 ∷ 97 ∷ esc ∷ 65
    ∷ us ∷ 64 ∷ 80 ∷ 98 ∷ esc ∷ 67 ∷ esc ∷ 85
    ∷ lf ∷ [])
    (blanks 2 ++ plain 97 ∷ [] ++ blanks 12 ++ plain 98 ∷ [] ++ blanks 24
    ++ rows 4
    ++ blanks 8 ++ flashing (cell 1 33 2 1) ∷ [] ++ blanks 31
    ++ rows 19)
    (visible (keeping 5 10 (awaiting 6 (flash (those 1 2 1))) (lately 0 98
    (pen 5 10 (awaiting 6 (flash (those 1 2 1)))))))

-- the same from G0 with inverse, twice; RS leaves row 0, and nothing of what was held
abbrev pub back_twice : Card
back_twice =
    shown
    (esc ∷ 93 ∷ esc ∷ 65 ∷ 97
    ∷ us ∷ 64 ∷ 65 ∷ 98 ∷ lf ∷ 99
    ∷ us ∷ 64 ∷ 66 ∷ 100 ∷ rs ∷ [])
    (plain 98 ∷ plain 100 ∷ [] ++ blanks 38
    ++ inverted (cell 0 97 1 0) ∷ inverted (cell 0 99 1 0) ∷ [] ++ blanks 38
    ++ rows 23)
    (keeping 1 3 (inverse (those 0 1 0)) (lately 0 100 (pen 1 1 start)))

-- US out of row 0 and in again: the last one that entered it counts
abbrev pub back_to_the_last : Card
back_to_the_last =
    shown
    (us ∷ 66 ∷ 70 ∷ esc ∷ 93
    ∷ us ∷ 64 ∷ 65
    ∷ us ∷ 67 ∷ 71 ∷ esc ∷ 65
    ∷ us ∷ 64 ∷ 66 ∷ lf ∷ 97 ∷ [])
    (rows 3 ++ blanks 6 ++ cell 0 97 1 0 ∷ [] ++ blanks 33 ++ rows 21)
    (keeping 3 7 (those 0 1 0) (lately 0 97 (pen 3 8 (those 0 1 0))))

-- nothing but such a US changes what is held: not moves, sets, CON, COFF, pairs, characters, a bad US, RS or FF
abbrev pub held_on : Card
held_on =
    shown
    (us ∷ 67 ∷ 69 ∷ esc ∷ 66 ∷ esc ∷ 93
    ∷ us ∷ 64 ∷ 65 ∷ bs ∷ ht ∷ vt ∷ cr ∷ con ∷ 97
    ∷ us ∷ 68 ∷ 70 ∷ bs ∷ ht ∷ vt ∷ lf ∷ cr ∷ coff ∷ con ∷ so ∷ si ∷ esc ∷ 65 ∷ 98 ∷ rep ∷ 65 ∷ ss2 ∷ 33
    ∷ us ∷ 63 ∷ 65 ∷ us ∷ 89 ∷ 65 ∷ us ∷ 65 ∷ 64 ∷ us ∷ 65 ∷ 105 ∷ rs ∷ ff ∷ [])
    (plain 97 ∷ [] ++ blanks 39 ++ rows 24)
    (visible (keeping 3 5 (inverse (those 0 2 0)) (lately 2 33 (pen 1 1 start))))

-- row 0 entered first of all: back to "row 1, column 1 and start attributes"
abbrev pub back_to_the_start : Card
back_to_the_start =
    shown
    (us ∷ 64 ∷ 69 ∷ 97 ∷ esc ∷ 65 ∷ lf ∷ 98 ∷ [])
    (blanks 4 ++ plain 97 ∷ [] ++ blanks 35
    ++ plain 98 ∷ [] ++ blanks 39
    ++ rows 23)
    (lately 0 98 (pen 1 2 start))

-- ---- FF and RS

-- "FF: rows 1 to 24 blank, row 0 kept; cursor to row 1, column 1; start attributes": out of row 0, with G1, ink,
-- ground, flash and a waiting ground
abbrev pub cleared : Card
cleared =
    shown
    (con ∷ 97 ∷ us ∷ 88 ∷ 104 ∷ 98 ∷ esc ∷ 66
    ∷ us ∷ 64 ∷ 65 ∷ 99
    ∷ us ∷ 64 ∷ 104 ∷ so ∷ esc ∷ 67 ∷ esc ∷ 84 ∷ 33 ∷ esc ∷ 72 ∷ esc ∷ 85
    ∷ ff ∷ [])
    (plain 99 ∷ [] ++ blanks 38 ++ cell 1 33 3 4 ∷ [] ++ rows 24)
    (visible (keeping 1 1 (those 0 2 0) (lately 1 33 (pen 1 1 start))))

-- and with inverse
abbrev pub cleared_inverse : Card
cleared_inverse =
    shown
    (esc ∷ 65 ∷ esc ∷ 82 ∷ 32 ∷ esc ∷ 83 ∷ esc ∷ 72 ∷ esc ∷ 93 ∷ 97 ∷ ff ∷ 98 ∷ [])
    (rows 1 ++ plain 98 ∷ [] ++ blanks 39 ++ rows 23)
    (lately 0 98 (pen 1 2 start))

-- "RS: the same without blanking": from inverse, flash, ink, ground and a waiting ground, and from G1
abbrev pub home : Card
home =
    shown
    (con ∷ esc ∷ 93 ∷ esc ∷ 72 ∷ esc ∷ 65 ∷ esc ∷ 82 ∷ 32 ∷ 33 ∷ 34 ∷ esc ∷ 83
    ∷ rs ∷ 97 ∷ so ∷ esc ∷ 68 ∷ esc ∷ 86 ∷ 33 ∷ esc ∷ 72 ∷ esc ∷ 85
    ∷ rs ∷ [])
    (rows 1 ++ plain 97 ∷ cell 1 33 4 6 ∷ flashing (inverted (cell 0 34 1 2)) ∷ [] ++ blanks 37 ++ rows 23)
    (visible (lately 1 33 (pen 1 1 start)))

-- ---- US

-- "US r c: row r minus 64 in 0 to 24, column c minus 64 in 1 to 40: cursor there, start attributes": the four corners,
-- row 1, column 40, and row 1, column 1
abbrev pub good_us : Card
good_us =
    shown
    (esc ∷ 65 ∷ esc ∷ 82 ∷ 32 ∷ esc ∷ 72 ∷ esc ∷ 93 ∷ esc ∷ 83
    ∷ us ∷ 88 ∷ 104 ∷ 97 ∷ so ∷ esc ∷ 68 ∷ esc ∷ 72 ∷ esc ∷ 85
    ∷ us ∷ 88 ∷ 65 ∷ 98 ∷ esc ∷ 93
    ∷ us ∷ 64 ∷ 104 ∷ 99 ∷ esc ∷ 66
    ∷ us ∷ 64 ∷ 65 ∷ 100
    ∷ us ∷ 65 ∷ 104 ∷ 101 ∷ so ∷ esc ∷ 69 ∷ esc ∷ 81 ∷ 102
    ∷ us ∷ 65 ∷ 65 ∷ [])
    (plain 100 ∷ [] ++ blanks 38 ++ plain 99 ∷ []
    ++ cell 0 32 1 2 ∷ [] ++ blanks 38 ++ plain 101 ∷ []
    ++ cell 1 102 5 1 ∷ [] ++ blanks 39
    ++ rows 21
    ++ plain 98 ∷ [] ++ blanks 38 ++ plain 97 ∷ [])
    (keeping 24 2 (inverse start) (lately 1 102 (pen 1 1 start)))

-- "else all three dropped": rows 3/F, 5/9 and 2/0, columns 4/0, 6/9 and 7/F, from row 5 with attributes set
abbrev pub bad_us : Card
bad_us =
    shown
    (con ∷ us ∷ 69 ∷ 73 ∷ esc ∷ 66 ∷ esc ∷ 84 ∷ 32 ∷ esc ∷ 72 ∷ esc ∷ 93 ∷ esc ∷ 81
    ∷ us ∷ 63 ∷ 65 ∷ 97 ∷ us ∷ 89 ∷ 65 ∷ 98 ∷ us ∷ 65 ∷ 64 ∷ 99 ∷ us ∷ 65 ∷ 105 ∷ 100
    ∷ us ∷ 64 ∷ 64 ∷ 101 ∷ us ∷ 64 ∷ 105 ∷ 102 ∷ us ∷ 32 ∷ 127 ∷ 103 ∷ [])
    (rows 5
    ++ blanks 8 ++ cell 0 32 2 4 ∷ flashing (inverted (cell 0 97 2 4)) ∷ flashing (inverted (cell 0 98 2 4))
    ∷ flashing (inverted (cell 0 99 2 4)) ∷ flashing (inverted (cell 0 100 2 4)) ∷ flashing (inverted (cell 0 101 2 4))
    ∷ flashing (inverted (cell 0 102 2 4)) ∷ flashing (inverted (cell 0 103 2 4)) ∷ [] ++ blanks 24
    ++ rows 19)
    (visible (lately 0 103 (pen 5 17 (awaiting 1 (flash (inverse (those 0 2 4)))))))

-- W14 and its like in G1, behind a letter, with an ink and a waiting ground
abbrev pub bad_us_in_g1 : Card
bad_us_in_g1 =
    shown
    (so ∷ esc ∷ 65 ∷ 97 ∷ esc ∷ 82 ∷ us ∷ 63 ∷ 65 ∷ us ∷ 89 ∷ 65 ∷ us ∷ 65 ∷ 64 ∷ us ∷ 65 ∷ 105 ∷ [])
    (rows 1 ++ cell 1 97 1 0 ∷ [] ++ blanks 39 ++ rows 23)
    (lately 1 97 (pen 1 2 (awaiting 2 (those 1 1 0))))

abbrev pub move_cards : List Card
move_cards = left ∷ right ∷ up ∷ down ∷ first ∷ []

abbrev pub row0_cards : List Card
row0_cards = back ∷ back_twice ∷ back_to_the_last ∷ held_on ∷ back_to_the_start ∷ []

abbrev pub place_cards : List Card
place_cards = cleared ∷ cleared_inverse ∷ home ∷ good_us ∷ bad_us ∷ bad_us_in_g1 ∷ []
