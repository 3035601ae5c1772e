-- Our own cards of the screen (01, "Screen cells"): inks, grounds, flash and inverse, the sets, the cursor shown.
-- Letters are a (97) to h (104). Assumes nothing.
use Rattle.std.specs.Prelude.{List, [], ◌∷◌, ◌++◌, ℕ, replicate}
use Rattle.cards.specs.Drawn.{bs, ht, lf, vt, cr, so, si, con, coff, ss2, esc}
use Rattle.cards.specs.Drawn.{codes, lettered, pairs, cell, flashing, inverted, plain, blanks, rows}
use Rattle.cards.specs.Drawn.{those, start, awaiting, flash, inverse}
use Rattle.cards.specs.Drawn.{pen, lately, visible}
use Rattle.cards.specs.Cards.{Card, shown}

-- "a fresh screen is 1,000 equal cells"; "The cursor starts at row 1, column 1, hidden"
abbrev pub fresh : Card
fresh = shown [] (rows 25) (pen 1 1 start)

-- "ESC 4/0 to 4/7: ink"
abbrev pub each_ink : Card
each_ink =
    shown
    (esc ∷ 64 ∷ 97 ∷ esc ∷ 65 ∷ 97 ∷ esc ∷ 66 ∷ 97 ∷ esc ∷ 67 ∷ 97
    ∷ esc ∷ 68 ∷ 97 ∷ esc ∷ 69 ∷ 97 ∷ esc ∷ 70 ∷ 97 ∷ esc ∷ 71 ∷ 97 ∷ [])
    (rows 1 ++ cell 0 97 0 0 ∷ cell 0 97 1 0 ∷ cell 0 97 2 0 ∷ cell 0 97 3 0
    ∷ cell 0 97 4 0 ∷ cell 0 97 5 0 ∷ cell 0 97 6 0 ∷ cell 0 97 7 0 ∷ [] ++ blanks 32 ++ rows 23)
    (lately 0 97 (pen 1 9 start))

-- "ESC 5/0 to 5/7: ground; it waits until a G0 space .., which takes it and all later ones": not the letter before it
abbrev pub each_ground_in_g0 : Card
each_ground_in_g0 =
    shown
    (esc ∷ 81 ∷ 97 ∷ 32 ∷ 98 ∷ esc ∷ 82 ∷ 32 ∷ esc ∷ 83 ∷ 32 ∷ esc ∷ 84 ∷ 32
    ∷ esc ∷ 85 ∷ 32 ∷ esc ∷ 86 ∷ 32 ∷ esc ∷ 87 ∷ 32 ∷ esc ∷ 80 ∷ 32 ∷ [])
    (rows 1 ++ cell 0 97 7 0 ∷ cell 0 32 7 1 ∷ cell 0 98 7 1 ∷ cell 0 32 7 2 ∷ cell 0 32 7 3 ∷ cell 0 32 7 4
    ∷ cell 0 32 7 5 ∷ cell 0 32 7 6 ∷ cell 0 32 7 7 ∷ cell 0 32 7 0 ∷ [] ++ blanks 30 ++ rows 23)
    (lately 0 32 (pen 1 11 start))

-- "or any G1 character, which takes it and all later ones", also in G0 again
abbrev pub each_ground_in_g1 : Card
each_ground_in_g1 =
    shown
    (so
    ∷ esc ∷ 81 ∷ esc ∷ 70 ∷ 32 ∷ esc ∷ 82 ∷ esc ∷ 69 ∷ 33 ∷ esc ∷ 83 ∷ esc ∷ 68 ∷ 63 ∷ esc ∷ 80 ∷ esc ∷ 71 ∷ 64
    ∷ esc ∷ 84 ∷ esc ∷ 67 ∷ 95 ∷ esc ∷ 85 ∷ esc ∷ 66 ∷ 96 ∷ esc ∷ 86 ∷ esc ∷ 65 ∷ 126 ∷ esc ∷ 87 ∷ esc ∷ 64 ∷ 127
    ∷ si ∷ 97 ∷ [])
    (rows 1 ++ cell 1 32 6 1 ∷ cell 1 33 5 2 ∷ cell 1 63 4 3 ∷ cell 1 64 7 0
    ∷ cell 1 95 3 4 ∷ cell 1 96 2 5 ∷ cell 1 126 1 6 ∷ cell 1 127 0 7 ∷ cell 0 97 0 7 ∷ [] ++ blanks 31 ++ rows 23)
    (lately 0 97 (pen 1 10 (those 0 0 7)))

-- nothing else takes a ground: not 2/1 and 7/F of G0, not SS2 2/0; another ground waits in its place, also one that is
-- in force
abbrev pub no_taker : Card
no_taker =
    shown
    (esc ∷ 83 ∷ 33 ∷ 127 ∷ ss2 ∷ 32 ∷ ss2 ∷ 33 ∷ esc ∷ 85 ∷ 97 ∷ 32 ∷ 98 ∷ esc ∷ 85 ∷ [])
    (rows 1 ++ cell 0 33 7 0 ∷ cell 0 127 7 0 ∷ cell 2 32 7 0 ∷ cell 2 33 7 0 ∷ cell 0 97 7 0 ∷ cell 0 32 7 5
    ∷ cell 0 98 7 5 ∷ [] ++ blanks 33 ++ rows 23)
    (lately 0 98 (pen 1 8 (awaiting 5 (those 0 7 5))))

-- "ESC 4/8 flash, 4/9 steady; 5/D inverse .., 5/C normal", on a space too
abbrev pub flash_and_inverse : Card
flash_and_inverse =
    shown
    (esc ∷ 72 ∷ 97 ∷ esc ∷ 73 ∷ 98 ∷ esc ∷ 93 ∷ 99 ∷ esc ∷ 72 ∷ 100 ∷ esc ∷ 92 ∷ 101 ∷ esc ∷ 73 ∷ 102
    ∷ esc ∷ 93 ∷ esc ∷ 72 ∷ 32 ∷ [])
    (rows 1 ++ flashing (plain 97) ∷ plain 98 ∷ inverted (plain 99) ∷ flashing (inverted (plain 100))
    ∷ flashing (plain 101) ∷ plain 102 ∷ flashing (inverted (plain 32)) ∷ [] ++ blanks 33 ++ rows 23)
    (lately 0 32 (pen 1 8 (flash (inverse start))))

-- "SO: set G1, inverse off"; "5/D inverse (no action in G1)", though 4/8 and 4/9 act there; "SI: set G0"
abbrev pub upright_in_g1 : Card
upright_in_g1 =
    shown
    (esc ∷ 93 ∷ 97 ∷ so ∷ esc ∷ 72 ∷ 98 ∷ esc ∷ 73 ∷ esc ∷ 93 ∷ 99 ∷ esc ∷ 72 ∷ si ∷ 100 ∷ esc ∷ 73 ∷ esc ∷ 93 ∷ 101
    ∷ so ∷ si ∷ 102 ∷ [])
    (rows 1 ++ inverted (plain 97) ∷ flashing (cell 1 98 7 0) ∷ cell 1 99 7 0 ∷ flashing (plain 100)
    ∷ inverted (plain 101) ∷ plain 102 ∷ []
    ++ blanks 34 ++ rows 23)
    (lately 0 102 (pen 1 7 start))

-- SI and SO leave ink, ground, waiting ground and flash, and SI leaves inverse
abbrev pub sets_alone : Card
sets_alone =
    shown
    (esc ∷ 67 ∷ esc ∷ 84 ∷ 32 ∷ esc ∷ 85 ∷ esc ∷ 72 ∷ esc ∷ 93 ∷ si ∷ 97 ∷ so ∷ 98 ∷ esc ∷ 86 ∷ si ∷ so ∷ [])
    (rows 1 ++ cell 0 32 3 4 ∷ flashing (inverted (cell 0 97 3 4)) ∷ flashing (cell 1 98 3 5) ∷ []
    ++ blanks 37 ++ rows 23)
    (lately 1 98 (pen 1 4 (awaiting 6 (flash (those 1 3 5)))))

-- "CON (1/1) and COFF (1/4) show and hide the cursor", also where it is so already
abbrev pub cursor_shown : Card
cursor_shown = shown (con ∷ con ∷ []) (rows 25) (visible (pen 1 1 start))

abbrev pub cursor_hidden : Card
cursor_hidden = shown (coff ∷ con ∷ coff ∷ coff ∷ []) (rows 25) (pen 1 1 start)

-- attributes for what has no action: ink 1, ground 2 taken by a space, ground 3 waiting, flash and inverse
abbrev pub all_set : List ℕ
all_set = esc ∷ 65 ∷ esc ∷ 82 ∷ 32 ∷ esc ∷ 83 ∷ esc ∷ 72 ∷ esc ∷ 93 ∷ []

-- CON, COFF and moves leave all attributes: BS twice, CR, VT, HT, LF
abbrev pub moves_alone : Card
moves_alone =
    shown
    (all_set ++ con ∷ coff ∷ con ∷ 97 ∷ bs ∷ bs ∷ cr ∷ vt ∷ ht ∷ lf ∷ [])
    (rows 1 ++ cell 0 32 1 2 ∷ flashing (inverted (cell 0 97 1 2)) ∷ [] ++ blanks 38 ++ rows 23)
    (visible (lately 0 97 (pen 1 2 (awaiting 3 (flash (inverse (those 0 1 2)))))))

-- and the set: BS, CR, LF, VT, HT twice
abbrev pub moves_in_g1 : Card
moves_in_g1 =
    shown
    (so ∷ esc ∷ 65 ∷ esc ∷ 82 ∷ 33 ∷ esc ∷ 83 ∷ esc ∷ 72 ∷ con ∷ coff ∷ bs ∷ cr ∷ lf ∷ vt ∷ ht ∷ ht ∷ [])
    (rows 1 ++ cell 1 33 1 2 ∷ [] ++ blanks 39 ++ rows 23)
    (lately 1 33 (pen 1 3 (awaiting 3 (flash (those 1 1 2)))))

-- "Other ESC pairs ..: no action": columns 3, 6 and 7, 4/A to 4/F, 5/8 to 5/A, 5/E and 5/F, a b behind each; at the
-- start, with attributes set, and in G1
abbrev pub other_codes : List ℕ
other_codes = codes 48 16 ++ codes 74 6 ++ codes 88 3 ++ codes 94 34

abbrev pub other_pairs : Card
other_pairs =
    shown
    (pairs other_codes ++ all_set ++ pairs other_codes ++ so ∷ [] ++ pairs other_codes)
    (rows 1 ++ replicate 59 (plain 98) ++ cell 0 32 1 2 ∷ [] ++ replicate 59 (flashing (inverted (cell 0 98 1 2)))
    ++ replicate 59 (flashing (cell 1 98 1 3)) ++ blanks 22 ++ rows 19)
    (lately 1 98 (pen 5 19 (flash (those 1 1 3))))

-- "other C0 codes: no action", the same way
abbrev pub other_c0s : List ℕ
other_c0s = codes 1 7 ++ 16 ∷ [] ++ codes 21 4 ++ 26 ∷ 28 ∷ 29 ∷ []

abbrev pub other_c0 : Card
other_c0 =
    shown
    (lettered other_c0s ++ all_set ++ lettered other_c0s ++ so ∷ [] ++ lettered other_c0s)
    (rows 1 ++ replicate 15 (plain 98) ++ cell 0 32 1 2 ∷ [] ++ replicate 15 (flashing (inverted (cell 0 98 1 2)))
    ++ replicate 15 (flashing (cell 1 98 1 3)) ++ blanks 34 ++ rows 22)
    (lately 1 98 (pen 2 7 (flash (those 1 1 3))))

abbrev pub colour_cards : List Card
colour_cards = fresh ∷ each_ink ∷ each_ground_in_g0 ∷ each_ground_in_g1 ∷ no_taker ∷ []

abbrev pub attribute_cards : List Card
attribute_cards =
    flash_and_inverse ∷ upright_in_g1 ∷ sets_alone ∷ cursor_shown ∷ cursor_hidden ∷ moves_alone ∷ moves_in_g1 ∷ other_pairs
    ∷ other_c0 ∷ []
