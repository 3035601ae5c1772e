-- Our own cards of the screen (01, "Screen cells"): REP, SS2, what is dropped, and sequences cut short or left open.
-- Letters are a (97) to h (104). Assumes nothing.
use Rattle.std.specs.Prelude.{List, [], ◌∷◌, ◌++◌, ℕ, replicate}
use Rattle.screen_sequences.specs.declared.Sequence.{Sequence}
use Rattle.screen_sequences.specs.declared.Sequence.TheVariants.{Escape, Long, Control, Separator, Repeat}
use Rattle.screen_sequences.specs.declared.Sequence.TheVariants.{Single, Address, Row}
use Rattle.cards.specs.Drawn.{nul, bs, ht, lf, vt, ff, cr, so, si, con, rep, sep, ss2, esc, us}
use Rattle.cards.specs.Drawn.{cell, flashing, inverted, plain, blanks, rows}
use Rattle.cards.specs.Drawn.{those, start, awaiting, flash, inverse}
use Rattle.cards.specs.Drawn.{pen, keeping, lately, unfinished, visible}
use Rattle.cards.specs.Cards.{Card, shown}

-- ---- REP

-- "the last character written, its set and code, is written n minus 64 times more, with the other attributes of the
-- moment": G0 in G1, G1 in G0 with inverse, G2
abbrev pub again : Card
again =
    shown
    (esc ∷ 65 ∷ 97 ∷ esc ∷ 66 ∷ esc ∷ 72 ∷ esc ∷ 93 ∷ rep ∷ 66 ∷ so ∷ rep ∷ 65 ∷ 98 ∷ si ∷ esc ∷ 93 ∷ rep ∷ 65
    ∷ ss2 ∷ 33 ∷ rep ∷ 65 ∷ [])
    (rows 1 ++ cell 0 97 1 0 ∷ flashing (inverted (cell 0 97 2 0)) ∷ flashing (inverted (cell 0 97 2 0))
    ∷ flashing (cell 0 97 2 0) ∷ flashing (cell 1 98 2 0) ∷ flashing (inverted (cell 1 98 2 0))
    ∷ flashing (inverted (cell 2 33 2 0)) ∷ flashing (inverted (cell 2 33 2 0)) ∷ [] ++ blanks 32 ++ rows 23)
    (lately 2 33 (pen 1 9 (flash (inverse (those 0 2 0)))))

-- it takes a waiting ground where the character does, but not where n is 4/0; "Other n from 2/0: dropped"
abbrev pub again_on_ground : Card
again_on_ground =
    shown
    (32 ∷ esc ∷ 83 ∷ rep ∷ 64 ∷ 97 ∷ rep ∷ 65 ∷ 32 ∷ esc ∷ 84 ∷ rep ∷ 66 ∷ esc ∷ 85 ∷ rep ∷ 63 ∷ rep ∷ 32 ∷ rep ∷ 64
    ∷ [])
    (rows 1 ++ plain 32 ∷ plain 97 ∷ plain 97 ∷ cell 0 32 7 3 ∷ cell 0 32 7 4 ∷ cell 0 32 7 4 ∷ []
    ++ blanks 34 ++ rows 23)
    (lately 0 32 (pen 1 7 (awaiting 5 (those 0 7 4))))

-- "Only a fresh screen has no last character; then nothing happens"
abbrev pub again_of_none : Card
again_of_none = shown (rep ∷ 127 ∷ con ∷ []) (rows 25) (visible (pen 1 1 start))

-- n of 7/F: sixty-three more, over the row's end
abbrev pub again_over_the_edge : Card
again_over_the_edge =
    shown
    (97 ∷ rep ∷ 127 ∷ [])
    (rows 1 ++ replicate 64 (plain 97) ++ blanks 16 ++ rows 22)
    (lately 0 97 (pen 2 25 start))

-- from row 24, column 40 to row 1; and in row 0, column 40 one over the other
abbrev pub again_in_the_corners : Card
again_in_the_corners =
    shown
    (us ∷ 88 ∷ 104 ∷ 97 ∷ rep ∷ 65 ∷ us ∷ 64 ∷ 103 ∷ 98 ∷ rep ∷ 67 ∷ [])
    (blanks 38 ++ plain 98 ∷ plain 98 ∷ []
    ++ plain 97 ∷ [] ++ blanks 39
    ++ rows 22
    ++ blanks 39 ++ plain 97 ∷ [])
    (keeping 1 2 start (lately 0 98 (pen 0 40 start)))

-- ---- SS2

-- "SS2 and a code from 2/0: a G2 cell; a code of column 4 is swallowed", and is no last character
abbrev pub second : Card
second =
    shown
    (97 ∷ ss2 ∷ 64 ∷ ss2 ∷ 79 ∷ rep ∷ 65 ∷ ss2 ∷ 32 ∷ ss2 ∷ 63 ∷ ss2 ∷ 80 ∷ ss2 ∷ 127 ∷ 98 ∷ [])
    (rows 1 ++ plain 97 ∷ plain 97 ∷ cell 2 32 7 0 ∷ cell 2 63 7 0 ∷ cell 2 80 7 0 ∷ cell 2 127 7 0 ∷ plain 98 ∷ []
    ++ blanks 33 ++ rows 23)
    (lately 0 98 (pen 1 8 start))

-- also while G1 is current
abbrev pub second_in_g1 : Card
second_in_g1 =
    shown
    (so ∷ ss2 ∷ 33 ∷ 97 ∷ ss2 ∷ 72 ∷ 98 ∷ [])
    (rows 1 ++ cell 2 33 7 0 ∷ cell 1 97 7 0 ∷ cell 1 98 7 0 ∷ [] ++ blanks 37 ++ rows 23)
    (lately 1 98 (pen 1 4 (those 1 7 0)))

-- ---- what is dropped

-- "ESC and column 2: dropped up to a code of 3/0 to 7/E"; column 2 and 7/F do not end it, and 4/1 sets no ink
abbrev pub esc_column2 : Card
esc_column2 =
    shown
    (esc ∷ 32 ∷ 47 ∷ 127 ∷ 48 ∷ 97 ∷ esc ∷ 47 ∷ 126 ∷ 98 ∷ esc ∷ 40 ∷ 65 ∷ 99 ∷ esc ∷ 37 ∷ 64 ∷ 100 ∷ [])
    (rows 1 ++ plain 97 ∷ plain 98 ∷ plain 99 ∷ plain 100 ∷ [] ++ blanks 36 ++ rows 23)
    (lately 0 100 (pen 1 5 start))

-- "ESC 5/B: dropped up to a code of 4/0 to 7/E"; columns 2 and 3 and 7/F do not end it
abbrev pub esc5_b : Card
esc5_b =
    shown
    (esc ∷ 91 ∷ 32 ∷ 63 ∷ 127 ∷ 64 ∷ 97 ∷ esc ∷ 91 ∷ 126 ∷ 98 ∷ esc ∷ 91 ∷ 65 ∷ 99 ∷ esc ∷ 91 ∷ 91 ∷ 100 ∷ [])
    (rows 1 ++ plain 97 ∷ plain 98 ∷ plain 99 ∷ plain 100 ∷ [] ++ blanks 36 ++ rows 23)
    (lately 0 100 (pen 1 5 start))

-- "SEP drops one code": b, FF, ESC, US, SEP, REP, SS2, BS, SO, CON and BEL
abbrev pub separated : Card
separated =
    shown
    (97 ∷ sep ∷ 98 ∷ sep ∷ ff ∷ sep ∷ esc ∷ 99 ∷ sep ∷ us ∷ sep ∷ sep ∷ 100 ∷ sep ∷ rep ∷ 101 ∷ sep ∷ ss2 ∷ 102
    ∷ sep ∷ bs ∷ 103 ∷ sep ∷ so ∷ sep ∷ con ∷ sep ∷ 7 ∷ 104 ∷ [])
    (rows 1 ++ plain 97 ∷ plain 99 ∷ plain 100 ∷ plain 101 ∷ plain 102 ∷ plain 103 ∷ plain 104 ∷ []
    ++ blanks 33 ++ rows 23)
    (lately 0 104 (pen 1 8 start))

-- ---- C0 codes inside sequences

-- "NUL is skipped everywhere": in ESC 4/1, ESC 2/8 3/0, ESC 5/B 4/0, REP 4/2, SS2 2/1, SEP e and US 4/2 4/3
abbrev pub skipped : Card
skipped =
    shown
    (nul ∷ 97 ∷ nul ∷ esc ∷ nul ∷ 65 ∷ 98 ∷ esc ∷ nul ∷ 40 ∷ nul ∷ 48 ∷ 99 ∷ esc ∷ 91 ∷ nul ∷ nul ∷ 64 ∷ 100
    ∷ rep ∷ nul ∷ 66 ∷ ss2 ∷ nul ∷ 33 ∷ sep ∷ nul ∷ 101 ∷ 102 ∷ us ∷ nul ∷ 66 ∷ nul ∷ nul ∷ 67 ∷ 103 ∷ nul ∷ [])
    (rows 1
    ++ plain 97 ∷ cell 0 98 1 0 ∷ cell 0 99 1 0 ∷ cell 0 100 1 0 ∷ cell 0 100 1 0 ∷ cell 0 100 1 0 ∷ cell 2 33 1 0
    ∷ cell 0 102 1 0 ∷ [] ++ blanks 32
    ++ blanks 2 ++ plain 103 ∷ [] ++ blanks 37
    ++ rows 22)
    (lately 0 103 (pen 2 4 start))

-- "Any other C0 code inside a sequence ends it and is obeyed": CON, HT, LF, CR, HT, VT, HT and BEL with a letter behind
-- each; then ESC, REP, SS2 and US, with their own codes
abbrev pub cut_short : Card
cut_short =
    shown
    (esc ∷ con ∷ 97 ∷ esc ∷ 40 ∷ ht ∷ 98 ∷ esc ∷ 91 ∷ lf ∷ 99 ∷ rep ∷ cr ∷ 100 ∷ ss2 ∷ ht ∷ 101 ∷ us ∷ vt ∷ 102
    ∷ us ∷ 66 ∷ ht ∷ 103 ∷ esc ∷ 7 ∷ 65 ∷ esc ∷ esc ∷ 66 ∷ 104 ∷ us ∷ rep ∷ 65 ∷ rep ∷ ss2 ∷ 33
    ∷ ss2 ∷ us ∷ 67 ∷ 69 ∷ 97 ∷ [])
    (rows 1
    ++ plain 97 ∷ [] ++ blanks 1 ++ plain 98 ∷ plain 102 ∷ [] ++ blanks 1 ++ plain 103 ∷ plain 65 ∷ cell 0 104 2 0
    ∷ cell 0 104 2 0 ∷ cell 2 33 2 0 ∷ [] ++ blanks 30
    ++ plain 100 ∷ [] ++ blanks 1 ++ plain 101 ∷ plain 99 ∷ [] ++ blanks 36
    ++ blanks 4 ++ plain 97 ∷ [] ++ blanks 35
    ++ rows 21)
    (visible (lately 0 97 (pen 3 6 start)))

-- ---- sequences left open: an a, these codes, and nothing else

abbrev pub left_open : List ℕ → Sequence → Card
left_open vs q =
    shown (97 ∷ vs) (rows 1 ++ plain 97 ∷ [] ++ blanks 39 ++ rows 23) (unfinished q (lately 0 97 (pen 1 2 start)))

abbrev pub open_cards : List Card
open_cards =
    left_open (esc ∷ []) Escape
    ∷ left_open (esc ∷ 40 ∷ 47 ∷ 127 ∷ []) Long
    ∷ left_open (esc ∷ 91 ∷ 63 ∷ 127 ∷ []) Control
    ∷ left_open (sep ∷ []) Separator
    ∷ left_open (rep ∷ []) Repeat
    ∷ left_open (ss2 ∷ []) Single
    ∷ left_open (us ∷ []) Address
    ∷ left_open (us ∷ 69 ∷ nul ∷ []) (Row 69)
    ∷ []

abbrev pub repeat_cards : List Card
repeat_cards = again ∷ again_on_ground ∷ again_of_none ∷ again_over_the_edge ∷ again_in_the_corners ∷ []

abbrev pub sequence_cards : List Card
sequence_cards = second ∷ second_in_g1 ∷ esc_column2 ∷ esc5_b ∷ separated ∷ skipped ∷ cut_short ∷ []
