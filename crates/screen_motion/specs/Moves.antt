-- The cursor's moves by one in page mode (01, "Screen cells"). Assumes nothing.
use Rattle.std.specs.Prelude.{cond, ℕ, ◌+◌, ◌-◌, ltb, eqb}
use Rattle.screen_cursor.specs.declared.Place.{Place}
use Rattle.screen_cursor.specs.Places.{at}

-- "row 24 joins row 1"
abbrev pub row_below : ℕ → ℕ
row_below r = cond (ltb r 24) (r + 1) 1

abbrev pub row_above : ℕ → ℕ
row_above r = cond (ltb 1 r) (r - 1) 24

-- BS: "left of column 1 is column 40 of the row above"; "Row 0: BS at column 1 .. do nothing"
abbrev pub left_of : Place → Place
left_of p =
    cond (ltb 1 p.column) (at p.row (p.column - 1)) (cond (eqb p.row 0) p (at (row_above p.row) 40))

-- HT: "right of column 40 is column 1 of the row below"; "Row 0: .. HT at column 40 .. do nothing; a character in
-- column 40 leaves the cursor there"
abbrev pub right_of : Place → Place
right_of p =
    cond (ltb p.column 40) (at p.row (p.column + 1)) (cond (eqb p.row 0) p (at (row_below p.row) 1))

-- VT: "Row 0: .. VT do nothing"
abbrev pub up_of : Place → Place
up_of p = cond (ltb 0 p.row) (at (row_above p.row) p.column) p

-- LF outside row 0
abbrev pub down_of : Place → Place
down_of p = at (row_below p.row) p.column

-- "CR: column 1"
abbrev pub first_of : Place → Place
first_of p = at p.row 1
