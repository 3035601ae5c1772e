-- The cursor's place (01, "Screen cells"). Assumes nothing.
use Rattle.std.specs.Prelude.{Bool, ◌&&◌, ℕ, ◌+◌, ◌-◌, ◌*◌, ◌≤◌, leb}
use Rattle.screen_cursor.specs.declared.Place.{Place}

abbrev pub at : ℕ → ℕ → Place
at r c = record { row = r; column = c }

-- "The cursor starts at row 1, column 1"
abbrev pub home : Place
home = at 1 1

-- ---- on the screen

-- "Rows 0 to 24, columns 1 to 40"
pub record On (p : Place) : Type 0 where
  pub row : p.row ≤ 24
  pub low : 1 ≤ p.column
  pub high : p.column ≤ 40

-- the test of it
abbrev pub on_screen : Place → Bool
on_screen p = leb p.row 24 && (leb 1 p.column && leb p.column 40)

-- "Rows 0 to 24, columns 1 to 40": where a place's cell lies, row by row
abbrev pub index_of : Place → ℕ
index_of x = x.row * 40 + x.column - 1
