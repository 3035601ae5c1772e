-- A screen: fresh, its cells by their places (01, "Screen cells"). Assumes nothing.
use Rattle.std.specs.Prelude.{get_or, replicate}
use Rattle.screen_cursor.specs.declared.Place.{Place}
use Rattle.screen_cursor.specs.Places.{index_of}
use Rattle.screen_cells.specs.declared.Cell.{Cell}
use Rattle.screen_cells.specs.Cells.{blank_of}
use Rattle.screen_pen.specs.declared.Pen.{Pen}
use Rattle.screen_pen.specs.Pens.{fresh_pen}
use Rattle.screen_page.specs.declared.Screen.{Screen}

-- "a fresh screen is 1,000 equal cells"
unfoldable pub fresh_screen : Screen
fresh_screen = record { cells = replicate 1000 blank_of; pen = fresh_pen }

-- the cell that is stored at a place
abbrev pub cell_at : Screen → Place → Cell
cell_at s x = get_or s.cells (index_of x) blank_of

abbrev pub with_pen : Screen → Pen → Screen
with_pen s p = record { cells = s.cells; pen = p }
