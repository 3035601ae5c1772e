-- What reading a screen gives, for any state (01, "Numbers given"). Assumes nothing.
use Rattle.std.specs.Prelude.{Result, Ok, Err, Option, Some, None, cond, List, [], ◌∷◌, ℕ}
use Rattle.screen_cursor.specs.declared.Place.{Place}
use Rattle.screen_cursor.specs.Places.{at, on_screen}
use Rattle.screen_cells.specs.declared.Cell.{Cell}
use Rattle.screen_page.specs.declared.Screen.{Screen}
use Rattle.screen_page.specs.declared.Cursor.{Cursor}
use Rattle.screen_page.specs.declared.Cursor.TheVariants.{Hidden, Shown}
use Rattle.screen_page.specs.declared.Broken.{Broken}
use Rattle.screen_page.specs.Pages.{cell_at}
use Rattle.screen_page.specs.Ranges.{broken}

-- the cell that is seen at a place: the one that is stored there
abbrev pub seen_at : Screen → Place → Cell
seen_at s x = cell_at s x

abbrev pub torn : Broken
torn = record {}

-- there is no cell at a place off the screen
unfoldable pub read : Screen → ℕ → ℕ → Result (Option Cell) Broken
read s r c = cond (broken s) (Err torn) (Ok (cond (on_screen (at r c)) (Some (seen_at s (at r c))) None))

unfoldable pub pointed : Screen → Result Cursor Broken
pointed s = cond (broken s) (Err torn) (Ok (cond s.pen.shown (Shown s.pen.here.place) (Hidden s.pen.here.place)))

-- the paper's number of what is read: 0 where it is not 5, off the screen too
abbrev pub read_number : Result (Option Cell) Broken → List ℕ
read_number (Err e) = 5 ∷ []
read_number (Ok c) = 0 ∷ []

abbrev pub cursor_number : Result Cursor Broken → List ℕ
cursor_number (Err e) = 5 ∷ []
cursor_number (Ok c) = 0 ∷ []
