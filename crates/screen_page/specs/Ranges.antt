-- Which screens are in range (01, "Screen cells"). Assumes nothing.
use Rattle.std.specs.Prelude.{◌≡◌, Bool, ◌&&◌, not, length}
use Rattle.screen_sheet.specs.Within.{all_good, AllIn}
use Rattle.screen_pen.specs.Pens.{in_range as pen_in_range, InPen}
use Rattle.screen_page.specs.declared.Screen.{Screen}

-- the test
unfoldable pub in_range : Screen → Bool
in_range s = pen_in_range s.pen && all_good s.cells

-- "a state handed in lies outside the ranges this page gives"
unfoldable pub broken : Screen → Bool
broken s = not (in_range s)

-- a screen in range, with its thousand cells: the array of every screen has them, a list need not
pub record InScreen (s : Screen) : Type 0 where
  pub pen : InPen s.pen
  pub cells : AllIn s.cells
  pub thousand : length s.cells ≡ 1000
