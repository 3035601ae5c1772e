-- What one value does to a screen in range (01, "Screen cells"). Assumes nothing.
use Rattle.std.specs.Prelude.{List, [], ◌∷◌, ℕ, zero, suc, set}
use Rattle.screen_cursor.specs.Places.{index_of}
use Rattle.screen_cells.specs.declared.Character.{Character}
use Rattle.screen_sheet.specs.Clearing.{cleared}
use Rattle.screen_pen.specs.declared.Pen.{Pen}
use Rattle.screen_pen.specs.Strokes.{stroke}
use Rattle.screen_planning.specs.declared.Asked.{Asked}
use Rattle.screen_planning.specs.declared.Asked.TheVariants.{Nothing, Blank, Put}
use Rattle.screen_planning.specs.Planning.{planned}
use Rattle.screen_page.specs.declared.Screen.{Screen}
use Rattle.screen_page.specs.Pages.{with_pen}

-- "FF: rows 1 to 24 blank, row 0 kept"
abbrev pub blanked : Screen → Pen → Screen
blanked s p = record { cells = cleared s.cells; pen = p }

-- a character is written at the cursor
unfoldable pub written : Screen → Character → Screen
written s c =
    record {
      cells = set s.cells (index_of s.pen.here.place) (stroke s.pen c).cell;
      pen = (stroke s.pen c).pen;
    }

-- and n times, one after the other
unfoldable pub written_times : Screen → Character → ℕ → Screen
written_times s c zero = s
written_times s c (suc n) = written (written_times s c n) c

-- what the pen asks is done
unfoldable pub applied : Screen → Pen → Asked → Screen
applied s p Nothing = with_pen s p
applied s p Blank = blanked s p
applied s p (Put c n) = written_times (with_pen s p) c n

-- one value of 0 to 127
unfoldable pub advanced : Screen → ℕ → Screen
advanced s b = applied s (planned s.pen b).pen (planned s.pen b).asked

-- values, one after the other
unfoldable pub advanced_by : Screen → List ℕ → Screen
advanced_by s [] = s
advanced_by s (b ∷ bs) = advanced_by (advanced s b) bs
