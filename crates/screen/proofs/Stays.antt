-- Every step leaves a screen in range. Assumes nothing.
use mathlib.Core.Path.{◌∙◌}
use Prim.Native.Nat.{ℕ, zero, suc, ◌≤◌}
use lib.ListN.{length-set, length-append, length-take, length-replicate}
use Rattle.screen_cursor.specs.Places.{index_of}
use Rattle.screen_cells.specs.declared.Character.{Character}
use Rattle.screen_cells.specs.Characters.{InCharacter}
use Rattle.screen_sheet.specs.Clearing.{cleared}
use Rattle.screen_sheet.proofs.Stays.{all_set, cleared_in}
use Rattle.screen_pen.specs.declared.Pen.{Pen}
use Rattle.screen_pen.specs.Pens.{InPen}
use Rattle.screen_pen.proofs.Stays.{after_in, stroke_cell}
use Rattle.screen_planning.specs.declared.Asked.{Asked}
use Rattle.screen_planning.specs.declared.Asked.TheVariants.{Nothing, Blank, Put}
use Rattle.screen_planning.specs.Planning.{planned}
use Rattle.screen_planning.proofs.Stays.{InAsked, planned_in}
use Rattle.screen_page.specs.declared.Screen.{Screen}
use Rattle.screen_page.specs.Ranges.{InScreen}
use Rattle.screen.specs.Screens.{written, written_times, applied, advanced}

pub written_in : {s : Screen} (c : Character) → InCharacter c → InScreen s → InScreen (written s c)
unfolding written
written_in {s} c k h =
    record {
      pen = after_in c k h.pen;
      cells = all_set (index_of s.pen.here.place) (stroke_cell c k h.pen) h.cells;
      thousand = length-set s.cells (index_of s.pen.here.place) _ ∙ h.thousand;
    }

times_in : {s : Screen} (c : Character) (n : ℕ) → InCharacter c → InScreen s → InScreen (written_times s c n)
unfolding written_times
times_in c zero k h = h
times_in c (suc n) k h = written_in c k (times_in c n k h)

pub applied_in : {s : Screen} {p : Pen} (o : Asked) → InAsked o → InPen p → InScreen s → InScreen (applied s p o)
unfolding applied cleared
applied_in Nothing k j h = record { pen = j; cells = h.cells; thousand = h.thousand }
applied_in {s} Blank k j h =
    record {
      pen = j;
      cells = cleared_in h.cells;
      thousand = simp (length-append, length-take, length-replicate, h.thousand);
    }
applied_in (Put c n) k j h = times_in c n k (record { pen = j; cells = h.cells; thousand = h.thousand })

-- every step leaves a screen in range
pub advanced_in : {s : Screen} (b : ℕ) → b ≤ 127 → InScreen s → InScreen (advanced s b)
unfolding advanced
advanced_in {s} b t h =
    let f = planned_in b t h.pen in applied_in (planned s.pen b).asked f.asked f.pen h
