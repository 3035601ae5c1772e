-- `screen::drawing::advance` meets its contract: each turn is one step, with the pen carried beside the cells, and each
-- turn within it one character more. Assumes nothing.
use mathlib.Core.Path.{◌≡◌}
use lib.ListN.{take}
use Rattle.screen_cursor.specs.Places.{On}
use Rattle.screen_page.specs.Pages.{with_pen}
use Rattle.screen_page.specs.Ranges.{InScreen}
use Rattle.screen.specs.Screens.{written_times, advanced_by}
use Rattle.screen.proofs.drawing.advance.Given as goal

abbrev pub invariant-loop-value : goal.invariant-loop-value
invariant-loop-value l = InScreen (with_pen l.screen l.pen)
    × (with_pen l.screen l.pen ≡ advanced_by l.fn.start (take l.value-index l.values))

abbrev pub invariant-loop : goal.invariant-loop
invariant-loop l = On l.pen.here.place
    × (with_pen l.screen l.pen ≡ written_times (with_pen l.initial.screen l.initial.pen) l.character l.counter)
