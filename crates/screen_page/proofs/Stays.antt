-- What the range test of a screen says; a fresh screen is in range. Assumes nothing.
use mathlib.Core.Path.{◌≡◌, ap}
use mathlib.Core.Bool.{true, false, not}
use mathlib.Core.List.{[], ◌∷◌}
use lib.ListN.{length, length-replicate}
use Rattle.std.proofs.lemmas.Bool.{not-false}
use Rattle.laws.proofs.Computed.{each}
use Rattle.screen_cells.specs.Cells.{blank_of}
use Rattle.screen_sheet.specs.Within.{all_good}
use Rattle.screen_sheet.proofs.Stays.{all_true, true_all, blanks_in}
use Rattle.screen_pen.specs.Pens.{in_range as pen_in_range, InPen}
use Rattle.screen_pen.proofs.Stays.{pen_true, true_pen, fresh_in}
use Rattle.screen_page.specs.declared.Screen.{Screen}
use Rattle.screen_page.specs.Pages.{fresh_screen}
use Rattle.screen_page.specs.Ranges.{in_range, broken, InScreen}

pub screen_true : {s : Screen} → InScreen s → in_range s ≡ true
unfolding in_range
screen_true {s} h = simp (pen_true s.pen h.pen, all_true h.cells)

pub true_screen : (s : Screen) → length s.cells ≡ 1000 → in_range s ≡ true → InScreen s
unfolding in_range
true_screen s n e =
    let t = each (pen_in_range s.pen ∷ all_good s.cells ∷ []) e in
    record { pen = true_pen s.pen t.0; cells = true_all s.cells t.1; thousand = n }

-- broken is what is not in range
pub whole : (s : Screen) → broken s ≡ false → in_range s ≡ true
unfolding broken
whole s e = not-false _ e

pub unbroken : {s : Screen} → InScreen s → broken s ≡ false
unfolding broken
unbroken {s} h = ap not (screen_true h)

-- the pen alone
pub true_pen_in : (s : Screen) → in_range s ≡ true → InPen s.pen
unfolding in_range
true_pen_in s e = true_pen s.pen (each (pen_in_range s.pen ∷ all_good s.cells ∷ []) e).0

pub fresh_in_range : InScreen fresh_screen
unfolding fresh_screen
fresh_in_range = record { pen = fresh_in; cells = blanks_in 1000; thousand = length-replicate 1000 blank_of }
