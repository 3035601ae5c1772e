-- A step with the pen carried beside the cells. Assumes nothing.
use mathlib.Core.Path.{◌≡◌, refl, sym, ap, ◌∙◌}
use mathlib.Core.Bool.{true, false}
use Prim.Native.Nat.{ℕ, zero, suc, ◌≤◌}
use native.Mathlib.Omega.{arith}
use lib.ListN.{set}
use Rattle.screen_sequences.specs.Sequences.{is_free}
use Rattle.screen_cells.specs.declared.Character.{Character}
use Rattle.screen_cells.specs.Characters.{character}
use Rattle.screen_pen.specs.declared.Pen.{Pen}
use Rattle.screen_pen.specs.declared.Stroke.{Stroke}
use Rattle.screen_planning.specs.declared.Asked.{Asked}
use Rattle.screen_planning.specs.declared.Asked.TheVariants.{Nothing, Blank, Put}
use Rattle.screen_planning.specs.declared.Planned.{Planned}
use Rattle.screen_planning.specs.Obeying.{puts}
use Rattle.screen_planning.specs.Planning.{planned}
use Rattle.screen_planning.proofs.Plans.{plan_text}
use Rattle.screen_page.specs.declared.Screen.{Screen}
use Rattle.screen_page.specs.Pages.{with_pen}
use Rattle.screen.specs.Others.{is_other}
use Rattle.screen.specs.Screens.{written, written_times, applied, advanced}

-- the pen that the screen had does not matter
pub applied_any : (s : Screen) (p q : Pen) (o : Asked) → applied (with_pen s p) q o ≡ applied s q o
unfolding applied
applied_any s p q Nothing = refl
applied_any s p q Blank = refl
applied_any s p q (Put c n) = refl

-- a plan that is the one for the value
pub planned_step : (s : Screen) (p : Pen) (b : ℕ) (a : Planned) → a ≡ planned p b
    → applied s a.pen a.asked ≡ advanced (with_pen s p) b
unfolding advanced
planned_step s p b a e =
    ap (λ (x : Planned). applied s x.pen x.asked) e
    ∙ sym (applied_any s p (planned p b).pen (planned p b).asked)

-- a character with nothing unfinished is written as it is planned
pub plain : (p : Pen) (b : ℕ) → is_other p b ≡ false → puts p (character p.here.attributes.set b) 1 ≡ planned p b
unfolding is_other
plain p b e =
    let f : is_free p.sequence ≡ true = grind arith in
    let g : 32 ≤ b = grind arith in
    sym (plan_text p b f g)

-- once, and then n times, is n times and once more
pub once_first : (s : Screen) (c : Character) (n : ℕ) → written_times (written s c) c n ≡ written_times s c (suc n)
unfolding written_times
once_first s c zero = refl
once_first s c (suc n) = ap (λ (t : Screen). written t c) (once_first s c n)

-- a screen with what a stroke leaves
abbrev pub laid : Screen → ℕ → Stroke → Screen
laid s i k = record { cells = set s.cells i k.cell; pen = k.pen }
