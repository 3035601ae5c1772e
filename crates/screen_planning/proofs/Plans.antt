-- A plan for a pen in range, and for a character. Assumes nothing.
use mathlib.Core.Path.{◌≡◌, sym, ap, ◌∙◌}
use mathlib.Core.Bool.{true}
use Prim.Native.Nat.{ℕ, ◌≤◌, ◌<◌}
use borrow.Author.Tests.{le-ltb}
use Rattle.screen_sequences.specs.declared.Sequence.{Sequence}
use Rattle.screen_sequences.specs.declared.Sequence.TheVariants.{Free}
use Rattle.screen_sequences.specs.declared.Order.TheVariants.{Write}
use Rattle.screen_sequences.specs.declared.Heard.{Heard}
use Rattle.screen_sequences.specs.Sequences.{is_free, does, heard}
use Rattle.screen_sequences.proofs.Codes.{free, heard_text}
use Rattle.screen_cells.specs.Characters.{character}
use Rattle.screen_pen.specs.declared.Pen.{Pen}
use Rattle.screen_pen.specs.Pens.{in_range}
use Rattle.screen_planning.specs.declared.Planned.{Planned}
use Rattle.screen_planning.specs.Changing.{with_sequence}
use Rattle.screen_planning.specs.Obeying.{puts, obeyed}
use Rattle.screen_planning.specs.Planning.{planned, plan}

-- a value of 0 to 127 for a pen in range is planned
pub plan_tested : (p : Pen) (b : ℕ) → in_range p ≡ true → b ≤ 127 → plan p b ≡ planned p b
plan_tested p b e h = simp (le-ltb 127 b h, e)

-- the plan for what is heard
abbrev pub planned_by : Pen → Heard → Planned
planned_by p h = obeyed (with_sequence p h.sequence) h.order

pub plan_heard : (p : Pen) (b : ℕ) (h : Heard) → heard p.sequence b ≡ h → planned p b ≡ planned_by p h
plan_heard p b h e = ap (planned_by p) e

-- with nothing unfinished, a code from 2/0 is written in the current set, and the pen stays
pub plan_text : (p : Pen) (b : ℕ) → is_free p.sequence ≡ true → 31 < b → planned p b ≡ puts p (character p.here.attributes.set b) 1
unfolding obeyed
plan_text p b e h =
    let f : p.sequence ≡ Free = free p.sequence e in
    plan_heard p b (does (Write b)) (ap (λ (q : Sequence). heard q b) f ∙ heard_text b h)
    ∙ ap (λ (q : Sequence). puts (with_sequence p q) (character p.here.attributes.set b) 1) (sym f)
