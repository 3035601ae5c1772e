-- A character written, REP, SS2, and C0 codes within a sequence. Assumes nothing.
use mathlib.Core.Path.{◌≡◌, refl, sym, ap, ◌∙◌}
use Prim.Native.Nat.{ℕ, ◌-◌, ◌/◌, ◌≤◌, ◌<◌}
use Rattle.std.specs.Prelude.{Option, Some, None}
use Rattle.screen_sequences.specs.declared.Sequence.{Sequence}
use Rattle.screen_sequences.specs.declared.Sequence.TheVariants.{Free, Separator, Repeat, Single}
use Rattle.screen_sequences.specs.declared.Order.TheVariants.{Skip, Second, Again}
use Rattle.screen_sequences.specs.Sequences.{is_free, does, control, heard}
use Rattle.screen_sequences.proofs.Codes.{heard_control, heard_dropped, heard_repeat, heard_low}
use Rattle.screen_sequences.proofs.Codes.{heard_second, heard_swallowed}
use Rattle.screen_cells.specs.declared.Character.{Character}
use Rattle.screen_cells.specs.Characters.{character}
use Rattle.screen_planning.specs.declared.Planned.{Planned}
use Rattle.screen_planning.specs.Changing.{with_sequence}
use Rattle.screen_planning.specs.Obeying.{again, obeyed}
use Rattle.screen_planning.specs.Planning.{planned}
use Rattle.screen_planning.proofs.Plans.{planned_by, plan_heard, plan_text}
use Rattle.screen_page.specs.declared.Screen.{Screen}
use Rattle.screen.specs.Screens.{written, written_times, applied, advanced}
use Rattle.screen.specs.Claims.{ended}
use Rattle.screen.proofs.Beside.{applied_any}

-- what a plan does to the screen
abbrev pub done_by : Screen → Planned → Screen
done_by s a = applied s a.pen a.asked

-- a step whose plan is known
pub step_plan : (s : Screen) (b : ℕ) (a : Planned) → planned s.pen b ≡ a → advanced s b ≡ done_by s a
unfolding advanced
step_plan s b a e = ap (done_by s) e

-- NUL changes nothing
pub nul_step : (s : Screen) → advanced s 0 ≡ s
unfolding advanced applied obeyed
nul_step s = refl

-- with nothing unfinished a code from 2/0 is one character of the current set
pub text_step : (s : Screen) (b : ℕ) → s.pen.sequence ≡ Free → 32 ≤ b
    → advanced s b ≡ written s (character s.pen.here.attributes.set b)
unfolding applied written_times
text_step s b e h = step_plan s b _ (plan_text s.pen b (ap is_free e) h)

-- ---- REP

-- n from 4/0: the last character, n minus 64 times
pub again_step : (s : Screen) (c : Character) (n : ℕ) → s.pen.sequence ≡ Repeat → s.pen.last ≡ Some c → 64 ≤ n
    → advanced s n ≡ written_times (ended s) c (n - 64)
unfolding obeyed applied
again_step s c n e l h =
    step_plan s n _
    (plan_heard s.pen n (does (Again (n - 64)))
    (ap (λ (q : Sequence). heard q n) e ∙ heard_repeat n h)
    ∙ ap (λ (x : Option Character). again (with_sequence s.pen Free) x (n - 64)) l)

-- n from 2/0 to 3/F, or no last character: the sequence ends
pub low_step : (s : Screen) (n : ℕ) → s.pen.sequence ≡ Repeat → 32 ≤ n → n < 64 → advanced s n ≡ ended s
unfolding obeyed applied
low_step s n e h k =
    step_plan s n _
    (plan_heard s.pen n (does Skip)
    (ap (λ (q : Sequence). heard q n) e ∙ heard_low n h k))

pub never_step : (s : Screen) (n : ℕ) → s.pen.sequence ≡ Repeat → s.pen.last ≡ None → 64 ≤ n
    → advanced s n ≡ ended s
unfolding obeyed applied
never_step s n e l h =
    step_plan s n _
    (plan_heard s.pen n (does (Again (n - 64)))
    (ap (λ (q : Sequence). heard q n) e ∙ heard_repeat n h)
    ∙ ap (λ (x : Option Character). again (with_sequence s.pen Free) x (n - 64)) l)

-- ---- SS2

-- one character of G2, and none for a code of column 4
pub second_step : (s : Screen) (b : ℕ) → s.pen.sequence ≡ Single → 32 ≤ b → (b / 16 ≡ 4 → ⊥)
    → advanced s b ≡ written (ended s) (character 2 b)
unfolding obeyed applied written_times
second_step s b e h f =
    step_plan s b _
    (plan_heard s.pen b (does (Second b)) (ap (λ (q : Sequence). heard q b) e ∙ heard_second b h f))

pub swallowed_step : (s : Screen) (b : ℕ) → s.pen.sequence ≡ Single → 32 ≤ b → b / 16 ≡ 4 → advanced s b ≡ ended s
unfolding obeyed applied
swallowed_step s b e h f =
    step_plan s b _
    (plan_heard s.pen b (does Skip) (ap (λ (q : Sequence). heard q b) e ∙ heard_swallowed b h f))

-- ---- a C0 code within a sequence

free_open : Free ≡ Separator → ⊥
free_open e = cc

-- it acts as with nothing unfinished
pub control_step : (s : Screen) (b : ℕ) → (s.pen.sequence ≡ Separator → ⊥) → 1 ≤ b → b ≤ 31
    → advanced s b ≡ advanced (ended s) b
control_step s b e l h =
    let a = planned_by s.pen (control b) in
    step_plan s b a (plan_heard s.pen b (control b) (heard_control s.pen.sequence b e l h))
    ∙ sym (applied_any s (ended s).pen a.pen a.asked)
    ∙ sym (step_plan (ended s) b a (plan_heard (ended s).pen b (control b) (heard_control Free b free_open l h)))

-- after SEP any code but NUL is dropped
pub dropped_step : (s : Screen) (b : ℕ) → s.pen.sequence ≡ Separator → 1 ≤ b → advanced s b ≡ ended s
unfolding obeyed applied
dropped_step s b e l =
    step_plan s b _
    (plan_heard s.pen b (does Skip) (ap (λ (q : Sequence). heard q b) e ∙ heard_dropped b l))
