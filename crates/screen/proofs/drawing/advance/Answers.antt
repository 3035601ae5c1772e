-- `screen::drawing::advance` meets its contract: each turn is one step, with the pen carried beside the cells, and each
-- turn within it one character more. Assumes nothing.
use mathlib.Core.Path.{◌≡◌, refl, sym, ap, ap₂, ◌∙◌, subst⁻¹}
use mathlib.Core.List.{List}
use Prim.Native.Nat.{ℕ, ◌≤◌, ◌<◌}
use native.Mathlib.Omega.{arith}
use native.Mathlib.Numerals.{add-one}
use lib.ListN.{length, get_or}
use lib.Seq.{take_all}
use Rattle.laws.proofs.Lists.{length_mapped}
use Rattle.screen_cursor.specs.Places.{On}
use Rattle.screen_cursor.proofs.Tested.{index_low}
use Rattle.screen_motion.proofs.Stays.{right_on}
use Rattle.screen_cells.specs.declared.Cell.{Cell}
use Rattle.screen_pen.proofs.Stays.{pen_true}
use Rattle.screen_planning.specs.declared.Planned.{Planned}
use Rattle.screen_planning.specs.Obeying.{asks}
use Rattle.screen_planning.specs.Planning.{planned}
use Rattle.screen_planning.proofs.Stays.{planned_in}
use Rattle.screen_planning.proofs.Plans.{plan_tested}
use Rattle.screen_page.specs.declared.Screen.{Screen}
use Rattle.screen_page.specs.Pages.{with_pen}
use Rattle.screen_page.proofs.Stays.{true_screen}
use Rattle.screen.specs.Screens.{written, written_times, applied, advanced, advanced_by}
use Rattle.screen.proofs.Stays.{advanced_in}
use Rattle.screen.proofs.Steps.{by_one}
use Rattle.screen.proofs.Beside.{planned_step, laid, plain}
use Rattle.screen.proofs.drawing.advance.Goals as goal
use Rattle.screen.proofs.drawing.advance.Goals.{then-is_other, else-is_other, Joined-is_other}
use Rattle.screen.proofs.drawing.advance.Goals.{in-Nothing, in-Blank, in-Put+else-loop-test, Joined-asked}

pub loop-value-init : goal.loop-value-init
unfolding advanced_by
loop-value-init c =
    let n : length c.args.start.cells ≡ 1000 = search (length_mapped, c.well_formed.0) in
    (true_screen c.args.start n c.requires.in_range, refl)

small : (b : ℕ) → b < 128 → b ≤ 127
small b h = omega arith

-- whichever way was taken, it is what is planned for the value
known : (c : Joined-is_other)
    → asks c.if-is_other.pen c.if-is_other.asked
    ≡ planned c.loop-value.pen (get_or c.args.values.now c.loop-value.value-index 0)
known c = elim c.if-is_other.branch [
  | then-is_other w ↦
      ap₂ asks w.pen-is w.asked-is ∙ w.plan-planned.ensures
      ∙ plan_tested _ _ (pen_true _ c.loop-value.invariant.0.pen) (small _ (c.requires.values _ c.loop-value-test.true))
  | else-is_other w ↦ ap₂ asks w.pen-is w.asked-is ∙ plain _ _ (sym c.is_other.ensures ∙ w.if-is_other.false)
]

pub loop-init : goal.loop-init
unfolding written_times
loop-init c =
    let at = goal.at.loop-init c in (
      subst⁻¹ (λ (a : Planned). On a.pen.here.place) (known at.Joined-is_other)
          (planned_in _ (small _ (c.requires.values _ c.loop-value-test.true)) c.loop-value.invariant.0.pen).pen.here.place,
      refl,
    )

pub offset_bounds-screen-at : goal.offset_bounds-screen-at
offset_bounds-screen-at c =
    let h : c.index-at.result < 1000 = rw c.index-at.ensures (index_low c.loop.invariant.0) in omega arith

pub bounds-screen-at : goal.bounds-screen-at
bounds-screen-at c = rw c.index-at.ensures (index_low c.loop.invariant.0)

pub loop-preserved : goal.loop-preserved
unfolding written written_times
loop-preserved c =
    let k = c.in-Put.character in (
      rw c.write-stroke.ensures (right_on c.loop.invariant.0),
      ap₂ (laid c.loop.screen) c.index-at.ensures c.write-stroke.ensures
          ∙ ap (λ (x : Screen). written x k) c.loop.invariant.1
          ∙ ap (written_times (with_pen c.loop-value.screen c.if-is_other.pen) k) (sym (add-one c.loop.counter)),
    )

-- what was asked is done
asked : (c : Joined-asked)
    → with_pen c.match-asked.screen c.match-asked.pen ≡ applied c.loop-value.screen c.if-is_other.pen c.if-is_other.asked
unfolding applied
asked c =
    let l = c.loop-value in
    let j = c.if-is_other in
    elim c.match-asked.branch [
      | in-Nothing w ↦ ap₂ with_pen w.screen-is w.pen-is ∙ ap (applied l.screen j.pen) (sym w.in-Nothing.is)
      | in-Blank w ↦
          ap₂ with_pen w.screen-is w.pen-is
          ∙ ap (λ (cs : List Cell). record { cells = cs; pen = j.pen }) w.clear-screen.ensures
          ∙ ap (applied l.screen j.pen) (sym w.in-Blank.is)
      | in-Put+else-loop-test w ↦
          let e : w.loop.counter ≡ w.in-Put.times = omega (arith, w.loop-test.false, w.loop.auto.counter-end) in
          ap₂ with_pen w.screen-is w.pen-is ∙ w.loop.invariant.1
          ∙ ap (written_times (with_pen l.screen j.pen) w.in-Put.character) e
          ∙ ap (applied l.screen j.pen) (sym w.in-Put.is)
    ]

pub loop-value-preserved : goal.loop-value-preserved
loop-value-preserved c =
    let at = goal.at.loop-value-preserved c in
    let l = c.loop-value in
    let value : ℕ = get_or c.args.values.now l.value-index 0 in
    let one_step : with_pen c.match-asked.screen c.match-asked.pen ≡ advanced (with_pen l.screen l.pen) value =
    asked c ∙ planned_step l.screen l.pen value _ (known at.Joined-is_other) in (
      rw one_step (advanced_in value (small _ (c.requires.values _ c.loop-value-test.true)) l.invariant.0),
      one_step ∙ ap (λ (x : Screen). advanced x value) l.invariant.1
          ∙ sym (by_one c.args.start c.args.values.now l.value-index c.loop-value-test.true),
    )

-- ---- the end
pub returns : goal.returns
returns c =
    let h : length c.args.values.now ≤ c.loop-value.value-index = c.loop-value-test.false in
    c.loop-value.invariant.1 ∙ ap (advanced_by c.args.start) (take_all c.loop-value.value-index c.args.values.now h)
