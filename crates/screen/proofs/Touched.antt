-- Which cells a value can change, by their places. Assumes nothing.
use mathlib.Core.Path.{◌≡◌, refl, sym, ap, ap₂, ◌∙◌, subst}
use mathlib.Core.Bool.{Bool, true, false, cond, not}
use mathlib.Core.List.{List, [], ◌∷◌}
use Prim.Native.Nat.{ℕ, zero, suc, ◌≤◌}
use native.Mathlib.Nat.{le_of_suc-le-suc, not-suc-le-zero}
use native.Mathlib.Omega.{arith}
use lib.Dec.{eqb, lit≤}
use lib.ListN.{get_or}
use lib.Seq.{get_or-set_other}
use borrow.Author.Tests.{eqb-true, eqb-false}
use Rattle.std.proofs.Math.Nat.{pos_of_ne-zero}
use Rattle.laws.proofs.Computed.{each, holds, fails}
use Rattle.screen_cursor.specs.declared.Place.{Place}
use Rattle.screen_cursor.specs.Places.{at, On}
use Rattle.screen_cursor.specs.Places.{index_of}
use Rattle.screen_cursor.proofs.Tested.{index_low}
use Rattle.screen_motion.specs.Moves.{right_of}
use Rattle.screen_motion.proofs.Stays.{right_on}
use Rattle.screen_sequences.specs.declared.Sequence.{Sequence}
use Rattle.screen_sequences.specs.declared.Sequence.TheVariants.{Separator}
use Rattle.screen_sequences.specs.Sequences.{is_separator, control}
use Rattle.screen_sequences.proofs.Codes.{heard_control}
use Rattle.screen_cells.specs.declared.Character.{Character}
use Rattle.screen_cells.specs.declared.Cell.{Cell}
use Rattle.screen_cells.specs.Cells.{blank_of}
use Rattle.screen_sheet.specs.Clearing.{cleared}
use Rattle.screen_sheet.proofs.Blanked.{row_0_kept, others_blank}
use Rattle.screen_pen.specs.declared.Pen.{Pen}
use Rattle.screen_planning.specs.declared.Asked.{Asked}
use Rattle.screen_planning.specs.declared.Asked.TheVariants.{Nothing, Blank, Put}
use Rattle.screen_planning.specs.Obeying.{obeyed}
use Rattle.screen_planning.specs.Planning.{planned}
use Rattle.screen_planning.specs.Reach.{writes, clears}
use Rattle.screen_planning.proofs.Plans.{plan_heard}
use Rattle.screen_planning.proofs.Reached.{Asks, plan_asks}
use Rattle.screen_page.specs.declared.Screen.{Screen}
use Rattle.screen_page.specs.Pages.{cell_at, with_pen}
use Rattle.screen_page.specs.Ranges.{InScreen}
use Rattle.screen.specs.Screens.{written, written_times, applied, advanced}
use Rattle.screen.specs.Claims.{onwards, Among, here, later}
use Rattle.screen.proofs.Repeated.{step_plan}

-- ---- places

-- two places on the screen that have one cell are one place
one_place : {x y : Place} → On x → On y → index_of x ≡ index_of y → x ≡ y
one_place {x} {y} h k e =
    let r : x.row ≡ y.row = omega (arith, h.row, h.low, h.high, k.row, k.low, k.high, e) in
    let c : x.column ≡ y.column = omega (arith, h.row, h.low, h.high, k.row, k.low, k.high, e) in ap₂ at r c

-- ---- characters

-- where the cursor is after n characters
abbrev pub moved : ℕ → Place → Place
moved zero x = x
moved (suc n) x = right_of (moved n x)

pub moved_right : (n : ℕ) (x : Place) → moved n (right_of x) ≡ right_of (moved n x)
moved_right zero x = refl
moved_right (suc n) x = ap right_of (moved_right n x)

pub moved_on : (n : ℕ) {x : Place} → On x → On (moved n x)
moved_on zero h = h
moved_on (suc n) h = right_on (moved_on n h)

-- it is the last of one place more
last_among : (n : ℕ) (x : Place) → Among (moved n x) (onwards (suc n) x)
last_among zero x = here
last_among (suc n) x =
    later (subst (λ (y : Place). Among y (onwards (suc n) (right_of x))) (moved_right n x) (last_among n (right_of x)))

among_more : (m n : ℕ) (x : Place) {y : Place} → m ≤ n → Among y (onwards m x) → Among y (onwards n x)
among_more (suc m) (suc n) x h here = here
among_more (suc m) (suc n) x h (later a) = later (among_more m n (right_of x) (le_of_suc-le-suc h) a)
among_more (suc m) zero x h a = absurd (not-suc-le-zero h)
among_more zero n x {y = y} h a = elim a [ ]

-- the cursor after n characters, and a cell that none of them is written to
pub times_place : (s : Screen) (c : Character) (n : ℕ) → (written_times s c n).pen.here.place ≡ moved n s.pen.here.place
unfolding written_times written
times_place s c zero = refl
times_place s c (suc n) = ap right_of (times_place s c n)

times_cell : (s : Screen) (c : Character) (n : ℕ) (x : Place) → On s.pen.here.place → On x
    → (Among x (onwards n s.pen.here.place) → ⊥) → cell_at (written_times s c n) x ≡ cell_at s x
unfolding written_times written
times_cell s c zero x h k f = refl
times_cell s c (suc n) x h k f =
    get_or-set_other (written_times s c n).cells _ (index_of x) _ blank_of
    (λ e. f
    (subst (λ (y : Place). Among y (onwards (suc n) s.pen.here.place)) (sym (same e)) (last_among n s.pen.here.place)))
    ∙ times_cell s c n x h k (λ i. f (among_more n (suc n) s.pen.here.place (omega arith) i))
  where
    same : index_of x ≡ index_of (written_times s c n).pen.here.place → x ≡ moved n s.pen.here.place
    same e = one_place k (moved_on n h) (e ∙ ap index_of (times_place s c n))

-- ---- any value

untouched : (s : Screen) (p : Pen) (o : Asked) (n : ℕ) (x : Place) → On s.pen.here.place → On x
    → Asks false n s.pen.here.place p.here.place o → (Among x (onwards n s.pen.here.place) → ⊥)
    → cell_at (applied s p o) x ≡ cell_at s x
unfolding applied
untouched s p Nothing n x h k a f = refl
untouched s p Blank n x h k a f = absurd (fails refl (holds a))
untouched s p (Put c m) n x h k a f =
    times_cell (with_pen s p) c m x (subst On (sym a.1) h) k
    (λ i. f (among_more m n s.pen.here.place a.0 (subst (λ (y : Place). Among x (onwards m y)) a.1 i)))

pub others_stay : (s : Screen) (b : ℕ) (x : Place) → On s.pen.here.place → On x
    → clears s.pen.sequence b ≡ false → (Among x (onwards (writes s.pen.sequence b) s.pen.here.place) → ⊥)
    → cell_at (advanced s b) x ≡ cell_at s x
unfolding advanced
others_stay s b x h k e f =
    let q = s.pen.sequence in
    let a = planned s.pen b in
    untouched s a.pen a.asked (writes q b) x h k
    (subst (λ (t : Bool). Asks t (writes q b) s.pen.here.place a.pen.here.place a.asked)
    e (plan_asks s.pen b))
    f

-- ---- FF

-- the screen after an obeyed FF
ff_cells : (s : Screen) → (s.pen.sequence ≡ Separator → ⊥) → (advanced s 12).cells ≡ cleared s.cells
unfolding obeyed applied
ff_cells s e =
    ap (λ (x : Screen). x.cells)
    (step_plan s 12 _ (plan_heard s.pen 12 (control 12) (heard_control s.pen.sequence 12 e (lit≤ tt) (lit≤ tt))))

by_row : (s : Screen) (x : Place) (t : Bool) → InScreen s → On x → eqb x.row 0 ≡ t
    → get_or (cleared s.cells) (index_of x) blank_of ≡ cond t (cell_at s x) blank_of
by_row s x true h k e =
    row_0_kept s.cells h.thousand (index_of x) blank_of
    (omega (arith, eqb-true x.row 0 e, k.low, k.high))
by_row s x false h k e =
    let r : 1 ≤ x.row = pos_of_ne-zero (eqb-false x.row 0 e) in
    others_blank s.cells h.thousand (index_of x) blank_of (omega (arith, r, k.low)) (index_low k)

-- FF, not after SEP: row 0 as it was, every other cell blank
pub ff_cell : (s : Screen) (b : ℕ) (x : Place) → InScreen s → On x → clears s.pen.sequence b ≡ true
    → cell_at (advanced s b) x ≡ cond (eqb x.row 0) (cell_at s x) blank_of
ff_cell s b x h k e =
    let t = each (eqb b 12 ∷ not (is_separator s.pen.sequence) ∷ []) e in
    ap (λ (c : ℕ). cell_at (advanced s c) x) (eqb-true b 12 t.0)
    ∙ ap (λ (cs : List Cell). get_or cs (index_of x) blank_of)
    (ff_cells s (λ q. fails (ap (λ (u : Sequence). not (is_separator u)) q) (holds t.1)))
    ∙ by_row s x (eqb x.row 0) h k refl
