-- Row 0: what is kept when US enters it stays kept while the cursor is there, and LF brings it back. Assumes nothing.
use mathlib.Core.Path.{◌≡◌, refl, ap, ◌∙◌}
use mathlib.Core.Bool.{Bool, true, false, cond}
use Prim.Native.Nat.{ℕ, zero, suc, ◌-◌, ◌≤◌}
use native.Mathlib.Omega.{arith}
use lib.Dec.{eqb, lit≤}
use borrow.Author.Tests.{eq-eqb, ne_eqb}
use Rattle.std.specs.Prelude.{Option, Some, None}
use Rattle.screen_cursor.specs.declared.Place.{Place}
use Rattle.screen_cursor.specs.Places.{at}
use Rattle.screen_motion.specs.Moves.{down_of}
use Rattle.screen_addresses.specs.Addressing.{good}
use Rattle.screen_sequences.specs.declared.Sequence.TheVariants.{Free, Separator}
use Rattle.screen_sequences.specs.declared.Order.{Order}
use Rattle.screen_sequences.specs.declared.Order.TheVariants.{Skip, Left, Right, Up, Down, First, Clear, Home}
use Rattle.screen_sequences.specs.declared.Order.TheVariants.{ShiftOut, ShiftIn, Show, Hide, Pair, Go, Write}
use Rattle.screen_sequences.specs.declared.Order.TheVariants.{Second, Again}
use Rattle.screen_sequences.specs.Sequences.{control}
use Rattle.screen_sequences.proofs.Codes.{heard_control}
use Rattle.screen_cells.specs.declared.Character.{Character}
use Rattle.screen_pen.specs.declared.Pen.{Pen}
use Rattle.screen_pen.specs.Strokes.{after_times}
use Rattle.screen_planning.specs.Changing.{with_here, with_place, with_sequence}
use Rattle.screen_planning.specs.Obeying.{keeps, again, keeping, entering, start_at, gone, obeyed}
use Rattle.screen_planning.specs.Planning.{unfinished, ordered, planned, finished, after_order, pen_after}
use Rattle.screen_planning.proofs.Plans.{plan_heard}

-- ---- what is kept

times_kept : (p : Pen) (x : Character) (n : ℕ) → (after_times p x n).kept ≡ p.kept
unfolding after_times
times_kept p x zero = refl
times_kept p x (suc n) = times_kept p x n

again_kept : (p : Pen) (l : Option Character) (n : ℕ) → (finished (again p l n).pen (again p l n).asked).kept ≡ p.kept
again_kept p None n = refl
again_kept p (Some x) n = times_kept p x n

down_kept : (p : Pen) (t : Bool)
    → (cond t (with_here p p.kept) (with_place p (down_of p.here.place))
    ).kept
    ≡ p.kept
down_kept p true = refl
down_kept p false = refl

-- US leaves it alone where the cursor is in row 0 already
go_kept : (p : Pen) (t u : Bool) (x : Place) → eqb p.here.place.row 0 ≡ true → eqb x.row 0 ≡ u
    → (gone p (cond t (Some x) None)).kept ≡ p.kept
unfolding gone
go_kept p true true x e f = simp (e, f)
go_kept p true false x e f = simp f
go_kept p false u x e f = refl

order_kept : (p : Pen) (o : Order) → p.here.place.row ≡ 0 → (after_order p o).kept ≡ p.kept
unfolding obeyed
order_kept p Skip e = refl
order_kept p Left e = refl
order_kept p Right e = refl
order_kept p Up e = refl
order_kept p Down e = down_kept p (eqb p.here.place.row 0)
order_kept p First e = refl
order_kept p Clear e = refl
order_kept p Home e = refl
order_kept p ShiftOut e = refl
order_kept p ShiftIn e = refl
order_kept p Show e = refl
order_kept p Hide e = refl
order_kept p (Pair c) e = refl
order_kept p (Go r c) e = go_kept p (good r c) _ (at (r - 64) (c - 64)) (eq-eqb _ _ e) refl
order_kept p (Write c) e = times_kept p _ 1
order_kept p (Second c) e = times_kept p _ 1
order_kept p (Again n) e = again_kept p p.last n

-- in row 0 no value changes what is kept
pub kept_stays : (p : Pen) (b : ℕ) → p.here.place.row ≡ 0 → (pen_after p b).kept ≡ p.kept
kept_stays p b e = order_kept (unfinished p b) (ordered p b) e

-- ---- US into row 0, and LF

-- the pen that US leaves in row 0
abbrev pub entered : Pen → ℕ → Pen
entered p c = start_at (keeping (with_sequence p Free)) (at 0 (c - 64))

-- US into row 0 from another row keeps what stands
pub entering_row : (p : Pen) → 1 ≤ p.here.place.row → entering p 0 ≡ keeping p
entering_row p r = simp (ne_eqb p.here.place.row 0 (λ f. omega (arith, r, f)))

-- LF in row 0, not after SEP: no cell is asked for, and what was kept is back
pub lf_back : (p : Pen) → (p.sequence ≡ Separator → ⊥) → p.here.place.row ≡ 0
    → planned p 10
    ≡ keeps (with_here (with_sequence p Free) p.kept)
unfolding obeyed
lf_back p s e =
    plan_heard p 10 (control 10) (heard_control p.sequence 10 s (lit≤ tt) (lit≤ tt))
    ∙ ap (λ (t : Bool). keeps (cond t back (with_place q (down_of p.here.place)))) (eq-eqb p.here.place.row 0 e)
  where
    q : Pen
    q = with_sequence p Free

    back : Pen
    back = with_here q p.kept
