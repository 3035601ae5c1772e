-- The last character is changed by a written character alone. Assumes nothing.
use mathlib.Core.Path.{◌≡◌, refl, sym, ◌∙◌}
use mathlib.Core.Bool.{Bool, true, false, cond}
use Prim.Native.Nat.{ℕ, zero, suc}
use lib.Dec.{eqb}
use Rattle.std.specs.Prelude.{Option, Some, None}
use Rattle.std.proofs.lemmas.Option.{none-some}
use Rattle.screen_cursor.specs.declared.Place.{Place}
use Rattle.screen_motion.specs.Moves.{down_of}
use Rattle.screen_addresses.specs.Addressing.{addressed}
use Rattle.screen_sequences.specs.declared.Sequence.{Sequence}
use Rattle.screen_sequences.specs.declared.Order.{Order}
use Rattle.screen_sequences.specs.declared.Order.TheVariants.{Skip, Left, Right, Up, Down, First, Clear, Home}
use Rattle.screen_sequences.specs.declared.Order.TheVariants.{ShiftOut, ShiftIn, Show, Hide, Pair, Go, Write}
use Rattle.screen_sequences.specs.declared.Order.TheVariants.{Second, Again}
use Rattle.screen_sequences.specs.Sequences.{heard}
use Rattle.screen_cells.specs.declared.Character.{Character}
use Rattle.screen_pen.specs.declared.Pen.{Pen}
use Rattle.screen_pen.specs.Strokes.{after_times}
use Rattle.screen_planning.specs.Changing.{with_here, with_place, with_sequence}
use Rattle.screen_planning.specs.Obeying.{again, keeping, gone, obeyed}
use Rattle.screen_planning.specs.Planning.{finished, after_order, unfinished, ordered, pen_after}
use Rattle.screen_planning.specs.Lasts.{last_after}

-- REP writes the last character, which stays the last
again_last : (p : Pen) (l : Option Character) (n : ℕ) → p.last ≡ l
    → (finished (again p l n).pen (again p l n).asked).last ≡ p.last
unfolding after_times
again_last p None n e = refl
again_last p (Some x) zero e = refl
again_last p (Some x) (suc n) e = sym e

down_last : (p : Pen) (t : Bool)
    → (cond t (with_here p p.kept) (with_place p (down_of p.here.place))
    ).last
    ≡ p.last
down_last p true = refl
down_last p false = refl

enter_last : (p : Pen) (t u : Bool) → (cond t (cond u p (keeping p)) p).last ≡ p.last
enter_last p true true = refl
enter_last p true false = refl
enter_last p false u = refl

go_last : (p : Pen) (a : Option Place) → (gone p a).last ≡ p.last
unfolding gone
go_last p None = refl
go_last p (Some x) = enter_last p (eqb x.row 0) (eqb p.here.place.row 0)

order_last : (p : Pen) (o : Order) → (after_order p o).last ≡ last_after p o
unfolding obeyed after_times
order_last p Skip = refl
order_last p Left = refl
order_last p Right = refl
order_last p Up = refl
order_last p Down = down_last p (eqb p.here.place.row 0)
order_last p First = refl
order_last p Clear = refl
order_last p Home = refl
order_last p ShiftOut = refl
order_last p ShiftIn = refl
order_last p Show = refl
order_last p Hide = refl
order_last p (Pair c) = refl
order_last p (Go r c) = go_last p (addressed r c)
order_last p (Write c) = refl
order_last p (Second c) = refl
order_last p (Again n) = again_last p p.last n refl

-- what is unfinished does not matter
last_any : (p : Pen) (q : Sequence) (o : Order) → last_after (with_sequence p q) o ≡ last_after p o
last_any p q Skip = refl
last_any p q Left = refl
last_any p q Right = refl
last_any p q Up = refl
last_any p q Down = refl
last_any p q First = refl
last_any p q Clear = refl
last_any p q Home = refl
last_any p q ShiftOut = refl
last_any p q ShiftIn = refl
last_any p q Show = refl
last_any p q Hide = refl
last_any p q (Pair c) = refl
last_any p q (Go r c) = refl
last_any p q (Write c) = refl
last_any p q (Second c) = refl
last_any p q (Again n) = refl

-- after any value
pub value_last : (p : Pen) (b : ℕ) → (pen_after p b).last ≡ last_after p (ordered p b)
value_last p b =
    order_last (unfinished p b) (ordered p b) ∙ last_any p (heard p.sequence b).sequence (ordered p b)

-- ---- only a fresh pen has none

order_never : (p : Pen) (o : Order) → last_after p o ≡ None → p.last ≡ None
order_never p Skip e = e
order_never p Left e = e
order_never p Right e = e
order_never p Up e = e
order_never p Down e = e
order_never p First e = e
order_never p Clear e = e
order_never p Home e = e
order_never p ShiftOut e = e
order_never p ShiftIn e = e
order_never p Show e = e
order_never p Hide e = e
order_never p (Pair c) e = e
order_never p (Go r c) e = e
order_never p (Write c) e = absurd (none-some _ (sym e))
order_never p (Second c) e = absurd (none-some _ (sym e))
order_never p (Again n) e = e

-- where there is none after a value, there was none before it
pub value_never : (p : Pen) (b : ℕ) → (pen_after p b).last ≡ None → p.last ≡ None
value_never p b e = order_never p (ordered p b) (sym (value_last p b) ∙ e)
