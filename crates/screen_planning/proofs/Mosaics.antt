-- While G1 is current, inverse is off, in the attributes in force and in those kept: every value leaves it so. Assumes
-- nothing.
use Prim.Native.Nat.{ℕ, zero, suc}
use native.Mathlib.Omega.{arith}
use lib.Dec.{eqb}
use Rattle.std.specs.Prelude.{Option, Some, None}
use Rattle.screen_cursor.specs.declared.Place.{Place}
use Rattle.laws.proofs.Computed.{chosen}
use Rattle.screen_addresses.specs.Addressing.{addressed}
use Rattle.screen_sequences.specs.declared.Order.{Order}
use Rattle.screen_sequences.specs.declared.Order.TheVariants.{Skip, Left, Right, Up, Down, First, Clear, Home}
use Rattle.screen_sequences.specs.declared.Order.TheVariants.{ShiftOut, ShiftIn, Show, Hide, Pair, Go, Write}
use Rattle.screen_sequences.specs.declared.Order.TheVariants.{Second, Again}
use Rattle.screen_attributes.specs.Attributing.{Upright, shifted_in}
use Rattle.screen_attributes.specs.declared.Attributes.{Attributes}
use Rattle.screen_attributes.proofs.Mosaics.{start_upright, out_upright}
use Rattle.screen_escapes.proofs.Mosaics.{pair_upright}
use Rattle.screen_writing.proofs.Mosaics.{write_upright}
use Rattle.screen_cells.specs.declared.Character.{Character}
use Rattle.screen_pen.specs.declared.Pen.{Pen}
use Rattle.screen_pen.specs.Pens.{fresh_pen}
use Rattle.screen_pen.specs.Strokes.{after_times}
use Rattle.screen_planning.specs.Obeying.{again, lowered, entering, gone, obeyed}
use Rattle.screen_planning.specs.Planning.{finished, after_order, unfinished, ordered, pen_after}

abbrev pub Uprights : Pen → Type 0
Uprights p = Upright p.here.attributes × Upright p.kept.attributes

pub fresh_upright : Uprights fresh_pen
fresh_upright = (start_upright, start_upright)

-- SI makes G0 current
in_upright : (a : Attributes) → Upright (shifted_in a)
in_upright a e = absurd (omega (arith, e))

times_upright : (p : Pen) (x : Character) (n : ℕ) → Uprights p → Uprights (after_times p x n)
unfolding after_times
times_upright p x zero h = h
times_upright p x (suc n) h =
    let k = times_upright p x n h in (write_upright (after_times p x n).here.attributes x k.0, k.1)

again_upright : (p : Pen) (l : Option Character) (n : ℕ) → Uprights p → Uprights (finished (again p l n).pen (again p l n).asked)
again_upright p None n h = h
again_upright p (Some x) n h = times_upright p x n h

lowered_upright : (p : Pen) → Uprights p → Uprights (lowered p)
lowered_upright p h = chosen Uprights (eqb p.here.place.row 0) (λ e. (h.1, h.1)) (λ e. h)

entering_upright : (p : Pen) (r : ℕ) → Uprights p → Uprights (entering p r)
entering_upright p r h =
    chosen Uprights (eqb r 0) (λ e. chosen Uprights (eqb p.here.place.row 0) (λ f. h) (λ f. (h.0, h.0))) (λ e. h)

gone_upright : (p : Pen) (a : Option Place) → Uprights p → Uprights (gone p a)
unfolding gone
gone_upright p None h = h
gone_upright p (Some x) h = (start_upright, (entering_upright p x.row h).1)

order_upright : (p : Pen) (o : Order) → Uprights p → Uprights (after_order p o)
unfolding obeyed
order_upright p Skip h = h
order_upright p Left h = h
order_upright p Right h = h
order_upright p Up h = h
order_upright p Down h = lowered_upright p h
order_upright p First h = h
order_upright p Clear h = (start_upright, h.1)
order_upright p Home h = (start_upright, h.1)
order_upright p ShiftOut h = (out_upright p.here.attributes, h.1)
order_upright p ShiftIn h = (in_upright p.here.attributes, h.1)
order_upright p Show h = h
order_upright p Hide h = h
order_upright p (Pair c) h = (pair_upright p.here.attributes c h.0, h.1)
order_upright p (Go r c) h = gone_upright p (addressed r c) h
order_upright p (Write c) h = times_upright p _ 1 h
order_upright p (Second c) h = times_upright p _ 1 h
order_upright p (Again n) h = again_upright p p.last n h

-- after any value
pub value_upright : (p : Pen) (b : ℕ) → Uprights p → Uprights (pen_after p b)
value_upright p b h = order_upright (unfinished p b) (ordered p b) h
