-- A value leaves a pen in range. Assumes nothing.
use mathlib.Core.Path.{◌≡◌}
use mathlib.Core.Bool.{Bool, true}
use Prim.Native.Nat.{ℕ, ◌≤◌}
use native.Mathlib.Omega.{arith}
use lib.Dec.{eqb, lit≤}
use Rattle.std.specs.Prelude.{Option, Some, None}
use Rattle.screen_cells.specs.declared.Character.{Character}
use Rattle.laws.proofs.Computed.{chosen}
use Rattle.screen_cursor.specs.declared.Place.{Place}
use Rattle.screen_cursor.specs.Places.{On}
use Rattle.screen_cursor.proofs.Tested.{home_on}
use Rattle.screen_motion.proofs.Stays.{left_on, right_on, up_on, down_on, first_on}
use Rattle.screen_addresses.specs.Addressing.{addressed}
use Rattle.screen_addresses.proofs.Stays.{Leads, address_on}
use Rattle.screen_sequences.specs.declared.Sequence.{Sequence}
use Rattle.screen_sequences.specs.declared.Order.{Order}
use Rattle.screen_sequences.specs.declared.Order.TheVariants.{Skip, Left, Right, Up, Down, First, Clear, Home}
use Rattle.screen_sequences.specs.declared.Order.TheVariants.{ShiftOut, ShiftIn, Show, Hide, Pair, Go, Write}
use Rattle.screen_sequences.specs.declared.Order.TheVariants.{Second, Again}
use Rattle.screen_sequences.specs.Sequences.{in_range as good_sequence, heard}
use Rattle.screen_sequences.proofs.Stays.{InOrder, heard_in}
use Rattle.screen_cells.specs.Characters.{InCharacter}
use Rattle.screen_attributes.specs.declared.Attributes.{Attributes}
use Rattle.screen_attributes.specs.Within.{InForce}
use Rattle.screen_attributes.proofs.Stays.{start_in, out_in, in_in}
use Rattle.screen_escapes.proofs.Stays.{pair_in}
use Rattle.screen_pen.specs.declared.Spot.{Spot}
use Rattle.screen_pen.specs.declared.Pen.{Pen}
use Rattle.screen_pen.specs.Pens.{InLast, InSpot, InPen}
use Rattle.screen_planning.specs.declared.Asked.{Asked}
use Rattle.screen_planning.specs.declared.Asked.TheVariants.{Nothing, Blank, Put}
use Rattle.screen_planning.specs.declared.Planned.{Planned}
use Rattle.screen_planning.specs.Changing.{with_here, with_place, with_attributes, with_sequence, with_shown}
use Rattle.screen_planning.specs.Obeying.{keeps, again, lowered, keeping, entering, start_at, gone, obeyed}
use Rattle.screen_planning.specs.Planning.{planned}

-- ---- a pen with one part changed

here_in : {p : Pen} {x : Spot} → InPen p → InSpot x → InPen (with_here p x)
here_in h k = record { here = k; kept = h.kept; last = h.last; sequence = h.sequence }

place_in : {p : Pen} {x : Place} → InPen p → On x → InPen (with_place p x)
place_in h k = here_in h (record { place = k; attributes = h.here.attributes })

attributes_in : {p : Pen} {a : Attributes} → InPen p → InForce a → InPen (with_attributes p a)
attributes_in h k = here_in h (record { place = h.here.place; attributes = k })

sequence_in : {p : Pen} (q : Sequence) → InPen p → good_sequence q ≡ true → InPen (with_sequence p q)
sequence_in q h k = record { here = h.here; kept = h.kept; last = h.last; sequence = k }

-- ---- orders

abbrev pub InAsked : Asked → Type 0
InAsked Nothing = Unit {0}
InAsked Blank = Unit {0}
InAsked (Put x n) = InCharacter x

-- a plan whose pen is in range, and what it asks too
pub record InPlan (a : Planned) : Type 0 where
  pub pen : InPen a.pen
  pub asked : InAsked a.asked

kept_in : {p : Pen} → InPen p → InPlan (keeps p)
kept_in h = record { pen = h; asked = tt }

lowered_in : {p : Pen} → InPen p → InPen (lowered p)
lowered_in {p} h =
    chosen InPen (eqb p.here.place.row 0) (λ e. here_in h h.kept)
    (λ e. place_in h (down_on h.here.place))

keeping_in : {p : Pen} → InPen p → InPen (keeping p)
keeping_in h = record { here = h.here; kept = h.here; last = h.last; sequence = h.sequence }

entering_in : {p : Pen} (r : ℕ) → InPen p → InPen (entering p r)
entering_in {p} r h =
    chosen InPen (eqb r 0) (λ e. chosen InPen (eqb p.here.place.row 0) (λ f. h) (λ f. keeping_in h)) (λ e. h)

start_at_lem : {p : Pen} {x : Place} → InPen p → On x → InPen (start_at p x)
start_at_lem h k = here_in h (record { place = k; attributes = start_in })

gone_in : {p : Pen} (a : Option Place) → Leads a → InPen p → InPen (gone p a)
unfolding gone
gone_in None k h = h
gone_in (Some x) k h = start_at_lem (entering_in x.row h) k

again_in : {p : Pen} (l : Option Character) (n : ℕ) → InLast l → InPen p → InPlan (again p l n)
again_in None n k h = kept_in h
again_in (Some x) n k h = record { pen = h; asked = k }

shown_in : {p : Pen} (b : Bool) → InPen p → InPen (with_shown p b)
shown_in b h = record { here = h.here; kept = h.kept; last = h.last; sequence = h.sequence }

obeyed_in : {p : Pen} (o : Order) → InOrder o → InPen p → InPlan (obeyed p o)
unfolding obeyed
obeyed_in Skip k h = kept_in h
obeyed_in Left k h = kept_in (place_in h (left_on h.here.place))
obeyed_in Right k h = kept_in (place_in h (right_on h.here.place))
obeyed_in Up k h = kept_in (place_in h (up_on h.here.place))
obeyed_in Down k h = kept_in (lowered_in h)
obeyed_in First k h = kept_in (place_in h (first_on h.here.place))
obeyed_in Clear k h = record { pen = start_at_lem h home_on; asked = tt }
obeyed_in Home k h = kept_in (start_at_lem h home_on)
obeyed_in ShiftOut k h = kept_in (attributes_in h (out_in h.here.attributes))
obeyed_in ShiftIn k h = kept_in (attributes_in h (in_in h.here.attributes))
obeyed_in Show k h = kept_in (shown_in _ h)
obeyed_in Hide k h = kept_in (shown_in _ h)
obeyed_in (Pair c) k h = kept_in (attributes_in h (pair_in c h.here.attributes))
obeyed_in (Go r c) k h = kept_in (gone_in (addressed r c) (address_on r c) h)
obeyed_in (Write c) k h =
    record { pen = h; asked = record { set = omega (arith, h.here.attributes.set); low = k.0; high = k.1 } }
obeyed_in (Second c) k h = record { pen = h; asked = record { set = lit≤ tt; low = k.0; high = k.1 } }
obeyed_in {p} (Again n) k h = again_in p.last n h.last h

-- a value of 0 to 127
pub planned_in : {p : Pen} (b : ℕ) → b ≤ 127 → InPen p → InPlan (planned p b)
planned_in {p} b t h =
    let f = heard_in p.sequence b h.sequence t in
    obeyed_in (heard p.sequence b).order f.1 (sequence_in (heard p.sequence b).sequence h f.0)
