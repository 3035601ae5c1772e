-- What becomes of the grounds, order by order. Assumes nothing.
use mathlib.Core.Path.{◌≡◌, refl, sym, ap, ◌∙◌}
use mathlib.Core.Bool.{Bool, true, false, cond}
use Prim.Native.Nat.{ℕ, zero, suc, ◌-◌, ◌%◌}
use lib.Dec.{eqb}
use Rattle.std.specs.Prelude.{Option, Some, None}
use Rattle.laws.proofs.Computed.{chosen}
use Rattle.screen_cursor.specs.declared.Place.{Place}
use Rattle.screen_cursor.specs.Places.{at}
use Rattle.screen_motion.specs.Moves.{down_of}
use Rattle.screen_addresses.specs.Addressing.{good}
use Rattle.screen_sequences.specs.declared.Sequence.{Sequence}
use Rattle.screen_sequences.specs.declared.Order.{Order}
use Rattle.screen_sequences.specs.declared.Order.TheVariants.{Skip, Left, Right, Up, Down, First, Clear, Home}
use Rattle.screen_sequences.specs.declared.Order.TheVariants.{ShiftOut, ShiftIn, Show, Hide, Pair, Go, Write}
use Rattle.screen_sequences.specs.declared.Order.TheVariants.{Second, Again}
use Rattle.screen_sequences.specs.Sequences.{heard}
use Rattle.screen_cells.specs.declared.Character.{Character}
use Rattle.screen_cells.specs.Characters.{takes}
use Rattle.screen_attributes.specs.declared.Zone.{Zone}
use Rattle.screen_attributes.specs.declared.Attributes.{Attributes}
use Rattle.screen_escapes.specs.Pairing.{paired, names_ground}
use Rattle.screen_escapes.proofs.Grounds.{pair_ground, pair_others}
use Rattle.screen_writing.specs.Writing.{after_waiting, after_writing}
use Rattle.screen_writing.proofs.Twice.{written_twice}
use Rattle.screen_pen.specs.declared.Pen.{Pen}
use Rattle.screen_pen.specs.Strokes.{after_times}
use Rattle.screen_planning.specs.Changing.{with_here, with_place, with_sequence}
use Rattle.screen_planning.specs.Obeying.{again, gone, obeyed}
use Rattle.screen_planning.specs.Planning.{finished, after_order, unfinished, ordered, pen_after}
use Rattle.screen_planning.specs.Grounds.{Fate, taken, awaited, dropped, brought_back, left_alone}
use Rattle.screen_planning.specs.Grounds.{taken_where, again_fate, fate, taken_from, outcome}

module _ (p : Pen) where
  abbrev zone : Zone
  zone = p.here.attributes.zone

  -- ---- a character written

  -- one that takes a ground, or does not
  marked : (t : Bool) (w : Option ℕ) → zone.waiting ≡ w → after_waiting w zone t ≡ outcome p (taken_where t)
  marked true None e =
      ap (λ (w : Option ℕ). record { ground = zone.ground; waiting = w }) e
      ∙ sym (ap (λ (w : Option ℕ). record { ground = taken_from w zone.ground; waiting = None }) e)
  marked true (Some g) e =
      sym (ap (λ (w : Option ℕ). record { ground = taken_from w zone.ground; waiting = None }) e)
  marked false None e = refl
  marked false (Some g) e = refl

  -- once, and the same one again and again
  times : (x : Character) (n : ℕ) → (after_times p x (suc n)).here.attributes ≡ after_writing p.here.attributes x
  unfolding after_times
  times x zero = refl
  times x (suc n) = ap (λ (a : Attributes). after_writing a x) (times x n) ∙ written_twice p.here.attributes x

  written_fate : (x : Character) (n : ℕ)
      → (after_times p x (suc n)).here.attributes.zone ≡ outcome p (taken_where (takes x))
  written_fate x n = ap (λ (a : Attributes). a.zone) (times x n) ∙ marked (takes x) zone.waiting refl

  last_fate : (l : Option Character) (n : ℕ)
      → (finished (again p l n).pen (again p l n).asked).here.attributes.zone ≡ outcome p (again_fate l n)
  unfolding after_times
  last_fate None n = refl
  last_fate (Some x) zero = refl
  last_fate (Some x) (suc n) = written_fate x n

  -- ---- the other orders

  pair_fate : (c : ℕ)
      → (paired p.here.attributes c).zone ≡ outcome p (cond (names_ground c) (awaited (c % 16)) left_alone)
  pair_fate c =
      chosen (λ (f : Fate). (paired p.here.attributes c).zone ≡ outcome p f) (names_ground c)
      (λ t. pair_ground p.here.attributes c t) (λ t. pair_others p.here.attributes c t)

  go_fate : (t : Bool) (x : Place)
      → (gone p (cond t (Some x) None)).here.attributes.zone ≡ outcome p (cond t dropped left_alone)
  unfolding gone
  go_fate true x = refl
  go_fate false x = refl

  down_fate : (t : Bool)
      → (cond t (with_here p p.kept) (with_place p (down_of p.here.place))).here.attributes.zone
      ≡ outcome p (cond t brought_back left_alone)
  down_fate true = refl
  down_fate false = refl

  -- after any order
  pub order_fate : (o : Order) → (after_order p o).here.attributes.zone ≡ outcome p (fate p o)
  unfolding obeyed
  order_fate Skip = refl
  order_fate Left = refl
  order_fate Right = refl
  order_fate Up = refl
  order_fate Down = down_fate (eqb p.here.place.row 0)
  order_fate First = refl
  order_fate Clear = refl
  order_fate Home = refl
  order_fate ShiftOut = refl
  order_fate ShiftIn = refl
  order_fate Show = refl
  order_fate Hide = refl
  order_fate (Pair c) = pair_fate c
  order_fate (Go r c) = go_fate (good r c) (at (r - 64) (c - 64))
  order_fate (Write c) = written_fate _ 0
  order_fate (Second c) = written_fate _ 0
  order_fate (Again n) = last_fate p.last n

-- ---- what is unfinished does not matter

fate_any : (p : Pen) (q : Sequence) (o : Order) → fate (with_sequence p q) o ≡ fate p o
fate_any p q Skip = refl
fate_any p q Left = refl
fate_any p q Right = refl
fate_any p q Up = refl
fate_any p q Down = refl
fate_any p q First = refl
fate_any p q Clear = refl
fate_any p q Home = refl
fate_any p q ShiftOut = refl
fate_any p q ShiftIn = refl
fate_any p q Show = refl
fate_any p q Hide = refl
fate_any p q (Pair c) = refl
fate_any p q (Go r c) = refl
fate_any p q (Write c) = refl
fate_any p q (Second c) = refl
fate_any p q (Again n) = refl

outcome_any : (p : Pen) (q : Sequence) (f : Fate) → outcome (with_sequence p q) f ≡ outcome p f
outcome_any p q taken = refl
outcome_any p q (awaited x) = refl
outcome_any p q dropped = refl
outcome_any p q brought_back = refl
outcome_any p q left_alone = refl

-- after any value
pub value_fate : (p : Pen) (b : ℕ) → (pen_after p b).here.attributes.zone ≡ outcome p (fate p (ordered p b))
value_fate p b =
    order_fate (unfinished p b) (ordered p b)
    ∙ ap (outcome (unfinished p b)) (fate_any p (heard p.sequence b).sequence (ordered p b))
    ∙ outcome_any p (heard p.sequence b).sequence (fate p (ordered p b))
