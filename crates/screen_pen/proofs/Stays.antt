-- What the range test of a pen says; a character written leaves a pen in range. Assumes nothing.
use mathlib.Core.Path.{◌≡◌, refl}
use mathlib.Core.Bool.{true}
use mathlib.Core.List.{[], ◌∷◌}
use Rattle.std.specs.Prelude.{Option, Some, None}
use Rattle.laws.proofs.Computed.{each}
use Rattle.screen_cursor.specs.Places.{on_screen}
use Rattle.screen_cursor.proofs.Tested.{on_true, true_on, home_on}
use Rattle.screen_motion.proofs.Stays.{right_on}
use Rattle.screen_sequences.specs.Sequences.{in_range as good_sequence}
use Rattle.screen_cells.specs.declared.Character.{Character}
use Rattle.screen_cells.specs.Characters.{InCharacter}
use Rattle.screen_cells.specs.Cells.{InCell}
use Rattle.screen_cells.proofs.Tested.{character_true, true_character}
use Rattle.screen_attributes.specs.Within.{good}
use Rattle.screen_attributes.proofs.Stays.{force_true, true_force, start_in}
use Rattle.screen_writing.proofs.Stays.{write_in, cell_in}
use Rattle.screen_pen.specs.declared.Spot.{Spot}
use Rattle.screen_pen.specs.declared.Pen.{Pen}
use Rattle.screen_pen.specs.Pens.{start_spot, fresh_pen}
use Rattle.screen_pen.specs.Pens.{good_last, good_spot, in_range, InLast, InSpot, InPen}
use Rattle.screen_pen.specs.Strokes.{after, stroke}

-- ---- the test is the ranges

spot_true : (s : Spot) → InSpot s → good_spot s ≡ true
unfolding good_spot
spot_true s h = simp (on_true s.place h.place, force_true h.attributes)

true_spot : (s : Spot) → good_spot s ≡ true → InSpot s
unfolding good_spot
true_spot s e =
    let t = each (on_screen s.place ∷ good s.attributes ∷ []) e in
    record { place = true_on s.place t.0; attributes = true_force s.attributes t.1 }

last_true : (l : Option Character) → InLast l → good_last l ≡ true
last_true None h = refl
last_true (Some c) h = character_true h

true_last : (l : Option Character) → good_last l ≡ true → InLast l
true_last None e = tt
true_last (Some c) e = true_character c e

pub pen_true : (p : Pen) → InPen p → in_range p ≡ true
unfolding in_range
pen_true p h =
    simp (
      spot_true p.here h.here,
      spot_true p.kept h.kept,
      last_true p.last h.last,
      h.sequence,
    )

pub true_pen : (p : Pen) → in_range p ≡ true → InPen p
unfolding in_range
true_pen p e =
    let t = each (good_spot p.here ∷ good_spot p.kept ∷ good_last p.last ∷ good_sequence p.sequence ∷ []) e in
    record {
      here = true_spot p.here t.0;
      kept = true_spot p.kept t.1.0;
      last = true_last p.last t.1.1.0;
      sequence = t.1.1.1;
    }

start_spot_in : InSpot start_spot
start_spot_in = record { place = home_on; attributes = start_in }

pub fresh_in : InPen fresh_pen
fresh_in = record { here = start_spot_in; kept = start_spot_in; last = tt; sequence = refl }

-- ---- a character written

pub after_in : {p : Pen} (c : Character) → InCharacter c → InPen p → InPen (after p c)
after_in c k h =
    record {
      here = record { place = right_on h.here.place; attributes = write_in c h.here.attributes };
      kept = h.kept;
      last = k;
      sequence = h.sequence;
    }

pub stroke_cell : {p : Pen} (c : Character) → InCharacter c → InPen p → InCell (stroke p c).cell
stroke_cell c k h = cell_in k (write_in c h.here.attributes)
