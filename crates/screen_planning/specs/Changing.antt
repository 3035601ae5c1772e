-- A pen with one part changed. Assumes nothing.
use Rattle.std.specs.Prelude.{Bool}
use Rattle.screen_cursor.specs.declared.Place.{Place}
use Rattle.screen_sequences.specs.declared.Sequence.{Sequence}
use Rattle.screen_attributes.specs.declared.Attributes.{Attributes}
use Rattle.screen_pen.specs.declared.Spot.{Spot}
use Rattle.screen_pen.specs.declared.Pen.{Pen}

abbrev pub with_here : Pen → Spot → Pen
with_here p x = record { here = x; kept = p.kept; last = p.last; sequence = p.sequence; shown = p.shown }

abbrev pub with_place : Pen → Place → Pen
with_place p x = with_here p (record { place = x; attributes = p.here.attributes })

abbrev pub with_attributes : Pen → Attributes → Pen
with_attributes p x = with_here p (record { place = p.here.place; attributes = x })

abbrev pub with_kept : Pen → Spot → Pen
with_kept p x = record { here = p.here; kept = x; last = p.last; sequence = p.sequence; shown = p.shown }

abbrev pub with_sequence : Pen → Sequence → Pen
with_sequence p x = record { here = p.here; kept = p.kept; last = p.last; sequence = x; shown = p.shown }

abbrev pub with_shown : Pen → Bool → Pen
with_shown p x = record { here = p.here; kept = p.kept; last = p.last; sequence = p.sequence; shown = x }
