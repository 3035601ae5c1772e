-- What a pen is: its start, its ranges (01, "Screen cells"). Assumes nothing.
use Rattle.std.specs.Prelude.{Option, Some, None, ◌≡◌, Bool, true, false, ◌&&◌}
use Rattle.screen_cells.specs.declared.Character.{Character}
use Rattle.screen_cursor.specs.Places.{home, on_screen, On}
use Rattle.screen_sequences.specs.declared.Sequence.TheVariants.{Free}
use Rattle.screen_sequences.specs.Sequences.{in_range as good_sequence}
use Rattle.screen_cells.specs.Characters.{good_character, InCharacter}
use Rattle.screen_attributes.specs.Attributing.{start_of}
use Rattle.screen_attributes.specs.Within.{good, InForce}
use Rattle.screen_pen.specs.declared.Spot.{Spot}
use Rattle.screen_pen.specs.declared.Pen.{Pen}

-- "row 1, column 1 and start attributes"
abbrev pub start_spot : Spot
start_spot = record { place = home; attributes = start_of }

-- "Current attributes at the start ..", "The cursor starts at row 1, column 1, hidden"; "if there was none, row 1,
-- column 1 and start attributes"
abbrev pub fresh_pen : Pen
fresh_pen = record { here = start_spot; kept = start_spot; last = None; sequence = Free; shown = false }

-- ---- ranges

abbrev pub good_last : Option Character → Bool
good_last None = true
good_last (Some c) = good_character c

unfoldable pub good_spot : Spot → Bool
good_spot s = on_screen s.place && good s.attributes

-- "cursor and kept place on the screen; an unfinished sequence that the rules below leave open"
unfoldable pub in_range : Pen → Bool
in_range p = good_spot p.here && (good_spot p.kept && (good_last p.last && good_sequence p.sequence))

abbrev pub InLast : Option Character → Type 0
InLast None = Unit {0}
InLast (Some c) = InCharacter c

pub record InSpot (s : Spot) : Type 0 where
  pub place : On s.place
  pub attributes : InForce s.attributes

pub record InPen (p : Pen) : Type 0 where
  pub here : InSpot p.here
  pub kept : InSpot p.kept
  pub last : InLast p.last
  pub sequence : good_sequence p.sequence ≡ true
