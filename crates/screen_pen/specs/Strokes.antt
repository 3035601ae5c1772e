-- What a character written does (01, "Screen cells"). Assumes nothing.
use Rattle.std.specs.Prelude.{Some, ℕ, zero, suc}
use Rattle.screen_motion.specs.Moves.{right_of}
use Rattle.screen_cells.specs.declared.Character.{Character}
use Rattle.screen_writing.specs.Writing.{written}
use Rattle.screen_pen.specs.declared.Pen.{Pen}
use Rattle.screen_pen.specs.declared.Stroke.{Stroke}

-- the pen after a character
abbrev pub after : Pen → Character → Pen
after p c =
    record {
      here = record { place = right_of p.here.place; attributes = (written p.here.attributes c).attributes };
      kept = p.kept;
      last = Some c;
      sequence = p.sequence;
      shown = p.shown;
    }

-- the character has the attributes that are in force with it; "write a cell and move right"
abbrev pub stroke : Pen → Character → Stroke
stroke p c = record { cell = (written p.here.attributes c).cell; pen = after p c }

-- after the same character n times
unfoldable pub after_times : Pen → Character → ℕ → Pen
after_times p c zero = p
after_times p c (suc n) = after (after_times p c n) c
