-- What a value does to the pen (01, "Screen cells"). Assumes nothing.
use Rattle.std.specs.Prelude.{cond, ℕ, ltb}
use Rattle.screen_sequences.specs.declared.Order.{Order}
use Rattle.screen_sequences.specs.Sequences.{heard}
use Rattle.screen_pen.specs.declared.Pen.{Pen}
use Rattle.screen_pen.specs.Pens.{in_range}
use Rattle.screen_pen.specs.Strokes.{after_times}
use Rattle.screen_planning.specs.declared.Asked.{Asked}
use Rattle.screen_planning.specs.declared.Asked.TheVariants.{Nothing, Blank, Put}
use Rattle.screen_planning.specs.declared.Planned.{Planned}
use Rattle.screen_planning.specs.Changing.{with_sequence}
use Rattle.screen_planning.specs.Obeying.{keeps, obeyed}

-- what a value orders, with what was unfinished
abbrev pub ordered : Pen → ℕ → Order
ordered p b = (heard p.sequence b).order

-- and what is unfinished then
abbrev pub unfinished : Pen → ℕ → Pen
unfinished p b = with_sequence p (heard p.sequence b).sequence

-- one value of 0 to 127 for a pen in range: what is heard is obeyed
abbrev pub planned : Pen → ℕ → Planned
planned p b = obeyed (unfinished p b) (ordered p b)

-- any value, any pen: a value above 127, or a pen out of range, changes nothing and asks nothing
abbrev pub plan : Pen → ℕ → Planned
plan p b = cond (ltb 127 b) (keeps p) (cond (in_range p) (planned p b) (keeps p))

-- ---- the pen after one value

-- after what was asked is done
abbrev pub finished : Pen → Asked → Pen
finished p Nothing = p
finished p Blank = p
finished p (Put c n) = after_times p c n

-- after an order, with all that it asks
abbrev pub after_order : Pen → Order → Pen
after_order p o = finished (obeyed p o).pen (obeyed p o).asked

abbrev pub pen_after : Pen → ℕ → Pen
pen_after p b = after_order (unfinished p b) (ordered p b)
