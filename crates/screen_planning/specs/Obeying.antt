-- What each order does to the pen, and what it asks of the cells (01, "Screen cells"). Assumes nothing.
use Rattle.std.specs.Prelude.{Option, Some, None, true, false, cond, ℕ, eqb}
use Rattle.screen_cursor.specs.declared.Place.{Place}
use Rattle.screen_cursor.specs.Places.{home}
use Rattle.screen_motion.specs.Moves.{left_of, right_of, up_of, down_of, first_of}
use Rattle.screen_addresses.specs.Addressing.{addressed}
use Rattle.screen_sequences.specs.declared.Order.{Order}
use Rattle.screen_sequences.specs.declared.Order.TheVariants.{Skip, Left, Right, Up, Down, First, Clear, Home}
use Rattle.screen_sequences.specs.declared.Order.TheVariants.{ShiftOut, ShiftIn, Show, Hide, Pair, Go, Write}
use Rattle.screen_sequences.specs.declared.Order.TheVariants.{Second, Again}
use Rattle.screen_cells.specs.declared.Character.{Character}
use Rattle.screen_cells.specs.Characters.{character}
use Rattle.screen_attributes.specs.Attributing.{start_of, shifted_out, shifted_in}
use Rattle.screen_escapes.specs.Pairing.{paired}
use Rattle.screen_pen.specs.declared.Pen.{Pen}
use Rattle.screen_planning.specs.declared.Asked.{Asked}
use Rattle.screen_planning.specs.declared.Asked.TheVariants.{Nothing, Blank, Put}
use Rattle.screen_planning.specs.declared.Planned.{Planned}
use Rattle.screen_planning.specs.Changing.{with_here, with_place, with_attributes, with_kept, with_shown}

-- ---- what is asked

abbrev pub asks : Pen → Asked → Planned
asks p o = record { pen = p; asked = o }

abbrev pub keeps : Pen → Planned
keeps p = asks p Nothing

abbrev pub puts : Pen → Character → ℕ → Planned
puts p c n = asks p (Put c n)

-- "the last character written, its set and code, is written n minus 64 times more"; "Only a fresh screen has no last
-- character; then nothing happens"
abbrev pub repeats : Option Character → ℕ → Asked
repeats None n = Nothing
repeats (Some c) n = Put c n

abbrev pub again : Pen → Option Character → ℕ → Planned
again p l n = asks p (repeats l n)

-- ---- moves

-- "cursor there, start attributes"
abbrev pub start_at : Pen → Place → Pen
start_at p x = with_here p (record { place = x; attributes = start_of })

-- LF; in row 0 it "returns to the place and attributes held before the last US that entered row 0 from another row"
abbrev pub lowered : Pen → Pen
lowered p =
    cond (eqb p.here.place.row 0)
    (with_here p p.kept)
    (with_place p (down_of p.here.place))

abbrev pub keeping : Pen → Pen
keeping p = with_kept p p.here

-- what is held is kept where US enters row 0 from another row
abbrev pub entering : Pen → ℕ → Pen
entering p r = cond (eqb r 0) (cond (eqb p.here.place.row 0) p (keeping p)) p

-- US: "cursor there, start attributes; else all three dropped"
unfoldable pub gone : Pen → Option Place → Pen
gone p None = p
gone p (Some x) = start_at (entering p x.row) x

-- ---- each order

unfoldable pub obeyed : Pen → Order → Planned
obeyed p Skip = keeps p
obeyed p Left = keeps (with_place p (left_of p.here.place))
obeyed p Right = keeps (with_place p (right_of p.here.place))
obeyed p Up = keeps (with_place p (up_of p.here.place))
obeyed p Down = keeps (lowered p)
obeyed p First = keeps (with_place p (first_of p.here.place))
-- "FF: rows 1 to 24 blank, row 0 kept; cursor to row 1, column 1; start attributes. RS: the same without blanking"
obeyed p Clear = asks (start_at p home) Blank
obeyed p Home = keeps (start_at p home)
obeyed p ShiftOut = keeps (with_attributes p (shifted_out p.here.attributes))
obeyed p ShiftIn = keeps (with_attributes p (shifted_in p.here.attributes))
-- "CON (1/1) and COFF (1/4) show and hide the cursor"
obeyed p Show = keeps (with_shown p true)
obeyed p Hide = keeps (with_shown p false)
obeyed p (Pair c) = keeps (with_attributes p (paired p.here.attributes c))
obeyed p (Go r c) = keeps (gone p (addressed r c))
-- "Codes 2/0 to 7/F write a cell and move right"
obeyed p (Write d) = puts p (character p.here.attributes.set d) 1
obeyed p (Second d) = puts p (character 2 d) 1
obeyed p (Again n) = again p p.last n
