-- "the last character written" (01, "Screen cells"). Assumes nothing.
use Rattle.std.specs.Prelude.{Option, Some}
use Rattle.screen_cells.specs.declared.Character.{Character}
use Rattle.screen_sequences.specs.declared.Order.{Order}
use Rattle.screen_sequences.specs.declared.Order.TheVariants.{Skip, Left, Right, Up, Down, First, Clear, Home}
use Rattle.screen_sequences.specs.declared.Order.TheVariants.{ShiftOut, ShiftIn, Show, Hide, Pair, Go, Write}
use Rattle.screen_sequences.specs.declared.Order.TheVariants.{Second, Again}
use Rattle.screen_cells.specs.Characters.{character}
use Rattle.screen_pen.specs.declared.Pen.{Pen}

-- by what is ordered: a character, of the current set or of G2; every other order leaves it, REP too, which writes it
abbrev pub last_after : Pen → Order → Option Character
last_after p (Write d) = Some (character p.here.attributes.set d)
last_after p (Second d) = Some (character 2 d)
last_after p (Again n) = p.last
last_after p (Pair c) = p.last
last_after p (Go r c) = p.last
last_after p Skip = p.last
last_after p Left = p.last
last_after p Right = p.last
last_after p Up = p.last
last_after p Down = p.last
last_after p First = p.last
last_after p Clear = p.last
last_after p Home = p.last
last_after p ShiftOut = p.last
last_after p ShiftIn = p.last
last_after p Show = p.last
last_after p Hide = p.last
