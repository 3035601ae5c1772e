-- The phases of the line receiver, what completes a block, and the ranges of what it counts (01, "The receiver").
-- Assumes nothing.
use Rattle.std.specs.Prelude.{Bool, true, ◌&&◌, ℕ, ltb}
use Rattle.line_phases.specs.declared.Phase.{Phase}
use Rattle.line_phases.specs.declared.Phase.TheVariants.{Off, Collecting, Waiting}

-- "A new receiver is off"
abbrev pub at_start : Phase
at_start = Off

-- "the byte is held. At the 17th the block is judged": with so many held, the next byte is not the 17th
abbrev pub awaits_more : ℕ → Bool
awaits_more count = ltb count 16

-- "in waiting, synchronising codes seen 0 to 2"
abbrev pub seen_in_range : Phase → Bool
seen_in_range Off = true
seen_in_range Collecting = true
seen_in_range (Waiting n) = ltb n 3

-- "Ranges: block number 0 to 15; held bytes 0 to 16; phase off, collecting or waiting; in waiting, synchronising
-- codes seen 0 to 2"
abbrev pub in_range : ℕ → ℕ → Phase → Bool
in_range number count phase = ltb number 16 && (ltb count 17 && seen_in_range phase)
