-- A note on each byte: what it was to the receiver (01, "The receiver"). Assumes nothing.
use Rattle.std.specs.Prelude.{List, [], ◌∷◌, ℕ, ◌+◌, ◌%◌, Option, Some, None}
use Rattle.line_phases.specs.declared.Phase.{Phase}
use Rattle.line_phases.specs.declared.Phase.TheVariants.{Off, Collecting, Waiting}
use Rattle.block_reader.specs.declared.Verdict.{Verdict}
use Rattle.block_reader.specs.declared.Verdict.TheVariants.{Clean, Mended, Repeat, WrongLength}
use Rattle.line_receiver.specs.declared.Receiver.{Receiver}
use Rattle.line_receiver.specs.declared.Stepped.{Stepped}
use Rattle.line_receiver.specs.Calls.{stepped}

-- "At the 17th the block is judged": 1 clean, 2 repeat, and 128 more than the bit where one is mended (a bit is below
-- 128)
abbrev pub verdict_note : Verdict → ℕ
verdict_note Clean = 1
verdict_note (Mended k) = 128 + k % 128
verdict_note Repeat = 2
verdict_note WrongLength = 2

-- "Waiting: bytes are dropped until ..": 3 while the receiver still waits behind it, 4 on the last code of a resumption
abbrev pub wait_note : Phase → ℕ
wait_note Off = 4
wait_note Collecting = 4
wait_note (Waiting n) = 3

-- 0 where there is nothing to note: it passed by itself, or was held
abbrev pub silent_note : Phase → Phase → ℕ
silent_note Off after = 0
silent_note Collecting after = 0
silent_note (Waiting n) after = wait_note after

abbrev pub note_by : Option Verdict → Phase → Phase → ℕ
note_by None before after = silent_note before after
note_by (Some v) before after = verdict_note v

-- on a byte heard in this phase, by what came of it
abbrev pub note_on : Phase → Stepped → ℕ
note_on before s = note_by s.judged before s.next.phase

abbrev pub note_of : Receiver → ℕ → ℕ
note_of r x = note_on r.phase (stepped r x)

-- on each byte, one after the other
abbrev pub notes_of : Receiver → List ℕ → List ℕ
notes_of r [] = []
notes_of r (x ∷ xs) = note_of r x ∷ notes_of (stepped r x).next xs
