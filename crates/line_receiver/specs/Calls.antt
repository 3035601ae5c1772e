-- What each call does to a receiver, and all that goes out (01, "The receiver"). Assumes nothing.
use Rattle.std.specs.Prelude.{Bool, true, false, cond, List, [], ◌∷◌, ℕ, ◌+◌, set, Option, Some, None, Result, Ok, Err}
use Rattle.few.specs.Bytes.{few}
use Rattle.block_maker.specs.Making.{values_of}
use Rattle.block_reader.specs.declared.Verdict.{Verdict}
use Rattle.block_reader.specs.declared.Verdict.TheVariants.{Clean, Mended, Repeat, WrongLength}
use Rattle.block_reader.specs.Judging.{verdict, left}
use Rattle.line_codes.specs.declared.Listened.{Listened}
use Rattle.line_codes.specs.declared.Listened.TheVariants.{Seen, Resumed}
use Rattle.line_phases.specs.Phases.{awaits_more}
use Rattle.line_codes.specs.Codes.{plainly, next, request, listened}
use Rattle.line_phases.specs.declared.Phase.{Phase}
use Rattle.line_phases.specs.declared.Phase.TheVariants.{Off, Collecting, Waiting}
use Rattle.line_receiver.specs.declared.Receiver.{Receiver}
use Rattle.line_receiver.specs.declared.Broken.{Broken}
use Rattle.line_receiver.specs.declared.Stepped.{Stepped}
use Rattle.line_receiver.specs.States.{in_range, emptied}

-- ---- what a call hands back

-- the number of each answer
abbrev pub answer_number : Result (Unit {0}) Broken → ℕ
answer_number (Ok u) = 0
answer_number (Err b) = 5

-- the answer, the next state, the values passed on, the bytes for the modem and what was judged
abbrev pub giving : Result (Unit {0}) Broken → Receiver → List ℕ → List ℕ → Option Verdict → Stepped
giving answer next vs qs j =
    record { next = next; answer = answer; values = few 15 vs; request = few 2 qs; judged = j }

-- nothing goes out
abbrev pub silent : Receiver → Stepped
silent r = giving (Ok tt) r [] [] None

-- "broken state .. that state handed back"
abbrev pub refused : Receiver → Stepped
refused r = giving (Err (record {})) r [] [] None

-- off: one value passes
abbrev pub passing : Receiver → ℕ → Stepped
passing r v = giving (Ok tt) r (v ∷ []) [] None

-- the request for the block awaited goes to the modem
abbrev pub asking : Receiver → Stepped
asking r = giving (Ok tt) r [] (request r.number) None

-- ---- collecting

-- "the byte is held"
abbrev pub holding : Receiver → ℕ → Receiver
holding r b =
    record { held = set r.held r.count b; count = r.count + 1; number = r.number; phase = r.phase }

-- the seventeen bytes: those held, and the last
abbrev pub whole : Receiver → ℕ → List ℕ
whole r b = set r.held 16 b

-- "Clean or mended: its fifteen values are passed on without parity, the number rises by one (15 becomes 0) and
-- nothing is held"
abbrev pub accepted : ℕ → List ℕ → Verdict → Stepped
accepted x vs v = giving (Ok tt) (emptied (next x) Collecting) vs [] (Some v)

-- "Repeat: nothing is passed on; the request .. goes to the modem .., X being the unchanged number; phase waiting,
-- nothing held or seen"
abbrev pub repeated : ℕ → Verdict → Stepped
repeated x v = giving (Ok tt) (emptied x (Waiting 0)) [] (request x) (Some v)

-- "clean or mended" (a held block has seventeen bytes, so its length is never wrong)
abbrev pub accepts : Verdict → Bool
accepts Clean = true
accepts (Mended k) = true
accepts Repeat = false
accepts WrongLength = false

-- accepted or refused, as the verdict is
abbrev pub judged_as : Verdict → ℕ → List ℕ → Stepped
judged_as v x vs = cond (accepts v) (accepted x vs v) (repeated x v)

-- the verdict on the seventeen bytes, and the values of the block that is left
abbrev pub judged_held : Receiver → ℕ → Stepped
judged_held r b = judged_as (verdict (whole r b)) r.number (values_of (left (whole r b)))

-- "Collecting: the byte is held. At the 17th the block is judged"
abbrev pub collecting : Receiver → ℕ → Stepped
collecting r b = cond (awaits_more r.count) (silent (holding r b)) (judged_held r b)

-- ---- waiting

-- n synchronising codes seen
abbrev pub waiting : Receiver → ℕ → Receiver
waiting r n = record { held = r.held; count = r.count; number = r.number; phase = Waiting n }

-- "bytes are dropped until the last three .. are SYN (1/6), SYN, 4/X with parity. Then collecting, nothing held or
-- seen"
abbrev pub listening : Listened → Receiver → Receiver
listening (Seen n) r = waiting r n
listening Resumed r = emptied r.number Collecting

-- ---- the four calls

-- a byte, as the phase is
abbrev pub by_phase : Phase → Receiver → ℕ → Stepped
by_phase Off r b = passing r (plainly b)
by_phase Collecting r b = collecting r b
by_phase (Waiting n) r b = silent (listening (listened r.number n b) r)

-- a broken state is refused before its phase is looked at
abbrev pub stepped : Receiver → ℕ → Stepped
stepped r b = cond (in_range r) (by_phase r.phase r b) (refused r)

-- "starts afresh": number 0, nothing held or seen
abbrev pub switched_to : Phase → Receiver → Stepped
switched_to p r = cond (in_range r) (silent (emptied 0 p)) (refused r)

-- "Switched on: collecting, number 0, nothing held or seen", "also when already on"
abbrev pub switched_on : Receiver → Stepped
switched_on r = switched_to Collecting r

-- "Switching off, from any phase, gives off, number 0, nothing held or seen"
abbrev pub switched_off : Receiver → Stepped
switched_off r = switched_to Off r

-- "in waiting it gives the same two request bytes and changes nothing; elsewhere it gives none"
abbrev pub again_by : Phase → Receiver → Stepped
again_by Off r = silent r
again_by Collecting r = silent r
again_by (Waiting n) r = asking r

abbrev pub asked_again : Receiver → Stepped
asked_again r = cond (in_range r) (again_by r.phase r) (refused r)
