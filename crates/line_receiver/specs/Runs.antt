-- A whole run: what happens to a receiver, call by call, and what goes out. Assumes nothing.
use Rattle.std.specs.Prelude.{Bool, true, false, cond, List, [], ◌∷◌, ◌++◌, ℕ, ◌+◌, eqb, length, Option}
use Rattle.few.specs.Bytes.{contents}
use Rattle.block_reader.specs.declared.Verdict.{Verdict}
use Rattle.line_receiver.specs.declared.Receiver.{Receiver}
use Rattle.line_receiver.specs.declared.Stepped.{Stepped}
use Rattle.line_receiver.specs.Calls.{stepped, switched_on, switched_off, asked_again}

-- a byte arrives, or the host calls
pub data Event : Type 0 where
  byte : ℕ → Event
  on : Event
  off : Event
  ask : Event

-- what the call hands back
abbrev pub obey : Event → Receiver → Stepped
obey (byte b) r = stepped r b
obey on r = switched_on r
obey off r = switched_off r
obey ask r = asked_again r

-- the state after a run
abbrev pub run : Receiver → List Event → Receiver
run r [] = r
run r (e ∷ es) = run (obey e r).next es

-- ---- what goes out

-- at one call: the values passed on, the bytes for the modem, and what was judged
pub record Sent : Type 0 where
  pub passed : List ℕ
  pub asked : List ℕ
  pub judged : Option Verdict

abbrev pub sent_by : Stepped → Sent
sent_by s =
    record { passed = contents s.values; asked = contents s.request; judged = s.judged }

-- at each call of a run
abbrev pub sent : Receiver → List Event → List Sent
sent r [] = []
sent r (e ∷ es) = sent_by (obey e r) ∷ sent (obey e r).next es

-- all the values passed on, in their order, and all the bytes for the modem
abbrev pub all_passed : List Sent → List ℕ
all_passed [] = []
all_passed (o ∷ os) = o.passed ++ all_passed os

abbrev pub all_asked : List Sent → List ℕ
all_asked [] = []
all_asked (o ∷ os) = o.asked ++ all_asked os

-- ---- the events of a run

abbrev pub switches : Event → Bool
switches (byte b) = false
switches on = true
switches off = true
switches ask = false

-- the host does not switch: bytes, and asking again
abbrev pub unswitched : List Event → Bool
unswitched [] = true
unswitched (e ∷ es) = cond (switches e) false (unswitched es)

-- the bytes of a run
abbrev pub bytes_of : List Event → List ℕ
bytes_of [] = []
bytes_of (byte b ∷ es) = b ∷ bytes_of es
bytes_of (on ∷ es) = bytes_of es
bytes_of (off ∷ es) = bytes_of es
bytes_of (ask ∷ es) = bytes_of es

-- ---- accepted blocks

-- a call at which fifteen values pass has accepted a block
abbrev pub blocks_in : Sent → ℕ
blocks_in o = cond (eqb (length o.passed) 15) 1 0

-- n blocks, and those accepted in a run; counted afresh from each switching, on or off
abbrev pub blocks_since : ℕ → Receiver → List Event → ℕ
blocks_since n r [] = n
blocks_since n r (e ∷ es) =
    blocks_since (cond (switches e) 0 (n + blocks_in (sent_by (obey e r)))) (obey e r).next es
