-- What the sender hears of the return line, byte by byte (02, request 8; 001, part 1, section 5.2.4). Assumes nothing.
use Rattle.std.specs.Prelude.{Bool, true, false, cond, not, List, [], ◌∷◌, ◌++◌, ℕ, eqb, Result, Ok, Err}
use Rattle.few.specs.Bytes.{few}
use Rattle.numbers.specs.Numbers.{Conditions, refusable}
use Rattle.line_codes.specs.Codes.{plainly, nack}
use Rattle.line_sender.specs.declared.Sender.{Sender}
use Rattle.line_receiver.specs.declared.Broken.{Broken}
use Rattle.line_sender.specs.declared.Heard.{Heard}
use Rattle.line_sender.specs.States.{in_range}
use Rattle.line_sender.specs.Calls.{well_formed}

-- whether a NACK is held; all else stays
abbrev pub holding : Sender → Bool → Sender
holding s t = record { blocks = s.blocks; kept = s.kept; next = s.next; nack = t }

-- the answer, the next state, the values that pass on, and the bytes of a request that is whole
abbrev pub giving : Result (Unit {0}) Broken → Sender → List ℕ → List ℕ → Heard
giving answer s vs qs = record { sender = s; answer = answer; values = few 2 vs; request = few 2 qs }

-- a byte by itself, behind values that pass: a NACK is held until its next byte; any other passes on without parity,
-- and as 7/F where its parity is odd
abbrev pub heard_alone : Sender → List ℕ → ℕ → Heard
heard_alone s vs b =
    cond (eqb b nack) (giving (Ok tt) (holding s true) vs []) (giving (Ok tt) (holding s false) (vs ++ (plainly b ∷ [])) [])

-- a byte behind a NACK: they are a request; or the NACK begins none and passes on as the value 1/5, and the byte is
-- looked at by itself
abbrev pub heard_behind : Sender → ℕ → Heard
heard_behind s b =
    cond (well_formed (nack ∷ b ∷ [])) (giving (Ok tt) (holding s false) [] (nack ∷ b ∷ []))
    (heard_alone s (21 ∷ []) b)

-- nothing is refused but a broken state
abbrev pub hear_conditions : Sender → Conditions
hear_conditions s = refusable (not (in_range s)) false

-- a broken state is handed back
abbrev pub heard_by : Sender → ℕ → Heard
heard_by s b = cond (in_range s) (cond s.nack (heard_behind s b) (heard_alone s [] b)) (giving (Err (record {})) s [] [])
