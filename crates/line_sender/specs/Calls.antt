-- What each call of the sender does to it, tells and writes (02, request 8; 01, "Numbers given"). Assumes nothing.
use Rattle.std.specs.Prelude.{Bool, false, cond, ◌&&◌, ◌||◌, not, List, [], ◌∷◌, ◌++◌, ℕ, ◌+◌, ◌-◌, ◌*◌, ◌%◌, eqb, ltb, length, get_or, drop, Result, Ok, Err}
use Rattle.numbers.specs.Numbers.{Conditions, number_of, Told}
use Rattle.values.specs.Large.{first_large}
use Rattle.block_maker.specs.declared.Unmade.{Unmade}
use Rattle.block_maker.specs.Making.{block_of}
use Rattle.line_codes.specs.Codes.{syn, nack, four}
use Rattle.line_sender.specs.declared.Sender.{Sender}
use Rattle.line_sender.specs.declared.Sent.{Sent}
use Rattle.line_sender.specs.declared.Resent.{Resent}
use Rattle.line_sender.specs.declared.Reply.{Reply}
use Rattle.line_sender.specs.declared.Reply.TheVariants.{Again, NotKept, NoRequest}
use Rattle.line_sender.specs.declared.Refusal.{Refusal}
use Rattle.line_sender.specs.declared.Refusal.TheVariants.{WrongLength, Broken, TooLarge, NoRoom}
use Rattle.line_sender.specs.States.{in_range, stored, keeping}

-- ---- refusals

-- the refusal that has the number n, 1, 5, 2 or 4; number 2 names the place
abbrev pub refusal : ℕ → ℕ → Refusal
refusal n place =
    cond (eqb n 1) WrongLength (cond (eqb n 5) Broken (cond (eqb n 2) (TooLarge place) NoRoom))

-- the number of each, and what it names
abbrev pub told_of : Refusal → Told
told_of WrongLength = record { number = 1; named = [] }
told_of Broken = record { number = 5; named = [] }
told_of (TooLarge place) = record { number = 2; named = place ∷ [] }
told_of NoRoom = record { number = 4; named = [] }

-- what an answer tells
abbrev pub told : {A : Type 0} → Result A Refusal → Told
told (Ok a) = record { number = 0; named = [] }
told (Err e) = told_of e

-- that of a block that was not made
abbrev pub refused_for : Unmade → Refusal
refused_for Unmade.WrongLength = WrongLength
refused_for (Unmade.TooLarge place) = TooLarge place
refused_for Unmade.NoRoom = NoRoom

-- ---- send: one block of values vs, the output being O

abbrev pub send_conditions : Sender → List ℕ → List ℕ → Conditions
send_conditions s vs O =
    record {
      wrong_length = eqb (length vs) 0 || ltb 15 (length vs);
      broken_state = not (in_range s);
      too_large = ltb (first_large vs) (length vs);
      no_room = ltb (length O) 17;
      repeat = false;
    }

abbrev pub send_number : Sender → List ℕ → List ℕ → ℕ
send_number s vs O = number_of (send_conditions s vs O)

-- what the answer tells: number 2 names the lowest place
abbrev pub sent_told : Sender → List ℕ → List ℕ → Told
sent_told s vs O =
    record { number = send_number s vs O; named = cond (eqb (send_number s vs O) 2) (first_large vs ∷ []) [] }

-- the block is kept under the next number; a refusal changes nothing, and number 2 names the lowest place
abbrev pub sent_as : ℕ → Sender → List ℕ → Sent
sent_as n s vs =
    cond (eqb n 0) (record { sender = keeping s (block_of vs); answer = Ok tt })
    (record { sender = s; answer = Err (refusal n (first_large vs)) })

abbrev pub sent_by : Sender → List ℕ → List ℕ → Sent
sent_by s vs O = sent_as (send_number s vs O) s vs

-- the next sender, or why there is none, as `send` hands it back
abbrev pub with_answer : Sender → Result Sender Refusal → Sent
with_answer s (Ok next) = record { sender = next; answer = Ok tt }
with_answer s (Err e) = record { sender = s; answer = Err e }

abbrev pub sent_left : Sender → List ℕ → List ℕ → List ℕ
sent_left s vs O = cond (eqb (send_number s vs O) 0) (block_of vs ++ drop 17 O) O

-- ---- resend: a request qs, the output being O

-- "a well-formed request": NACK and 4/X, both with parity; X is the last four bits
abbrev pub wanted : List ℕ → ℕ
wanted qs = get_or qs 1 0 % 16

abbrev pub well_formed : List ℕ → Bool
well_formed qs = eqb (get_or qs 0 0) nack && eqb (get_or qs 1 0) (four (wanted qs))

-- how many kept blocks stand before the one of number x: those kept have the numbers before the next, modulo 16
abbrev pub before : Sender → ℕ → ℕ
before s x = (x + s.kept + 16 - s.next) % 16

abbrev pub is_kept : Sender → ℕ → Bool
is_kept s x = ltb (before s x) s.kept

-- "SYN, SYN, 4/X and every kept block from that one on, in order"
abbrev pub from_on : Sender → ℕ → List ℕ
from_on s x = syn ∷ syn ∷ four x ∷ drop (17 * before s x) (stored s)

-- "A request for a number not kept gets no bytes and says so"
abbrev pub reply_to : Sender → List ℕ → Reply
reply_to s qs =
    let x = wanted qs in
    cond (well_formed qs) (cond (is_kept s x) (Again (length (from_on s x))) NotKept) NoRequest

abbrev pub bytes_for : Reply → Sender → ℕ → List ℕ
bytes_for (Again n) s x = from_on s x
bytes_for NotKept s x = []
bytes_for NoRequest s x = []

abbrev pub bytes_to : Sender → List ℕ → List ℕ
bytes_to s qs = bytes_for (reply_to s qs) s (wanted qs)

abbrev pub resend_conditions : Sender → List ℕ → List ℕ → Conditions
resend_conditions s qs O =
    record {
      wrong_length = not (eqb (length qs) 2);
      broken_state = not (in_range s);
      too_large = false;
      no_room = ltb (length O) (length (bytes_to s qs));
      repeat = false;
    }

abbrev pub resend_number : Sender → List ℕ → List ℕ → ℕ
resend_number s qs O = number_of (resend_conditions s qs O)

abbrev pub resent_told : Sender → List ℕ → List ℕ → Told
resent_told s qs O = record { number = resend_number s qs O; named = [] }

-- the number of bytes written
abbrev pub written : Result Reply Refusal → ℕ
written (Ok (Again n)) = n
written (Ok NotKept) = 0
written (Ok NoRequest) = 0
written (Err e) = 0

abbrev pub reply_as : ℕ → Sender → List ℕ → Result Reply Refusal
reply_as n s qs = cond (eqb n 0) (Ok (reply_to s qs)) (Err (refusal n 0))

abbrev pub reply_by : Sender → List ℕ → List ℕ → Result Reply Refusal
reply_by s qs O = reply_as (resend_number s qs O) s qs

-- "A repeated request changes no stored block and no next number"
abbrev pub resent_by : Sender → List ℕ → List ℕ → Resent
resent_by s qs O = record { sender = s; reply = reply_by s qs O }

abbrev pub resent_left : Sender → List ℕ → List ℕ → List ℕ
resent_left s qs O =
    cond (eqb (resend_number s qs O) 0) (bytes_to s qs ++ drop (length (bytes_to s qs)) O) O
