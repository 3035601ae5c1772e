-- A whole run: what a sender has sent and heard, call after call. Assumes nothing.
use Rattle.std.specs.Prelude.{cond, List, [], ◌∷◌, ◌++◌, map, ℕ, ◌-◌, length, take, drop, is_ok}
use Rattle.few.specs.Bytes.{contents}
use Rattle.block_maker.specs.Making.{block_of}
use Rattle.line_codes.specs.Codes.{plainly, nack}
use Rattle.line_sender.specs.declared.Sender.{Sender}
use Rattle.line_sender.specs.declared.Heard.{Heard}
use Rattle.line_sender.specs.Calls.{sent_by, written, resent_by, resent_left}
use Rattle.line_sender.specs.Hearing.{heard_by}

-- values to send or a request to answer, each with the output lent, or a byte heard
pub data Call : Type 0 where
  send : List ℕ → List ℕ → Call
  resend : List ℕ → List ℕ → Call
  hear : ℕ → Call

abbrev pub obey : Call → Sender → Sender
obey (send vs O) s = (sent_by s vs O).sender
obey (resend qs O) s = (resent_by s qs O).sender
obey (hear b) s = (heard_by s b).sender

-- the state after a run
abbrev pub after : Sender → List Call → Sender
after s [] = s
after s (c ∷ cs) = after (obey c s) cs

-- ---- the blocks sent in it

-- one for each send that is answered with 0
abbrev pub made_by : Call → Sender → List (List ℕ)
made_by (send vs O) s = cond (is_ok (sent_by s vs O).answer) (block_of vs ∷ []) []
made_by (resend qs O) s = []
made_by (hear b) s = []

abbrev pub made : Sender → List Call → List (List ℕ)
made s [] = []
made s (c ∷ cs) = made_by c s ++ made (obey c s) cs

-- "keeps the last sixteen"
abbrev pub last_sixteen : List (List ℕ) → List (List ℕ)
last_sixteen Ws = drop (length Ws - 16) Ws

-- a sender that was handed these values, a list after the other, each with an output O
abbrev pub having_sent : Sender → List ℕ → List (List ℕ) → Sender
having_sent s O uss = after s (map (λ (us : List ℕ). send us O) uss)

-- ---- what it hears

-- at one call: the values that pass on, and the request that is whole
abbrev pub passed_in : Heard → List ℕ
passed_in h = contents h.values

abbrev pub asked_in : Heard → List ℕ
asked_in h = contents h.request

-- the state after bytes heard one after the other
abbrev pub hearing_all : Sender → List ℕ → Sender
hearing_all s [] = s
hearing_all s (b ∷ bs) = hearing_all (heard_by s b).sender bs

-- what became of the bytes, in their order: those that passed, and those of requests, without parity
abbrev pub told : Sender → List ℕ → List ℕ
told s [] = []
told s (b ∷ bs) = passed_in (heard_by s b) ++ map plainly (asked_in (heard_by s b)) ++ told (heard_by s b).sender bs

-- the NACK held, if one is
abbrev pub held_back : Sender → List ℕ
held_back s = cond s.nack (plainly nack ∷ []) []

-- ---- what it answers, the output being O

-- the bytes with which it answers a request
abbrev pub answer_to : Sender → List ℕ → List ℕ → List ℕ
answer_to s qs O = take (written (resent_by s qs O).reply) (resent_left s qs O)

-- those with which it answers bytes heard one after the other, each request that is whole
abbrev pub answers_to : Sender → List ℕ → List ℕ → List ℕ
answers_to s [] O = []
answers_to s (b ∷ bs) O =
    answer_to (heard_by s b).sender (asked_in (heard_by s b)) O ++ answers_to (heard_by s b).sender bs O
