-- A run: calls one after another, and what each sender says and each receiver gets in it. Assumes nothing.
use Rattle.std.specs.Prelude.{◌≡◌, Ok, Bool, true, false, cond, not, List, [], ◌∷◌, ◌++◌, ℕ, ltb}
use Rattle.numbers.specs.Numbers.{Told, told_of}
use Rattle.values.specs.Large.{Values}
use Rattle.links_wiring.specs.declared.Module.{Module}
use Rattle.links_wiring.specs.Modules.{same}
use Rattle.links_wiring.specs.Tables.{reaches, NoneItself}
use Rattle.links_replies.specs.Replies.{reply_of}
use Rattle.links_hearing.specs.declared.Unfinished.TheVariants.{Free}
use Rattle.links_hearing.specs.Hearing.{codes_of}
use Rattle.links_sending.specs.Sending.{gets}
use Rattle.links.specs.declared.Links.{Links}
use Rattle.links_hearing.specs.declared.ears.Ear.{Ear}
use Rattle.links_hearing.specs.declared.ears.Ear.TheVariants.{Modem as modem, Socket as socket}
use Rattle.links.specs.declared.Outcome.{Outcome}
use Rattle.links_hearing.specs.Ears.{name_of}
use Rattle.links.specs.States.{unfinished, left, in_range}
use Rattle.links.specs.Calls.{with_local, with_connected, from_keyboard, from_ear}

abbrev pub other : Ear → Ear
other modem = socket
other socket = modem

abbrev pub same_ear : Ear → Ear → Bool
same_ear modem modem = true
same_ear modem socket = false
same_ear socket modem = false
same_ear socket socket = true

-- ---- calls

-- a key; a value from modem or socket; the host's choice of a table
pub data Call : Type 0 where
  key : ℕ → Call
  value : Ear → ℕ → Call
  to_local : Call
  to_connected : Call

abbrev pub obey : Call → Links → Outcome
obey (key v) l = from_keyboard l v
obey (value e v) l = from_ear l e v
obey to_local l = with_local l
obey to_connected l = with_connected l

-- what a receiver gets from a call
abbrev pub given : Links → Call → Module → List ℕ
given l c receiver = gets (obey c l).sent receiver

-- the state after a run
abbrev pub run : Links → List Call → Links
run l [] = l
run l (c ∷ cs) = run (obey c l).next cs

-- whether a call is an ear's
abbrev pub is_from : Ear → Call → Bool
is_from e (key v) = false
is_from e (value f v) = same_ear e f
is_from e to_local = false
is_from e to_connected = false

-- what an ear says in a run: its values of 0 to 127, for any other is refused
abbrev pub said_at : Ear → Call → List ℕ
said_at e (key v) = []
said_at e (value f v) = cond (same_ear e f) (cond (ltb 127 v) [] (v ∷ [])) []
said_at e to_local = []
said_at e to_connected = []

abbrev pub said : Ear → List Call → List ℕ
said e [] = []
said e (c ∷ cs) = said_at e c ++ said e cs

-- what a module gets in a run through the calls of an ear
abbrev pub got_from : Ear → Module → Links → List Call → List ℕ
got_from e receiver l [] = []
got_from e receiver l (c ∷ cs) = cond (is_from e c) (given l c receiver) [] ++ got_from e receiver (obey c l).next cs

-- a sender is linked to a receiver at each call of a run
abbrev pub Throughout : Module → Module → Links → List Call → Type 0
Throughout sender receiver l [] = Unit {0}
Throughout sender receiver l (c ∷ cs) =
    (reaches l.table sender receiver ≡ true) × Throughout sender receiver (obey c l).next cs

-- ---- ranges and numbers

-- "A module is never linked to itself"; "each at most 127"
pub record InLinks (l : Links) : Type 0 where
  pub none_itself : NoneItself l.table
  pub small : (e : Ear) → Values (codes_of (unfinished l e))

-- whether a call hands in a value above 127
abbrev pub too_large : Call → Bool
too_large (key v) = ltb 127 v
too_large (value e v) = ltb 127 v
too_large to_local = false
too_large to_connected = false

-- "a state handed in lies outside the ranges .. or links a module to itself"; "a value handed to .. links is above 127"
abbrev pub call_told : Call → Links → Told
call_told c l = told_of (not (in_range l)) (too_large c) 0

-- ---- claims

-- from a state in range with nothing unfinished from an ear, a run in which it says these values, whatever else is
-- called in between
pub record Says (e : Ear) (l : Links) (cs : List Call) (vs : List ℕ) : Type 0 where
  pub range : InLinks l
  pub free : unfinished l e ≡ Free
  pub values : said e cs ≡ vs

-- a call is taken: just the receivers that a sender reaches by the table of the moment get these bytes, and this is the
-- state after it
pub record PassedOn (l : Links) (c : Call) (sender : Module) (vs : List ℕ) (next : Links) : Type 0 where
  pub taken : (obey c l).answer ≡ Ok tt
  pub state : (obey c l).next ≡ next
  pub reached : (receiver : Module) → given l c receiver ≡ cond (reaches l.table sender receiver) vs []

-- nothing unfinished from an ear
abbrev pub freed : Links → Ear → Links
freed l e = left l e l.table Free

-- a value of an ear is taken out of the flow: nobody gets anything, and the table and what is unfinished from the other
-- ear are as they were
pub record Swallowed (l : Links) (e : Ear) (v : ℕ) : Type 0 where
  pub silent : (receiver : Module) → given l (value e v) receiver ≡ []
  pub table : (obey (value e v) l).next.table ≡ l.table
  pub other_kept : unfinished (obey (value e v) l).next (other e) ≡ unfinished l (other e)

-- a value of an ear ends a command about a receiver: the ear's own module gets the reply that tells the table after it,
-- whatever the links, and no other module gets anything; what is unfinished from the other ear is as it was
pub record Answered (l : Links) (e : Ear) (v : ℕ) (receiver : Module) : Type 0 where
  pub taken : (obey (value e v) l).answer ≡ Ok tt
  pub replied :
      (m : Module)
      → given l (value e v) m ≡ cond (same m (name_of e)) (reply_of (obey (value e v) l).next.table receiver) []
  pub ended : unfinished (obey (value e v) l).next e ≡ Free
  pub other_kept : unfinished (obey (value e v) l).next (other e) ≡ unfinished l (other e)
