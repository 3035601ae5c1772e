-- A run of a board: what happens to it, call by call, and what is handed out; and the runs of its parts alone. Assumes
-- nothing.
use Rattle.std.specs.Prelude.{◌≡◌, Bool, false, not, List, [], ◌∷◌, ◌++◌, ℕ, ltb}
use Rattle.numbers.specs.Numbers.{Told, told_of}
use Rattle.line_receiver.specs.declared.Receiver.{Receiver}
use Rattle.line_receiver.specs.States.{InReceiver}
use Rattle.line_receiver.specs.Runs.{Event as Heard, byte, on, off, ask, obey as receiver_obey, sent_by}
use Rattle.line_receiver.specs.Runs.{run as receiver_run, sent, all_asked}
use Rattle.links_wiring.specs.declared.Module.{Module}
use Rattle.links_wiring.specs.declared.Module.TheVariants.{Screen, Keyboard, Modem, Socket}
use Rattle.links_hearing.specs.declared.ears.Ear.TheVariants.{Socket as from_socket}
use Rattle.links.specs.Runs.{Call, key as key_call, value, to_local as local_call, to_connected as connected_call}
use Rattle.links.specs.Runs.{run as links_run}
use Rattle.links.specs.Runs.{InLinks}
use Rattle.few.specs.Bytes.{contents}
use Rattle.board_feeding.specs.Feeding.{from_line, got}
use Rattle.screen_page.specs.Ranges.{InScreen}
use Rattle.screen_answers.specs.Answers.{Taken}
use Rattle.screen.specs.Calls.{ran}
use Rattle.board.specs.declared.Board.{Board}
use Rattle.board.specs.declared.Outcome.{Outcome}
use Rattle.board.specs.Boards.{in_range}
use Rattle.board.specs.Calls.{at_line, switched_on, switched_off, asked_again}
use Rattle.board.specs.Calls.{at_key, at_socket, with_local, with_connected}

-- ---- calls

-- a byte from the line, or the host switches the receiver or asks again; a key; a value from the socket; the host's
-- choice of a table
pub data Event : Type 0 where
  front : Heard → Event
  key : ℕ → Event
  socket : ℕ → Event
  to_local : Event
  to_connected : Event

-- what the call hands back
abbrev pub obey_front : Heard → Board → Outcome
obey_front (byte x) b = at_line b x
obey_front on b = switched_on b
obey_front off b = switched_off b
obey_front ask b = asked_again b

abbrev pub obey : Event → Board → Outcome
obey (front h) b = obey_front h b
obey (key v) b = at_key b v
obey (socket v) b = at_socket b v
obey to_local b = with_local b
obey to_connected b = with_connected b

-- the board after a run
abbrev pub run : Board → List Event → Board
run b [] = b
run b (e ∷ es) = run (obey e b).next es

-- ---- what is handed out

-- to a module, at one call: what goes to the screen is written there
abbrev pub out_to : Module → Outcome → List ℕ
out_to Screen o = []
out_to Keyboard o = contents o.keyboard
out_to Modem o = contents o.modem
out_to Socket o = contents o.socket

-- the receiver's bytes for the modem, at one call
abbrev pub request : Outcome → List ℕ
request o = contents o.request

-- in a run, in its order
unfoldable pub handed_to : Module → Board → List Event → List ℕ
handed_to m b [] = []
handed_to m b (e ∷ es) = out_to m (obey e b) ++ handed_to m (obey e b).next es

unfoldable pub requests : Board → List Event → List ℕ
requests b [] = []
requests b (e ∷ es) = request (obey e b) ++ requests (obey e b).next es

-- ---- the parts alone

-- what the receiver alone is told in a run: line bytes, switchings and asking again
abbrev pub heard_in : List Event → List Heard
heard_in [] = []
heard_in (front h ∷ es) = h ∷ heard_in es
heard_in (key v ∷ es) = heard_in es
heard_in (socket v ∷ es) = heard_in es
heard_in (to_local ∷ es) = heard_in es
heard_in (to_connected ∷ es) = heard_in es

-- what the links alone are told, in its order: the values that the receiver passes on, as the modem's, keys, the
-- socket's values, and choices of a table
abbrev pub calls_in : Receiver → List Event → List Call
calls_in r [] = []
calls_in r (front h ∷ es) = from_line (sent_by (receiver_obey h r)).passed ++ calls_in (receiver_obey h r).next es
calls_in r (key v ∷ es) = key_call v ∷ calls_in r es
calls_in r (socket v ∷ es) = value from_socket v ∷ calls_in r es
calls_in r (to_local ∷ es) = local_call ∷ calls_in r es
calls_in r (to_connected ∷ es) = connected_call ∷ calls_in r es

-- a module to which bytes are handed out
abbrev pub Outside : Module → Type 0
Outside Screen = ⊥
Outside Keyboard = Unit {0}
Outside Modem = Unit {0}
Outside Socket = Unit {0}

-- ---- ranges and numbers

-- each part in range
pub record InBoard (b : Board) : Type 0 where
  pub receiver : InReceiver b.receiver
  pub links : InLinks b.links
  pub screen : InScreen b.screen

-- from one board to another each part goes its own way: the receiver by what it hears, the links by their calls, the
-- screen by what the links send it, which it takes; these bytes are handed out, and these asked of the modem
pub record Goes (b after : Board) (hs : List Heard) (cs : List Call) (outs : Module → List ℕ) (qs : List ℕ)
    : Type 0 where
  pub receiver : after.receiver ≡ receiver_run b.receiver hs
  pub links : after.links ≡ links_run b.links cs
  pub screen : after.screen ≡ (ran b.screen (got Screen b.links cs)).screen
  pub taken : (ran b.screen (got Screen b.links cs)).answer ≡ Taken
  pub handed : (m : Module) → Outside m → outs m ≡ got m b.links cs
  pub asked : qs ≡ all_asked (sent b.receiver hs)
  pub range : InBoard after

-- a call leaves the board as it was, and hands out nothing
pub record Unmoved (b : Board) (o : Outcome) : Type 0 where
  pub next : o.next ≡ b
  pub silent : (m : Module) → out_to m o ≡ []
  pub unasked : request o ≡ []

-- a key, or a value from the socket, above 127; line bytes are never too large
abbrev pub too_large : Event → Bool
too_large (front h) = false
too_large (key v) = ltb 127 v
too_large (socket v) = ltb 127 v
too_large to_local = false
too_large to_connected = false

-- "a state handed in lies outside the ranges"; a single value stands at place 0
abbrev pub call_told : Event → Board → Told
call_told e b = told_of (not (in_range b)) (too_large e) 0
