-- What a piece of line bytes comes to: what single calls come to, one after the other (01, "Numbers given"). Assumes
-- nothing.
use Rattle.std.specs.Prelude.{◌≡◌, Result, Ok, Err, Bool, cond, ◌&&◌, not, false, List, [], ◌∷◌, ◌++◌, ℕ, length, drop}
use Rattle.numbers.specs.Numbers.{Conditions, number_of, Told}
use Rattle.links_wiring.specs.declared.Module.{Module}
use Rattle.links_wiring.specs.declared.Module.TheVariants.{Keyboard, Modem, Socket}
use Rattle.line_receiver.specs.Runs.{byte}
use Rattle.board_front.specs.declared.Room.{Room}
use Rattle.board_front.specs.Fitting.{room_in, within}
use Rattle.board.specs.declared.Board.{Board}
use Rattle.board.specs.Boards.{in_range}
use Rattle.board.specs.Runs.{Event, front, run, handed_to, requests}
use Rattle.board_passing.specs.declared.Outputs.{Outputs}
use Rattle.board_pieces.specs.declared.Refusal.{Refusal}
use Rattle.board_pieces.specs.declared.Refusal.TheVariants.{NoRoom, Broken}
use Rattle.board_pieces.specs.declared.Passage.{Passage}

-- the number of each answer
abbrev pub told : Result (Unit {0}) Refusal → Told
told (Ok taken) = record { number = 0; named = [] }
told (Err NoRoom) = record { number = 4; named = [] }
told (Err Broken) = record { number = 5; named = [] }

-- ---- single calls, one after the other

-- a call for each byte
abbrev pub singly : List ℕ → List Event
singly [] = []
singly (x ∷ xs) = front (byte x) ∷ singly xs

-- what they hand out to a module, and ask of the modem
abbrev pub handed : Module → Board → List ℕ → List ℕ
handed m b xs = handed_to m b (singly xs)

abbrev pub asked : Board → List ℕ → List ℕ
asked b xs = requests b (singly xs)

-- ---- room

-- what a piece needs
abbrev pub yields : Board → List ℕ → Room
yields b xs = room_in (handed Keyboard b xs) (handed Modem b xs) (handed Socket b xs) (asked b xs)

-- ---- the call

abbrev pub passage : Board → Result (Unit {0}) Refusal → Room → Passage
passage b a n = record { next = b; answer = a; used = n }

-- the board as it was, and nothing written
abbrev pub refused : Board → Refusal → Passage
refused b refusal = passage b (Err refusal) (room_in [] [] [] [])

-- 5 before 4
unfoldable pub lines_of : Board → List ℕ → Room → Passage
lines_of b xs r =
    cond (in_range b)
    (cond (within (yields b xs) r) (passage (run b (singly xs)) (Ok tt) (yields b xs)) (refused b NoRoom))
    (refused b Broken)

-- whether the piece is taken
unfoldable pub is_taken : Board → List ℕ → Room → Bool
is_taken b xs r = in_range b && within (yields b xs) r

-- an output after the call: these bytes at its beginning where the piece is taken, and else as it was
abbrev pub left_in : Bool → List ℕ → List ℕ → List ℕ
left_in t vs out = cond t (vs ++ drop (length vs) out) out

-- the four outputs before and after the call
pub record LeftIn (t : Bool) (b : Board) (xs : List ℕ) (o p : Outputs) : Type 0 where
  pub keyboard : p.keyboard.now ≡ left_in t (handed Keyboard b xs) o.keyboard.now
  pub modem : p.modem.now ≡ left_in t (handed Modem b xs) o.modem.now
  pub socket : p.socket.now ≡ left_in t (handed Socket b xs) o.socket.now
  pub requests : p.requests.now ≡ left_in t (asked b xs) o.requests.now

-- "a state handed in lies outside the ranges"; an output is too short
abbrev pub lines_conditions : Board → List ℕ → Room → Conditions
lines_conditions b xs r =
    record {
      wrong_length = false;
      broken_state = not (in_range b);
      too_large = false;
      no_room = not (within (yields b xs) r);
      repeat = false;
    }

abbrev pub lines_told : Board → List ℕ → Room → Told
lines_told b xs r = record { number = number_of (lines_conditions b xs r); named = [] }
