-- What a piece that is taken comes to, what one that is not leaves, and when there is room. Assumes nothing.
use Rattle.std.specs.Prelude.{◌≡◌, List, ℕ, ◌≤◌, length, take, drop}
use Rattle.links_wiring.specs.declared.Module.{Module}
use Rattle.links_wiring.specs.declared.Module.TheVariants.{Screen, Keyboard, Modem, Socket}
use Rattle.board_front.specs.declared.Room.{Room}
use Rattle.board.specs.declared.Board.{Board}
use Rattle.board.specs.Runs.{run, Outside}
use Rattle.board_pieces.specs.declared.Passage.{Passage}
use Rattle.board_pieces.specs.Pieces.{singly, handed, asked, lines_of, is_taken, left_in}

-- the bytes that a call wrote for a module
abbrev pub wrote : Module → Passage → ℕ
wrote Screen p = 0
wrote Keyboard p = p.used.keyboard
wrote Modem p = p.used.modem
wrote Socket p = p.used.socket

-- the board is that of single calls, one for each byte; as many bytes are written as these hand out; and an output
-- begins with what it is given, and is as it was behind that
pub record TakenWhole (b : Board) (xs : List ℕ) (r : Room) : Type 0 where
  pub next : (lines_of b xs r).next ≡ run b (singly xs)
  pub counts : (m : Module) → Outside m → wrote m (lines_of b xs r) ≡ length (handed m b xs)
  pub requests : (lines_of b xs r).used.requests ≡ length (asked b xs)
  pub begins : (vs out : List ℕ) → take (length vs) (left_in (is_taken b xs r) vs out) ≡ vs
  pub beyond : (vs out : List ℕ) → drop (length vs) (left_in (is_taken b xs r) vs out) ≡ drop (length vs) out

-- the board and every output are as they were, and nothing counts as written
pub record NothingTaken (b : Board) (xs : List ℕ) (r : Room) : Type 0 where
  pub next : (lines_of b xs r).next ≡ b
  pub counts : (m : Module) → wrote m (lines_of b xs r) ≡ 0
  pub requests : (lines_of b xs r).used.requests ≡ 0
  pub outputs : (vs out : List ℕ) → left_in (is_taken b xs r) vs out ≡ out

-- each output has room for what single calls hand out there
pub record RoomFor (b : Board) (xs : List ℕ) (r : Room) : Type 0 where
  pub keyboard : length (handed Keyboard b xs) ≤ r.keyboard
  pub modem : length (handed Modem b xs) ≤ r.modem
  pub socket : length (handed Socket b xs) ≤ r.socket
  pub requests : length (asked b xs) ≤ r.requests
