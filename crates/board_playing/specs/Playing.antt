-- A board hears a piece, and each output takes as much as fits of what it is handed. Assumes nothing.
use Rattle.std.specs.Prelude.{List, ℕ}
use Rattle.lent.specs.Memory.{behind}
use Rattle.links_wiring.specs.declared.Module.TheVariants.{Screen, Keyboard, Modem, Socket}
use Rattle.screen.specs.Calls.{ran}
use Rattle.board_front.specs.declared.Front.{Front}
use Rattle.board_front.specs.declared.Room.{Room}
use Rattle.board_front.specs.LineBytes.{behind as front_behind, to_each, asks}
use Rattle.board.specs.declared.Board.{Board}
use Rattle.board.specs.Boards.{front_of}
use Rattle.board_playing.specs.declared.Played.{Played}

abbrev pub heard_whole : Board → List ℕ → Board
heard_whole b xs =
    let f = front_behind (front_of b) xs in
    record {
      receiver = f.receiver;
      links = f.links;
      screen = (ran b.screen (to_each Screen (front_of b) xs)).screen;
    }

-- the places behind what is written to the outputs of keyboard, modem, socket and requests
abbrev pub reached : Front → List ℕ → List ℕ → List ℕ → List ℕ → List ℕ → Room
reached f xs k m s q =
    record {
      keyboard = behind k 0 (to_each Keyboard f xs);
      modem = behind m 0 (to_each Modem f xs);
      socket = behind s 0 (to_each Socket f xs);
      requests = behind q 0 (asks f xs);
    }

unfoldable pub played : Board → List ℕ → List ℕ → List ℕ → List ℕ → List ℕ → Played
played b xs k m s q = record { next = heard_whole b xs; used = reached (front_of b) xs k m s q }
