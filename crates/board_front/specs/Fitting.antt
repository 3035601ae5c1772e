-- The room that line bytes take in the four outputs. Assumes nothing.
use Rattle.std.specs.Prelude.{Bool, cond, ◌&&◌, Option, Some, None, List, ℕ, ◌+◌, ◌-◌, leb, length}
use Rattle.links_wiring.specs.declared.Module.TheVariants.{Keyboard, Modem, Socket}
use Rattle.board_front.specs.declared.Front.{Front}
use Rattle.board_front.specs.declared.Heard.{Heard}
use Rattle.board_front.specs.declared.Room.{Room}
use Rattle.board_front.specs.LineBytes.{to_each, asks}

abbrev pub room_in : List ℕ → List ℕ → List ℕ → List ℕ → Room
room_in k m s q = record { keyboard = length k; modem = length m; socket = length s; requests = length q }

-- so much is needed, and so much is there
abbrev pub within : Room → Room → Bool
within n r =
    leb n.keyboard r.keyboard
    && (leb n.modem r.modem && (leb n.socket r.socket && leb n.requests r.requests))

-- what a piece needs
abbrev pub needed : Front → List ℕ → Room
needed f xs = room_in (to_each Keyboard f xs) (to_each Modem f xs) (to_each Socket f xs) (asks f xs)

-- what one byte needs
abbrev pub needs_of : Heard → Room
needs_of h =
    record {
      keyboard = h.shares.keyboard.count;
      modem = h.shares.modem.count;
      socket = h.shares.socket.count;
      requests = h.request.count;
    }

abbrev pub more : Room → Room → Room
more r n =
    record {
      keyboard = r.keyboard + n.keyboard;
      modem = r.modem + n.modem;
      socket = r.socket + n.socket;
      requests = r.requests + n.requests;
    }

abbrev pub less : Room → Room → Room
less r n =
    record {
      keyboard = r.keyboard - n.keyboard;
      modem = r.modem - n.modem;
      socket = r.socket - n.socket;
      requests = r.requests - n.requests;
    }

unfoldable pub left_over : Room → Room → Option Room
left_over r n = cond (within n r) (Some (less r n)) None
