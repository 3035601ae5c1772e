-- "A table says for each pair whether the sender's bytes reach the receiver." (01, "Links and commands"). Assumes
-- nothing.
use Rattle.std.specs.Prelude.{◌≡◌, Bool, false, ◌&&◌, ◌||◌, List, [], ◌∷◌}
use Rattle.links_wiring.specs.declared.Module.{Module}
use Rattle.links_wiring.specs.declared.Module.TheVariants.{Screen, Keyboard, Modem, Socket}
use Rattle.links_wiring.specs.Each.{Row, Table, of}
use Rattle.links_wiring.specs.Modules.{same}

-- the receivers that one sender reaches, in the order screen, keyboard, modem, socket
abbrev pub row : Bool → Bool → Bool → Bool → Row
row a b c d = record { screen = a; keyboard = b; modem = c; socket = d }

abbrev pub row_of : Table → Module → Row
row_of t sender = of t sender

abbrev pub marked : Row → Module → Bool
marked w receiver = of w receiver

-- whether the sender's bytes reach the receiver
abbrev pub reaches : Table → Module → Module → Bool
reaches t sender receiver = marked (row_of t sender) receiver

-- ---- the two standard tables

-- whether a sender and a receiver stand in a list of pairs, each a sender and its receiver
abbrev pub listed : List (Module × Module) → Module → Module → Bool
listed [] sender receiver = false
listed (p ∷ ps) sender receiver = (same sender p.0 && same receiver p.1) || listed ps sender receiver

-- the table that links the pairs of a list and no others
abbrev pub row_for : List (Module × Module) → Module → Row
row_for ps sender =
    row (listed ps sender Screen) (listed ps sender Keyboard) (listed ps sender Modem) (listed ps sender Socket)

abbrev pub table_of : List (Module × Module) → Table
table_of ps =
    record {
      screen = row_for ps Screen;
      keyboard = row_for ps Keyboard;
      modem = row_for ps Modem;
      socket = row_for ps Socket;
    }

-- 001, part 2, section 1-2-1: «clavier vers modem», «modem vers écran», «clavier vers prise péri-informatique», «prise
-- péri-informatique vers écran»
abbrev pub local_pairs : List (Module × Module)
local_pairs = (Keyboard, Modem) ∷ (Modem, Screen) ∷ (Keyboard, Socket) ∷ (Socket, Screen) ∷ []

-- section 1-2-2: «clavier vers modem», «modem vers écran», «modem vers prise péri-informatique», «prise
-- péri-informatique vers modem»
abbrev pub connected_pairs : List (Module × Module)
connected_pairs = (Keyboard, Modem) ∷ (Modem, Screen) ∷ (Modem, Socket) ∷ (Socket, Modem) ∷ []

abbrev pub local_table : Table
local_table = table_of local_pairs

abbrev pub connected_table : Table
connected_table = table_of connected_pairs

-- ---- a module and itself

-- "or links a module to itself"
unfoldable pub self_linked : Table → Bool
self_linked t = t.screen.screen || (t.keyboard.keyboard || (t.modem.modem || t.socket.socket))

-- no module reaches itself
abbrev pub NoneItself : Table → Type 0
NoneItself t = (m : Module) → reaches t m m ≡ false
