-- The reply to a command, and the status that it tells (01, "Links and commands"; 001, part 2, chapter 6, section 3.4).
-- Assumes nothing.
use Rattle.std.specs.Prelude.{Bool, cond, ◌||◌, List, [], ◌∷◌, ℕ, ◌+◌}
use Rattle.links_wiring.specs.declared.Module.{Module}
use Rattle.links_wiring.specs.declared.Module.TheVariants.{Screen, Keyboard, Modem, Socket}
use Rattle.links_wiring.specs.Each.{Row, Table}
use Rattle.links_wiring.specs.Modules.{same, receiver_code}
use Rattle.links_wiring.specs.Tables.{row, reaches}

-- «1 : liaison établie»; and of the module itself, which nothing in the base blocks, «1 : module débloqué ou actif»
abbrev pub shown : Table → Module → Module → Bool
shown t receiver sender = same receiver sender || reaches t sender receiver

-- the senders shown in a receiver's status
abbrev pub column_of : Table → Module → Row
column_of t receiver =
    row (shown t receiver Screen) (shown t receiver Keyboard) (shown t receiver Modem) (shown t receiver Socket)

abbrev pub weighed : Bool → ℕ → ℕ
weighed on weight = cond on weight 0

-- «b6 : 1», «b3 : prise», «b2 : modem», «b1 : clavier», «b0 : écran»
abbrev pub summed : Row → ℕ
summed w = 64 + weighed w.socket 8 + weighed w.modem 4 + weighed w.keyboard 2 + weighed w.screen 1

unfoldable pub status_of : Table → Module → ℕ
status_of t receiver = summed (column_of t receiver)

-- "answered .. by PRO3, 6/3, receiver and the status code of the document's table"
unfoldable pub reply_of : Table → Module → List ℕ
reply_of t receiver = 27 ∷ 59 ∷ 99 ∷ receiver_code receiver ∷ status_of t receiver ∷ []

-- those of screen, keyboard, modem and socket
abbrev pub statuses_of : Table → List ℕ
statuses_of t = status_of t Screen ∷ status_of t Keyboard ∷ status_of t Modem ∷ status_of t Socket ∷ []

-- a module's weight in a status
abbrev pub weight_of : Module → ℕ
weight_of Screen = 1
weight_of Keyboard = 2
weight_of Modem = 4
weight_of Socket = 8
