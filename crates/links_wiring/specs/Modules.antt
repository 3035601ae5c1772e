-- "Modules: screen, keyboard, modem, socket." (01, "Links and commands"). Assumes nothing.
use Rattle.std.specs.Prelude.{Bool, ℕ, ◌+◌, eqb}
use Rattle.links_wiring.specs.declared.Module.{Module}
use Rattle.links_wiring.specs.declared.Module.TheVariants.{Screen, Keyboard, Modem, Socket}

-- in the page's order
abbrev pub place_of : Module → ℕ
place_of Screen = 0
place_of Keyboard = 1
place_of Modem = 2
place_of Socket = 3

abbrev pub same : Module → Module → Bool
same a b = eqb (place_of a) (place_of b)

-- "receiver 5/8 to 5/B, sender 5/0 to 5/3 (screen, keyboard, modem, socket)"
abbrev pub receiver_code : Module → ℕ
receiver_code m = 88 + place_of m

abbrev pub sender_code : Module → ℕ
sender_code m = 80 + place_of m
