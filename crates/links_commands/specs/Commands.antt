-- The commands: how each is spelled, and what it orders (01, "Links and commands"; codes: 001, part 2, chapter 6).
-- Assumes nothing.
use Rattle.std.specs.Prelude.{◌≡◌, Option, Some, None, Bool, true, false, cond, List, [], ◌∷◌, ℕ, ◌<◌, eqb}
use Rattle.links_wiring.specs.declared.Module.{Module}
use Rattle.links_wiring.specs.declared.Module.TheVariants.{Screen, Keyboard, Modem, Socket}
use Rattle.links_wiring.specs.Modules.{receiver_code, sender_code}
use Rattle.links_commands.specs.declared.Order.{Order}
use Rattle.links_commands.specs.declared.Order.TheVariants.{Nothing, Pass, Pair, Link, Ask}

-- PRO1, PRO2 and PRO3 with the codes that they take
pub data Command : Type 0 where
  pro1 : ℕ → Command
  pro2 : ℕ → ℕ → Command
  pro3 : ℕ → ℕ → ℕ → Command

-- "1/B then 3/9, 3/A, 3/B and one, two, three codes"
abbrev pub spelled : Command → List ℕ
spelled (pro1 x) = 27 ∷ 57 ∷ x ∷ []
spelled (pro2 x y) = 27 ∷ 58 ∷ x ∷ y ∷ []
spelled (pro3 x y z) = 27 ∷ 59 ∷ x ∷ y ∷ z ∷ []

-- all its values but the last, and the last
abbrev pub beginning : Command → List ℕ
beginning (pro1 x) = 27 ∷ 57 ∷ []
beginning (pro2 x y) = 27 ∷ 58 ∷ x ∷ []
beginning (pro3 x y z) = 27 ∷ 59 ∷ x ∷ y ∷ []

abbrev pub last_of : Command → ℕ
last_of (pro1 x) = x
last_of (pro2 x y) = y
last_of (pro3 x y z) = z

-- the module that a code names
abbrev pub named : (Module → ℕ) → ℕ → Option Module
named code_of c =
    cond (eqb c (code_of Screen)) (Some Screen)
    (cond (eqb c (code_of Keyboard)) (Some Keyboard)
    (cond (eqb c (code_of Modem)) (Some Modem)
    (cond (eqb c (code_of Socket)) (Some Socket) None)))

abbrev pub asking : Option Module → Order
asking (Some receiver) = Ask receiver
asking None = Nothing

abbrev pub linking : Option Module → Option Module → Bool → Order
linking None sender on = Nothing
linking (Some receiver) None on = Nothing
linking (Some receiver) (Some sender) on = Link receiver sender on

-- "6/2"; "6/1 or 6/0 .. sets or clears"
abbrev pub ask_code : ℕ
ask_code = 98

abbrev pub link_code : Bool → ℕ
link_code true = 97
link_code false = 96

-- "PRO2 with 6/2 and a receiver asks"
abbrev pub ordered_by_two : ℕ → ℕ → Order
ordered_by_two x y = cond (eqb x ask_code) (asking (named receiver_code y)) Nothing

-- "PRO3 with 6/1 or 6/0, receiver 5/8 to 5/B, sender 5/0 to 5/3 .. sets or clears a link"
abbrev pub ordered_by_three : ℕ → ℕ → ℕ → Order
ordered_by_three x y z =
    cond (eqb x (link_code true)) (linking (named receiver_code y) (named sender_code z) true)
    (cond (eqb x (link_code false)) (linking (named receiver_code y) (named sender_code z) false) Nothing)

-- "Unknown commands are swallowed without reply"
abbrev pub ordered : Command → Order
ordered (pro1 x) = Nothing
ordered (pro2 x y) = ordered_by_two x y
ordered (pro3 x y z) = ordered_by_three x y z

-- ---- the commands that are known

abbrev pub link_command : Module → Module → Bool → Command
link_command receiver sender on = pro3 (link_code on) (receiver_code receiver) (sender_code sender)

abbrev pub ask_command : Module → Command
ask_command receiver = pro2 ask_code (receiver_code receiver)

-- a command with this order is spelled so; none passes anything on
abbrev pub SpelledFor : Order → Command → Type 0
SpelledFor Nothing c = Unit {0}
SpelledFor (Pass v) c = ⊥
SpelledFor (Pair v) c = ⊥
SpelledFor (Link receiver sender on) c = c ≡ link_command receiver sender on
SpelledFor (Ask receiver) c = c ≡ ask_command receiver

-- what is passed on is a value of 0 to 127
abbrev pub SmallOrder : Order → Type 0
SmallOrder Nothing = Unit {0}
SmallOrder (Pass v) = v < 128
SmallOrder (Pair v) = v < 128
SmallOrder (Link receiver sender on) = Unit {0}
SmallOrder (Ask receiver) = Unit {0}
