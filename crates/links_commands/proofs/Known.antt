-- A link or ask command orders just that, and every other command nothing. Assumes nothing.
use mathlib.Core.Path.{◌≡◌, refl, ap, ap₂, ◌∙◌}
use mathlib.Core.Bool.{Bool, true, false}
use mathlib.Core.List.{[], ◌∷◌, ◌++◌}
use Prim.Native.Nat.{ℕ}
use lib.Dec.{eqb}
use borrow.Author.Tests.{eqb-true}
use Rattle.std.specs.Prelude.{Option, Some, None}
use Rattle.laws.proofs.Computed.{chosen}
use Rattle.links_wiring.specs.declared.Module.{Module}
use Rattle.links_wiring.specs.declared.Module.TheVariants.{Screen, Keyboard, Modem, Socket}
use Rattle.links_wiring.specs.Modules.{receiver_code, sender_code}
use Rattle.links_commands.specs.declared.Order.{Order}
use Rattle.links_commands.specs.declared.Order.TheVariants.{Nothing, Pass, Pair, Link, Ask}
use Rattle.links_commands.specs.Commands.{Command, pro1, pro2, pro3, spelled, beginning, last_of}
use Rattle.links_commands.specs.Commands.{ask_code, link_code, named, asking, linking, ordered}
use Rattle.links_commands.specs.Commands.{link_command, ask_command, SpelledFor, SmallOrder}

-- a command in two: all its values but the last, and the last
pub in_two : (c : Command) → spelled c ≡ beginning c ++ (last_of c ∷ [])
in_two (pro1 x) = refl
in_two (pro2 x y) = refl
in_two (pro3 x y z) = refl

-- ---- what is known is ordered

receiver_named : (m : Module) → named receiver_code (receiver_code m) ≡ Some m
receiver_named Screen = refl
receiver_named Keyboard = refl
receiver_named Modem = refl
receiver_named Socket = refl

sender_named : (m : Module) → named sender_code (sender_code m) ≡ Some m
sender_named Screen = refl
sender_named Keyboard = refl
sender_named Modem = refl
sender_named Socket = refl

pub link_ordered : (receiver sender : Module) (on : Bool)
    → ordered (link_command receiver sender on) ≡ Link receiver sender on
link_ordered r s true = ap₂ (λ (a b : Option Module). linking a b true) (receiver_named r) (sender_named s)
link_ordered r s false = ap₂ (λ (a b : Option Module). linking a b false) (receiver_named r) (sender_named s)

pub ask_ordered : (receiver : Module) → ordered (ask_command receiver) ≡ Ask receiver
ask_ordered r = ap asking (receiver_named r)

-- ---- what is ordered is known

-- a code that names a module is the module's
CodeFor : (Module → ℕ) → ℕ → Option Module → Type 0
CodeFor code_of c (Some m) = c ≡ code_of m
CodeFor code_of c None = Unit {0}

code_for : (code_of : Module → ℕ) (c : ℕ) → CodeFor code_of c (named code_of c)
unfolding CodeFor
code_for code_of c =
    chosen (CodeFor code_of c) (eqb c (code_of Screen)) (λ e. eqb-true c (code_of Screen) e)
    (λ e. chosen (CodeFor code_of c) (eqb c (code_of Keyboard)) (λ f. eqb-true c (code_of Keyboard) f)
    (λ f. chosen (CodeFor code_of c) (eqb c (code_of Modem)) (λ g. eqb-true c (code_of Modem) g)
    (λ g. chosen (CodeFor code_of c) (eqb c (code_of Socket)) (λ h. eqb-true c (code_of Socket) h) (λ h. tt))))

asked : (x y : ℕ) → x ≡ ask_code → (n : Option Module) → CodeFor receiver_code y n → SpelledFor (asking n) (pro2 x y)
unfolding CodeFor
asked x y e (Some m) f = ap₂ pro2 e f
asked x y e None f = tt

linked : (x y z : ℕ) (on : Bool) → x ≡ link_code on
    → SpelledFor (linking (named receiver_code y) (named sender_code z) on) (pro3 x y z)
unfolding CodeFor
linked x y z on e = go (named receiver_code y) (named sender_code z) (code_for receiver_code y) (code_for sender_code z)
  where
    go : (a b : Option Module) → CodeFor receiver_code y a → CodeFor sender_code z b → SpelledFor (linking a b on) (pro3 x y z)
    go None b f g = tt
    go (Some r) None f g = tt
    go (Some r) (Some s) f g = ap (λ (v : ℕ). pro3 v y z) e ∙ ap₂ (λ (v w : ℕ). pro3 (link_code on) v w) f g

pub spelled_for : (c : Command) → SpelledFor (ordered c) c
spelled_for (pro1 x) = tt
spelled_for (pro2 x y) =
    chosen (λ (o : Order). SpelledFor o (pro2 x y)) (eqb x ask_code)
    (λ e. asked x y (eqb-true x ask_code e) (named receiver_code y) (code_for receiver_code y)) (λ e. tt)
spelled_for (pro3 x y z) =
    chosen (λ (o : Order). SpelledFor o (pro3 x y z)) (eqb x (link_code true))
    (λ e. linked x y z true (eqb-true x (link_code true) e))
    (λ e. chosen (λ (o : Order). SpelledFor o (pro3 x y z)) (eqb x (link_code false))
    (λ f. linked x y z false (eqb-true x (link_code false) f)) (λ f. tt))

-- ---- nothing of a command is passed on

pub small_ordered : (c : Command) → SmallOrder (ordered c)
small_ordered c = go (ordered c) (spelled_for c)
  where
    go : (o : Order) → SpelledFor o c → SmallOrder o
    go Nothing s = tt
    go (Pass v) s = absurd s
    go (Pair v) s = absurd s
    go (Link receiver sender on) s = tt
    go (Ask receiver) s = tt
