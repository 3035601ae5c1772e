-- No module is linked to itself: how that is tested, and where it holds. Assumes nothing.
use mathlib.Core.Path.{◌≡◌, refl, subst}
use mathlib.Core.Bool.{Bool, true, false, ◌||◌}
use Rattle.laws.proofs.Computed.{holds, fails}
use Rattle.links_wiring.specs.declared.Module.{Module}
use Rattle.links_wiring.specs.declared.Module.TheVariants.{Screen, Keyboard, Modem, Socket}
use Rattle.links_wiring.specs.Each.{Table}
use Rattle.links_wiring.specs.Modules.{same}
use Rattle.links_wiring.proofs.Parts.{same_true}
use Rattle.links_wiring.specs.Tables.{reaches, self_linked, NoneItself, local_table, connected_table}

-- a module that is reached is another one
pub reached_apart : (t : Table) (m r : Module) → reaches t m m ≡ false → reaches t m r ≡ true → same r m ≡ false
reached_apart t m r n y = go (same r m) (same_true r m)
  where
    go : (b : Bool) → (b ≡ true → r ≡ m) → b ≡ false
    go true f = absurd (fails n (holds (subst (λ (x : Module). reaches t m x ≡ true) (f refl) y)))
    go false f = refl

-- ---- the test

joined : (a b : Bool) → (a || b) ≡ false → (a ≡ false) × (b ≡ false)
joined true b e = absurd (fails e tt)
joined false b e = (refl, e)

pub tested : (t : Table) → self_linked t ≡ false → NoneItself t
unfolding self_linked
tested t e =
    let screen = reaches t Screen Screen in
    let keyboard = reaches t Keyboard Keyboard in
    let modem = reaches t Modem Modem in
    let socket = reaches t Socket Socket in
    let first = joined screen (keyboard || (modem || socket)) e in
    let second = joined keyboard (modem || socket) first.1 in
    let third = joined modem socket second.1 in
    all first.0 second.0 third.0 third.1
  where
    all : reaches t Screen Screen ≡ false → reaches t Keyboard Keyboard ≡ false → reaches t Modem Modem ≡ false
        → reaches t Socket Socket ≡ false → NoneItself t
    all a b c d Screen = a
    all a b c d Keyboard = b
    all a b c d Modem = c
    all a b c d Socket = d

pub passed : (t : Table) → NoneItself t → self_linked t ≡ false
unfolding self_linked
passed t n = simp (n Screen, n Keyboard, n Modem, n Socket)

pub local_none : NoneItself local_table
local_none Screen = refl
local_none Keyboard = refl
local_none Modem = refl
local_none Socket = refl

pub connected_none : NoneItself connected_table
connected_none Screen = refl
connected_none Keyboard = refl
connected_none Modem = refl
connected_none Socket = refl
