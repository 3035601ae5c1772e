-- The two ears are told apart. Assumes nothing.
use mathlib.Core.Path.{◌≡◌, refl}
use Rattle.links_wiring.specs.declared.Module.TheVariants.{Modem, Socket}
use Rattle.links_hearing.specs.declared.Unfinished.{Unfinished}
use Rattle.links_hearing.specs.declared.ears.Ear.TheVariants.{Modem as modem, Socket as socket}
use Rattle.links_hearing.specs.Ears.{name_of, own_of}

-- each is the module of its name
pub names : (name_of modem ≡ Modem) × (name_of socket ≡ Socket)
names = (refl, refl)

-- and goes on with what is unfinished from that module
pub owns : (m s : Unfinished) → (own_of modem m s ≡ m) × (own_of socket m s ≡ s)
owns m s = (refl, refl)
