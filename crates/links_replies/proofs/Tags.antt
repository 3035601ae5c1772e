-- A module's number in code is its place. Assumes nothing.
use mathlib.Core.Path.{◌≡◌, refl}
use denote.Enum.Declared.{tag_of}
use Rattle.links_wiring.specs.declared.Module.{Module}
use Rattle.links_wiring.specs.declared.Module.TheVariants.{Screen, Keyboard, Modem, Socket}
use Rattle.links_wiring.specs.contracts.Module.{the_type}
use Rattle.links_wiring.specs.Modules.{place_of}

pub tagged : (m : Module) → tag_of the_type m ≡ place_of m
tagged Screen = refl
tagged Keyboard = refl
tagged Modem = refl
tagged Socket = refl
