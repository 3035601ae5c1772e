-- The codes that name modules are values of 0 to 127. Assumes nothing.
use Prim.Native.Nat.{◌<◌}
use native.Mathlib.Omega.{arith}
use Rattle.links_wiring.specs.declared.Module.{Module}
use Rattle.links_wiring.specs.declared.Module.TheVariants.{Screen, Keyboard, Modem, Socket}
use Rattle.links_wiring.specs.Modules.{place_of, receiver_code, sender_code}

place_small : (m : Module) → place_of m < 4
place_small Screen = omega arith
place_small Keyboard = omega arith
place_small Modem = omega arith
place_small Socket = omega arith

pub receiver_small : (m : Module) → receiver_code m < 128
receiver_small m = omega (arith, place_small m)

pub sender_small : (m : Module) → sender_code m < 128
sender_small m = omega (arith, place_small m)
