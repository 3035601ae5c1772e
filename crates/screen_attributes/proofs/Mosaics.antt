-- While G1 is current nothing is inverse: at the start, after SO and after SI. Assumes nothing.
use mathlib.Core.Path.{◌≡◌, refl}
use Rattle.screen_attributes.specs.declared.Attributes.{Attributes}
use Rattle.screen_attributes.specs.Attributing.{start_of, shifted_out, shifted_in, Upright}

-- SO puts inverse out, and SI makes G0 current; at the start G0 is
pub out_upright : (a : Attributes) → Upright (shifted_out a)
out_upright a e = refl

pub in_upright : (a : Attributes) → (shifted_in a).set ≡ 0
in_upright a = refl

pub start_upright : Upright start_of
start_upright e = refl
