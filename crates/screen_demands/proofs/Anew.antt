-- A fresh screen: no last character, and nothing inverse. Assumes nothing.
use mathlib.Core.Path.{◌≡◌, refl}
use Rattle.std.specs.Prelude.{None}
use Rattle.screen_attributes.specs.Attributing.{Upright}
use Rattle.screen_page.specs.Pages.{fresh_screen}
use Rattle.screen_planning.proofs.Mosaics.{fresh_upright as pen-upright}

pub fresh_never : fresh_screen.pen.last ≡ None
unfolding fresh_screen
fresh_never = refl

pub fresh_upright : Upright fresh_screen.pen.here.attributes × Upright fresh_screen.pen.kept.attributes
unfolding fresh_screen
fresh_upright = pen-upright
