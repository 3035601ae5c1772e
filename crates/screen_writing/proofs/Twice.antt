-- The same character once more takes nothing more. Assumes nothing.
use mathlib.Core.Path.{◌≡◌, refl, ap}
use mathlib.Core.Bool.{Bool, true, false}
use Rattle.std.specs.Prelude.{Option, Some, None, ℕ}
use Rattle.screen_cells.specs.declared.Character.{Character}
use Rattle.screen_cells.specs.Characters.{takes}
use Rattle.screen_attributes.specs.declared.Zone.{Zone}
use Rattle.screen_attributes.specs.declared.Attributes.{Attributes}
use Rattle.screen_writing.specs.Writing.{after_waiting, after_writing}

waited_twice : (w : Option ℕ) (z : Zone) (t : Bool) → z.waiting ≡ w
    → after_waiting (after_waiting w z t).waiting (after_waiting w z t) t ≡ after_waiting w z t
waited_twice None z t e = ap (λ (w : Option ℕ). after_waiting w z t) e
waited_twice (Some g) z true e = refl
waited_twice (Some g) z false e = ap (λ (w : Option ℕ). after_waiting w z false) e

pub written_twice : (a : Attributes) (x : Character) → after_writing (after_writing a x) x ≡ after_writing a x
written_twice a x =
    ap (λ (z : Zone). record { set = a.set; ink = a.ink; zone = z; flash = a.flash; inverse = a.inverse })
    (waited_twice a.zone.waiting a.zone (takes x) refl)
