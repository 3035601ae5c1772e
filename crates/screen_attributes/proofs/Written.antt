-- The attributes at the start, and what SO and SI make of others, written out (01, "Screen cells"). Assumes nothing.
use mathlib.Core.Path.{◌≡◌, refl}
use mathlib.Core.Bool.{false}
use mathlib.Core.List.{List, [], ◌∷◌}
use Rattle.std.specs.Prelude.{None}
use Rattle.screen_attributes.specs.declared.Attributes.{Attributes}
use Rattle.screen_attributes.specs.Attributing.{start_of, shifted_out, shifted_in}
use Rattle.screen_attributes.proofs.Literal.{those, awaiting, flashing, inverted}

-- "Current attributes at the start: set G0, ink 7, ground 0, none waiting, no flash, not inverse"
pub start_is : (start_of.set ≡ 0) × (start_of.ink ≡ 7) × (start_of.zone.ground ≡ 0) × (start_of.zone.waiting ≡ None)
    × (start_of.flash ≡ false) × (start_of.inverse ≡ false)
start_is = (refl, refl, refl, refl, refl, refl)

-- each of the attributes becomes those beside it
abbrev Become : (Attributes → Attributes) → List (Attributes × Attributes) → Type 0
Become f [] = Unit {0}
Become f (e ∷ es) = (f e.0 ≡ e.1) × Become f es

-- "SO: set G1, inverse off"; the others stay
abbrev outs : List (Attributes × Attributes)
outs =
    (inverted (flashing (awaiting 5 (those 0 3 4))), flashing (awaiting 5 (those 1 3 4)))
    ∷ (those 1 2 6, those 1 2 6)
    ∷ []

-- "SI: set G0"; the others stay
abbrev ins : List (Attributes × Attributes)
ins =
    (flashing (awaiting 5 (those 1 3 4)), flashing (awaiting 5 (those 0 3 4)))
    ∷ (inverted (those 0 2 6), inverted (those 0 2 6))
    ∷ []

pub shifts_are : Become shifted_out outs × Become shifted_in ins
shifts_are = ((refl, (refl, tt)), (refl, (refl, tt)))
