-- What the test of ranges says, and that attributes in range stay so. Assumes nothing.
use mathlib.Core.Path.{◌≡◌, refl}
use mathlib.Core.Bool.{true}
use mathlib.Core.List.{[], ◌∷◌}
use lib.Dec.{leb, lit≤}
use borrow.Author.Tests.{leb-true, le-leb}
use Rattle.std.specs.Prelude.{Option, Some, None, ℕ}
use Rattle.laws.proofs.Computed.{each}
use Rattle.screen_attributes.specs.declared.Zone.{Zone}
use Rattle.screen_attributes.specs.declared.Attributes.{Attributes}
use Rattle.screen_attributes.specs.Attributing.{start_of, shifted_out, shifted_in}
use Rattle.screen_attributes.specs.Within.{good_waiting, good_zone, good, InWaiting, InZone, InForce}

-- ---- the test is the ranges

waiting_true : (w : Option ℕ) → InWaiting w → good_waiting w ≡ true
waiting_true None h = refl
waiting_true (Some g) h = le-leb g 7 h

true_waiting : (w : Option ℕ) → good_waiting w ≡ true → InWaiting w
true_waiting None e = tt
true_waiting (Some g) e = leb-true g 7 e

zone_true : {z : Zone} → InZone z → good_zone z ≡ true
zone_true {z} h = simp (le-leb _ _ h.ground, waiting_true z.waiting h.waiting)

true_zone : (z : Zone) → good_zone z ≡ true → InZone z
true_zone z e =
    let t = each (leb z.ground 7 ∷ good_waiting z.waiting ∷ []) e in
    record { ground = leb-true _ _ t.0; waiting = true_waiting z.waiting t.1 }

pub force_true : {a : Attributes} → InForce a → good a ≡ true
force_true h = simp (le-leb _ _ h.set, le-leb _ _ h.ink, zone_true h.zone)

pub true_force : (a : Attributes) → good a ≡ true → InForce a
true_force a e =
    let t = each (leb a.set 1 ∷ leb a.ink 7 ∷ good_zone a.zone ∷ []) e in
    record { set = leb-true _ _ t.0; ink = leb-true _ _ t.1.0; zone = true_zone a.zone t.1.1 }

-- ---- what stays in range

pub start_in : InForce start_of
start_in = record { set = lit≤ tt; ink = lit≤ tt; zone = record { ground = lit≤ tt; waiting = tt } }

pub out_in : {a : Attributes} → InForce a → InForce (shifted_out a)
out_in h = record { set = lit≤ tt; ink = h.ink; zone = h.zone }

pub in_in : {a : Attributes} → InForce a → InForce (shifted_in a)
in_in h = record { set = lit≤ tt; ink = h.ink; zone = h.zone }
