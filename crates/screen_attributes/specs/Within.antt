-- "In range are: .. G0 or G1 as current set; .. colours 0 to 7". Assumes nothing.
use Rattle.std.specs.Prelude.{Option, Some, None, ℕ, Bool, true, ◌&&◌, ◌≤◌, leb}
use Rattle.screen_attributes.specs.declared.Zone.{Zone}
use Rattle.screen_attributes.specs.declared.Attributes.{Attributes}

-- ---- the test

abbrev pub good_waiting : Option ℕ → Bool
good_waiting None = true
good_waiting (Some g) = leb g 7

abbrev pub good_zone : Zone → Bool
good_zone z = leb z.ground 7 && good_waiting z.waiting

abbrev pub good : Attributes → Bool
good a = leb a.set 1 && (leb a.ink 7 && good_zone a.zone)

-- ---- the ranges

abbrev pub InWaiting : Option ℕ → Type 0
InWaiting None = Unit {0}
InWaiting (Some g) = g ≤ 7

pub record InZone (z : Zone) : Type 0 where
  pub ground : z.ground ≤ 7
  pub waiting : InWaiting z.waiting

pub record InForce (a : Attributes) : Type 0 where
  pub set : a.set ≤ 1
  pub ink : a.ink ≤ 7
  pub zone : InZone a.zone
