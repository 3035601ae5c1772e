-- Attributes in range stay so under every pair. Assumes nothing.
use mathlib.Core.Bool.{Bool}
use Prim.Native.Nat.{ℕ, ◌/◌, ◌%◌}
use native.Mathlib.Omega.{arith}
use lib.Dec.{ltb, eqb}
use borrow.Author.Tests.{ltb-true}
use Rattle.laws.proofs.Computed.{chosen}
use Rattle.screen_attributes.specs.declared.Attributes.{Attributes}
use Rattle.screen_attributes.specs.Within.{InForce}
use Rattle.screen_escapes.specs.Pairing.{column_four, column_five, paired}

-- no range speaks of flash or inverse
plain : {a : Attributes} (f v : Bool) → InForce a
    → InForce (record { set = a.set; ink = a.ink; zone = a.zone; flash = f; inverse = v })
plain f v h = record { set = h.set; ink = h.ink; zone = h.zone }

four_in : {a : Attributes} (n : ℕ) → InForce a → InForce (column_four a n)
four_in {a} n h =
    chosen InForce (ltb n 8)
    (λ e. record { set = h.set; ink = omega (arith, ltb-true n 8 e); zone = h.zone })
    (λ e. chosen InForce (eqb n 8) (λ f. plain _ a.inverse h)
    (λ f. chosen InForce (eqb n 9) (λ g. plain _ a.inverse h) (λ g. h)))

five_in : {a : Attributes} (n : ℕ) → InForce a → InForce (column_five a n)
five_in {a} n h =
    chosen InForce (ltb n 8)
    (λ e. record {
      set = h.set;
      ink = h.ink;
      zone = record { ground = h.zone.ground; waiting = omega (arith, ltb-true n 8 e) };
    })
    (λ e. chosen InForce (eqb n 12) (λ f. plain a.flash _ h)
    (λ f. chosen InForce (eqb n 13)
    (λ g. chosen InForce (eqb a.set 1) (λ k. h) (λ k. plain a.flash _ h)) (λ g. h)))

pub pair_in : {a : Attributes} (c : ℕ) → InForce a → InForce (paired a c)
pair_in c h =
    chosen InForce (eqb (c / 16) 4) (λ e. four_in (c % 16) h)
    (λ e. chosen InForce (eqb (c / 16) 5) (λ f. five_in (c % 16) h) (λ f. h))
