-- No pair makes G1 inverse. Assumes nothing.
use mathlib.Core.Path.{refl}
use Prim.Native.Nat.{ℕ, ◌/◌, ◌%◌}
use lib.Dec.{ltb, eqb}
use borrow.Author.Tests.{eqb-false}
use Rattle.laws.proofs.Computed.{chosen}
use Rattle.screen_attributes.specs.declared.Attributes.{Attributes}
use Rattle.screen_attributes.specs.Attributing.{Upright}
use Rattle.screen_escapes.specs.Pairing.{column_four, column_five, paired}

four_upright : (a : Attributes) (n : ℕ) → Upright a → Upright (column_four a n)
four_upright a n h =
    chosen Upright (ltb n 8) (λ e. h)
    (λ e. chosen Upright (eqb n 8) (λ f. h) (λ f. chosen Upright (eqb n 9) (λ g. h) (λ g. h)))

five_upright : (a : Attributes) (n : ℕ) → Upright a → Upright (column_five a n)
five_upright a n h =
    chosen Upright (ltb n 8) (λ e. h)
    (λ e. chosen Upright (eqb n 12) (λ f g. refl)
    (λ f. chosen Upright (eqb n 13)
    (λ g. chosen Upright (eqb a.set 1) (λ k. h) (λ k i. absurd (eqb-false a.set 1 k i))) (λ g. h)))

pub pair_upright : (a : Attributes) (c : ℕ) → Upright a → Upright (paired a c)
pair_upright a c h =
    chosen Upright (eqb (c / 16) 4) (λ e. four_upright a (c % 16) h)
    (λ e. chosen Upright (eqb (c / 16) 5) (λ f. five_upright a (c % 16) h) (λ f. h))
