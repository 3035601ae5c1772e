-- What ESC and a code do to grounds. Assumes nothing.
use mathlib.Core.Path.{◌≡◌, refl, ap}
use mathlib.Core.Bool.{Bool, true, false, cond, ◌&&◌}
use mathlib.Core.List.{[], ◌∷◌}
use Prim.Native.Nat.{ℕ, ◌/◌, ◌%◌}
use lib.Dec.{ltb, eqb}
use borrow.Author.Tests.{eqb-true}
use Rattle.std.specs.Prelude.{Some}
use Rattle.laws.proofs.Computed.{each, chosen}
use Rattle.screen_attributes.specs.declared.Attributes.{Attributes}
use Rattle.screen_escapes.specs.Pairing.{column_four, column_five, paired, names_ground}

-- what a code of column 4 leaves
four_grounds : (a : Attributes) (n : ℕ) → (column_four a n).zone ≡ a.zone
four_grounds a n =
    chosen (λ (x : Attributes). x.zone ≡ a.zone) (ltb n 8) (λ e. refl)
    (λ e. chosen (λ (x : Attributes). x.zone ≡ a.zone) (eqb n 8) (λ f. refl)
    (λ f. chosen (λ (x : Attributes). x.zone ≡ a.zone) (eqb n 9) (λ h. refl) (λ h. refl)))

-- what one of column 5 leaves that names no ground
five_others : (a : Attributes) (n : ℕ) → ltb n 8 ≡ false → (column_five a n).zone ≡ a.zone
five_others a n e =
    simp e
    (chosen (λ (x : Attributes). x.zone ≡ a.zone) (eqb n 12) (λ f. refl)
    (λ f. chosen (λ (x : Attributes). x.zone ≡ a.zone) (eqb n 13)
    (λ h. chosen (λ (x : Attributes). x.zone ≡ a.zone) (eqb a.set 1) (λ k. refl) (λ k. refl)) (λ h. refl)))

pub pair_ground : (a : Attributes) (c : ℕ) → names_ground c ≡ true
    → (paired a c).zone ≡ record { ground = a.zone.ground; waiting = Some (c % 16) }
pair_ground a c e =
    let t = each (eqb (c / 16) 5 ∷ ltb (c % 16) 8 ∷ []) e in
    let h : eqb (c / 16) 4 ≡ false = ap (λ (n : ℕ). eqb n 4) (eqb-true (c / 16) 5 t.0) in simp (h, t.0, t.1)

pub pair_others : (a : Attributes) (c : ℕ) → names_ground c ≡ false → (paired a c).zone ≡ a.zone
pair_others a c e =
    chosen (λ (x : Attributes). x.zone ≡ a.zone) (eqb (c / 16) 4) (λ f. four_grounds a (c % 16))
    (λ f. fifth (eqb (c / 16) 5) e)
  where
    fifth : (t : Bool) → (t && ltb (c % 16) 8) ≡ false → (cond t (column_five a (c % 16)) a).zone ≡ a.zone
    fifth true e = five_others a (c % 16) e
    fifth false e = refl
