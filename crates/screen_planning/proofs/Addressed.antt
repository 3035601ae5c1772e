-- US and its two codes: the place that they name, or none. Assumes nothing.
use mathlib.Core.Path.{◌≡◌, refl, ap, ◌∙◌}
use mathlib.Core.Bool.{Bool, true, false, cond}
use mathlib.Core.List.{[], ◌∷◌}
use Prim.Native.Nat.{ℕ, ◌-◌, ◌≤◌}
use native.Mathlib.Omega.{arith}
use lib.Dec.{leb}
use borrow.Author.Tests.{le-leb, leb-true}
use Rattle.std.specs.Prelude.{Option, Some, None}
use Rattle.screen_cursor.specs.declared.Place.{Place}
use Rattle.laws.proofs.Computed.{each}
use Rattle.screen_cursor.specs.Places.{at}
use Rattle.screen_addresses.specs.Addressing.{good, addressed}
use Rattle.screen_sequences.specs.declared.Sequence.{Sequence}
use Rattle.screen_sequences.specs.declared.Sequence.TheVariants.{Free, Row}
use Rattle.screen_sequences.specs.declared.Order.TheVariants.{Go}
use Rattle.screen_sequences.specs.Sequences.{does, heard}
use Rattle.screen_sequences.proofs.Codes.{heard_code}
use Rattle.screen_pen.specs.declared.Pen.{Pen}
use Rattle.screen_planning.specs.Naming.{Names}
use Rattle.screen_planning.specs.Changing.{with_sequence}
use Rattle.screen_planning.specs.Obeying.{keeps, entering, start_at, gone, obeyed}
use Rattle.screen_planning.specs.Planning.{planned}
use Rattle.screen_planning.proofs.Plans.{plan_heard}

leads : (r c : ℕ) → Names r c → addressed r c ≡ Some (at (r - 64) (c - 64))
leads r c n =
    simp (le-leb 64 r n.lowest, le-leb r 88 n.highest, le-leb 65 c n.first, le-leb c 104 n.last)

nowhere : (r c : ℕ) → (Names r c → ⊥) → addressed r c ≡ None
nowhere r c f = go (good r c) refl
  where
    go : (t : Bool) → good r c ≡ t → cond t (Some (at (r - 64) (c - 64))) None ≡ None
    go true e =
        let u = each (leb 64 r ∷ leb r 88 ∷ leb 65 c ∷ leb c 104 ∷ []) e in
        absurd
        (f
        (record {
          lowest = leb-true 64 r u.0;
          highest = leb-true r 88 u.1.0;
          first = leb-true 65 c u.1.1.0;
          last = leb-true c 104 u.1.1.1;
        }))
    go false e = refl

-- what the column's code does, by where both lead
column : (p : Pen) (r c : ℕ) (a : Option Place) → p.sequence ≡ Row r → 32 ≤ c → addressed r c ≡ a
    → planned p c ≡ keeps (gone (with_sequence p Free) a)
unfolding obeyed
column p r c a q h e =
    plan_heard p c (does (Go r c)) (ap (λ (x : Sequence). heard x c) q ∙ heard_code (Row r) c (omega (arith, h)))
    ∙ ap (λ (x : Option Place). keeps (gone (with_sequence p Free) x)) e

-- to the place that is named, with start attributes
pub us_there : (p : Pen) (r c : ℕ) → p.sequence ≡ Row r → Names r c
    → planned p c ≡ keeps (start_at (entering (with_sequence p Free) (r - 64)) (at (r - 64) (c - 64)))
unfolding gone
us_there p r c q n = column p r c _ q (omega (arith, n.first)) (leads r c n)

-- else all three codes are dropped
pub us_nowhere : (p : Pen) (r c : ℕ) → p.sequence ≡ Row r → 32 ≤ c → (Names r c → ⊥)
    → planned p c ≡ keeps (with_sequence p Free)
unfolding gone
us_nowhere p r c q h f = column p r c _ q h (nowhere r c f)
