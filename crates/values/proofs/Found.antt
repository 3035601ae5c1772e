-- Laws of the first value that is too large. Assumes nothing.
use mathlib.Core.Path.{◌≡◌, refl, sym, ap, ◌∙◌}
use mathlib.Core.Bool.{Bool, true, false, cond}
use mathlib.Core.List.{List, [], ◌∷◌, ◌++◌}
use Prim.Native.Nat.{ℕ, zero, suc, ◌≤◌, ◌<◌, zero-le}
use native.Mathlib.Nat.{zero-lt-suc, le_of_suc-le-suc, not-suc-le-zero}
use native.Mathlib.Omega.{arith}
use lib.Dec.{ltb}
use lib.ListN.{length, get_or}
use borrow.Author.Tests.{ltb-true, lt-ltb, le-ltb}
use Rattle.std.specs.Prelude.{Option, Some, None, MatchOption, unwrap_or}
use Rattle.std.specs.List.{AllWithin, HoldsAt}
use Rattle.values.specs.Large.{Values, first_large}

-- ---- none is too large exactly when every value is 0 to 127

next : (t : Bool) (m n : ℕ) → suc m ≤ cond t (suc n) 0 → (t ≡ true) × (m ≤ n)
next true m n h = (refl, le_of_suc-le-suc h)
next false m n h = absurd (not-suc-le-zero h)

pub all_small : (vs : List ℕ) → length vs ≤ first_large vs → Values vs
unfolding first_large
all_small [] h i l = absurd (not-suc-le-zero l)
all_small (v ∷ vs) h zero l = ltb-true v 128 (next (ltb v 128) (length vs) (first_large vs) h).0
all_small (v ∷ vs) h (suc i) l =
    all_small vs (next (ltb v 128) (length vs) (first_large vs) h).1 i (le_of_suc-le-suc l)

pub none_large : (vs : List ℕ) → Values vs → first_large vs ≡ length vs
unfolding first_large
none_large [] h = refl
none_large (v ∷ vs) h =
    ap (λ (t : Bool). cond t (suc (first_large vs)) 0) (lt-ltb v 128 (h 0 (zero-lt-suc (length vs))))
    ∙ ap suc (none_large vs (λ i l. h (suc i) (omega (arith, l))))

-- ---- and else it is the place of one with none before it

pub lowest : (vs : List ℕ) (p : ℕ) → p < length vs → 127 < get_or vs p 0 → ((i : ℕ) → i < p → get_or vs i 0 < 128)
    → first_large vs ≡ p
unfolding first_large
lowest [] p h l s = absurd (not-suc-le-zero h)
lowest (v ∷ vs) zero h l s = ap (λ (t : Bool). cond t (suc (first_large vs)) 0) (le-ltb v 128 l)
lowest (v ∷ vs) (suc p) h l s =
    ap (λ (t : Bool). cond t (suc (first_large vs)) 0) (lt-ltb v 128 (s 0 (zero-lt-suc p)))
    ∙ ap suc (lowest vs p (le_of_suc-le-suc h) l (λ i k. s (suc i) (omega (arith, k))))

-- what a search for the first value above 127 finds
pub found : (vs : List ℕ) (r : Option ℕ)
    → MatchOption r (AllWithin (λ (v : ℕ). v < 128) vs 0 (length vs))
    (λ p. (p < length vs) × HoldsAt (λ (v : ℕ). 127 < v) vs p × AllWithin (λ (v : ℕ). v < 128) vs 0 p)
    → unwrap_or r (length vs) ≡ first_large vs
found vs None s = sym (none_large vs (λ i l. s i 0 (zero-le) l))
found vs (Some p) f = sym (lowest vs p f.0 (f.1 0) (λ i l. f.2 i 0 (zero-le) l))

-- ---- values one by one

pub values_none : Values []
values_none i l = absurd (not-suc-le-zero l)

pub values_cons : (v : ℕ) (vs : List ℕ) → v < 128 → Values vs → Values (v ∷ vs)
values_cons v vs h k zero l = h
values_cons v vs h k (suc i) l = k i (le_of_suc-le-suc l)

pub values_head : (v : ℕ) (vs : List ℕ) → Values (v ∷ vs) → v < 128
values_head v vs h = h 0 (zero-lt-suc (length vs))

pub values_tail : (v : ℕ) (vs : List ℕ) → Values (v ∷ vs) → Values vs
values_tail v vs h i l = h (suc i) (omega (arith, l))

-- values, then values
pub values_append : (us vs : List ℕ) → Values us → Values vs → Values (us ++ vs)
values_append [] vs h k i l = k i l
values_append (u ∷ us) vs h k zero l = h 0 (zero-lt-suc (length us))
values_append (u ∷ us) vs h k (suc i) l =
    values_append us vs (λ j m. h (suc j) (omega (arith, m))) k i (le_of_suc-le-suc l)
