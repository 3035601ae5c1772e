-- A test computed at every number below a bound gives its fact at each of them: so a table's rule is proved once,
-- over the whole table. With it stand the small laws of tests. Assumes nothing.
use mathlib.Core.Path.{◌≡◌, refl, subst, subst⁻¹}
use mathlib.Core.Bool.{Bool, true, false, cond, ◌&&◌}
use mathlib.Core.List.{List, [], ◌∷◌}
use mathlib.Core.Logic.{◌⊎◌, inl, inr, ⊎_elim}
use Prim.Native.Nat.{ℕ, zero, suc, ◌≤◌, ◌<◌}
use native.Mathlib.Nat.{le_of_suc-le-suc, not-suc-le-zero, eq-or-lt_of_le}
use lib.Dec.{T, eqb, ltb, eqb→eq}
use borrow.Author.Tests.{ltb-true, ltb-false}

-- ---- tests

pub and_left : (a b : Bool) → T (a && b) → T a
and_left true b t = tt
and_left false b t = t

pub and_right : (a b : Bool) → T (a && b) → T b
and_right true b t = t
and_right false b t = absurd t

pub both : (a b : Bool) → T a → T b → T (a && b)
both true b p q = q
both false b p q = p

-- a test that holds is true, and one that is true holds
pub is_true : (t : Bool) → T t → t ≡ true
is_true true p = refl
is_true false p = absurd p

pub holds : {t : Bool} → t ≡ true → T t
holds e = subst⁻¹ T e tt

pub fails : {t : Bool} → t ≡ false → T t → ⊥
fails e v = subst T e v

-- tests joined one after the other, and what each of them says
abbrev pub every : List Bool → Bool
every [] = true
every (t ∷ []) = t
every (t ∷ u ∷ ts) = t && every (u ∷ ts)

abbrev pub Each : List Bool → Type 0
Each [] = Unit {0}
Each (t ∷ []) = t ≡ true
Each (t ∷ u ∷ ts) = (t ≡ true) × Each (u ∷ ts)

pub each : (ts : List Bool) → every ts ≡ true → Each ts
each [] e = tt
each (t ∷ []) e = e
each (t ∷ u ∷ ts) e = (
  is_true t (and_left t (every (u ∷ ts)) (holds e)),
  each (u ∷ ts) (is_true (every (u ∷ ts)) (and_right t (every (u ∷ ts)) (holds e))),
)

-- what is chosen by a test has a property that both choices have, each where the test chooses it
pub chosen : {A : Type 0} (P : A → Type 0) (t : Bool) {a b : A} → (t ≡ true → P a) → (t ≡ false → P b)
    → P (cond t a b)
chosen P true f g = f refl
chosen P false f g = g refl

-- of two numbers one is less, or not
pub apart : (a b : ℕ) → (a < b) ⊎ (b ≤ a)
apart a b = go (ltb a b) refl
  where
    go : (t : Bool) → ltb a b ≡ t → (a < b) ⊎ (b ≤ a)
    go true e = inl (ltb-true a b e)
    go false e = inr (ltb-false a b e)

-- ---- a test at every number below n

abbrev pub below : (ℕ → Bool) → ℕ → Bool
below f zero = true
below f (suc n) = f n && below f n

pub at : (f : ℕ → Bool) (n : ℕ) → T (below f n) → (k : ℕ) → k < n → T (f k)
at f zero t k h = absurd (not-suc-le-zero h)
at f (suc n) t k h =
    ⊎_elim (λ (e : k ≡ n). subst⁻¹ (λ (m : ℕ). T (f m)) e (and_left (f n) (below f n) t))
    (λ l. at f n (and_right (f n) (below f n) t) k l) (eq-or-lt_of_le (le_of_suc-le-suc h))

-- two functions that agree below n, as a test and as a fact
abbrev pub Equal : (ℕ → ℕ) → (ℕ → ℕ) → ℕ → Type 0
Equal f g n = T (below (λ k. eqb (f k) (g k)) n)

pub equal_at : (f g : ℕ → ℕ) (n : ℕ) → Equal f g n → (k : ℕ) → k < n → f k ≡ g k
equal_at f g n t k h = eqb→eq (f k) (g k) (at (λ (i : ℕ). eqb (f i) (g i)) n t k h)
