-- Lists taken apart: a store that copies one more place, what stands at a place, the last element, and the beginnings
-- of a list. Assumes nothing.
use mathlib.Core.Path.{◌≡◌, refl, sym, ap, ap₂, ◌∙◌, subst⁻¹}
use mathlib.Core.List.{List, [], ◌∷◌, ◌++◌, map, head-eq_of_cons-eq, tail-eq_of_cons-eq}
use mathlib.Core.Logic.{◌⊎◌, inl, inr}
use Prim.Native.Nat.{ℕ, zero, suc, ◌+◌, ◌<◌}
use native.Mathlib.Nat.{le_of_suc-le-suc, not-suc-le-zero}
use native.Mathlib.Numerals.{add-one}
use native.Mathlib.Omega.{arith}
use lib.ListN.{length, get_or, take, drop, set, length-map}
use lib.Seq.{take-suc, drop-cons, set_at, length-take-le, append_snoc}

module _ {A : Type 0} where
  -- one more place of O holds what U has there
  pub put : (U O : List A) (i : ℕ) (z : A) → i < length U → i < length O
      → set (take i U ++ drop i O) i (get_or U i z) ≡ take (i + 1) U ++ drop (i + 1) O
  put U O i z h k =
      ap (λ (l : List A). set (take i U ++ l) i (get_or U i z)) (drop-cons O i z k)
      ∙ set_at (take i U) (get_or O i z) (drop (suc i) O) (get_or U i z) i (length-take-le i U (omega arith))
      ∙ sym (append_snoc (take i U) (get_or U i z) (drop (suc i) O))
      ∙ ap (λ (l : List A). l ++ drop (suc i) O) (sym (take-suc U i z h))
      ∙ ap (λ (n : ℕ). take n U ++ drop n O) (sym (add-one i))

  -- an element that a list has is the same whatever would be read past its end
  pub get_d_any : (l : List A) (i : ℕ) (a b : A) → i < length l → get_or l i a ≡ get_or l i b
  get_d_any [] i a b h = absurd (not-suc-le-zero h)
  get_d_any (x ∷ xs) zero a b h = refl
  get_d_any (x ∷ xs) (suc i) a b h = get_d_any xs i a b (le_of_suc-le-suc h)

  -- ---- the last element

  Filled : List A → Type 0
  Filled [] = ⊥
  Filled (x ∷ xs) = Unit {0}

  pub nil_cons : {x : A} {xs : List A} → [] ≡ x ∷ xs → ⊥
  unfolding Filled
  nil_cons e = subst⁻¹ Filled e tt

  nil_snoc : (xs : List A) (x : A) → [] ≡ xs ++ (x ∷ []) → ⊥
  nil_snoc [] x e = nil_cons e
  nil_snoc (y ∷ xs) x e = nil_cons e

  pub snoc_inj : (xs ys : List A) (x y : A) → xs ++ (x ∷ []) ≡ ys ++ (y ∷ []) → (xs ≡ ys) × (x ≡ y)
  snoc_inj [] [] x y e = (refl, head-eq_of_cons-eq e)
  snoc_inj [] (b ∷ ys) x y e = absurd (nil_snoc ys y (tail-eq_of_cons-eq e))
  snoc_inj (a ∷ xs) [] x y e = absurd (nil_snoc xs x (sym (tail-eq_of_cons-eq e)))
  snoc_inj (a ∷ xs) (b ∷ ys) x y e =
      let r = snoc_inj xs ys x y (tail-eq_of_cons-eq e) in
      (ap₂ (λ (z : A) (l : List A). z ∷ l) (head-eq_of_cons-eq e) r.0, r.1)

  -- ---- beginnings

  nil_right : (vs us : List A) → [] ≡ vs ++ us → us ≡ []
  nil_right [] us e = sym e
  nil_right (v ∷ vs) us e = absurd (nil_cons e)

  -- a beginning of a list with one more is all of it, or a beginning of the list
  pub beginning : (ws : List A) (b : A) (vs us : List A) → ws ++ (b ∷ []) ≡ vs ++ us
      → (us ≡ []) ⊎ ((ts : List A) × (ws ≡ vs ++ ts))
  beginning ws b [] us e = inr (ws, refl)
  beginning [] b (v ∷ vs) us e = inl (nil_right vs us (tail-eq_of_cons-eq e))
  beginning (w ∷ ws) b (v ∷ vs) us e = go (beginning ws b vs us (tail-eq_of_cons-eq e))
    where
      go : (us ≡ []) ⊎ ((ts : List A) × (ws ≡ vs ++ ts)) → (us ≡ []) ⊎ ((ts : List A) × (w ∷ ws ≡ v ∷ (vs ++ ts)))
      go (inl z) = inl z
      go (inr p) = inr (p.0, ap₂ (λ (x : A) (l : List A). x ∷ l) (head-eq_of_cons-eq e) p.1)

-- what owning a struct tells of a field that is an array of structs is said of the list of the elements' own values
pub length_mapped : (X Y : Type 0) (f : X → Y) (l : List X) (n : ℕ) → length (map f l) ≡ n → length l ≡ n
length_mapped X Y f l n e = sym (length-map l f) ∙ e
