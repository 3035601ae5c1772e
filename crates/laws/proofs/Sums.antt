-- Lists of numbers added place by place without carries. Assumes nothing.
use mathlib.Core.Path.{◌≡◌, refl, sym, ap, ap₂, ◌∙◌, subst, subst⁻¹}
use mathlib.Core.List.{List, [], ◌∷◌, ◌++◌, head-eq_of_cons-eq, tail-eq_of_cons-eq}
use Prim.Native.Nat.{ℕ, zero, suc}
use lib.ListN.{length, get_or, take, set, replicate}
use lib.Bits.{bit_xor, xor_zero_r, xor_comm, xor_self}
use Rattle.laws.proofs.Xor.{xor_assoc, xor_again}

-- C is the sum of A and B
pub data Sum : List ℕ → List ℕ → List ℕ → Type 0 where
  none : Sum [] [] []
  more : {a b : ℕ} {A B C : List ℕ} → Sum A B C → Sum (a ∷ A) (b ∷ B) (bit_xor a b ∷ C)

-- there is only one
pub sum_one : {A B C D : List ℕ} → Sum A B C → Sum A B D → C ≡ D
sum_one none none = refl
sum_one (more {a = a} {b = b} s) (more t) = ap (λ (l : List ℕ). bit_xor a b ∷ l) (sum_one s t)

pub sum_length : {A B C : List ℕ} → Sum A B C → length C ≡ length B
sum_length none = refl
sum_length (more t) = ap suc (sum_length t)

pub sum_take : {A B C : List ℕ} → (n : ℕ) → Sum A B C → Sum (take n A) (take n B) (take n C)
sum_take zero t = none
sum_take (suc n) none = none
sum_take (suc n) (more {A = A} {B = B} {C = C} t) = more (sum_take {A = A} {B = B} {C = C} n t)

pub sum_at : {A B C : List ℕ} → (i : ℕ) → Sum A B C → get_or C i 0 ≡ bit_xor (get_or A i 0) (get_or B i 0)
sum_at i none = refl
sum_at zero (more t) = refl
sum_at (suc i) (more t) = sum_at i t

pub sum_append : {A B C D E F : List ℕ} → Sum A B C → Sum D E F → Sum (A ++ D) (B ++ E) (C ++ F)
sum_append none t = t
sum_append (more s) t = more (sum_append s t)

pub sum_zeros : (A : List ℕ) → Sum A (replicate (length A) 0) A
sum_zeros [] = none
sum_zeros (a ∷ A) =
    subst (λ (x : ℕ). Sum (a ∷ A) (0 ∷ replicate (length A) 0) (x ∷ A)) (xor_zero_r a) (more (sum_zeros A))

-- a list with v added at one place
pub sum_set : (A : List ℕ) (i v : ℕ)
    → Sum A (set (replicate (length A) 0) i v) (set A i (bit_xor (get_or A i 0) v))
sum_set [] i v = none
sum_set (a ∷ A) zero v = more (sum_zeros A)
sum_set (a ∷ A) (suc i) v =
    subst (λ (x : ℕ). Sum (a ∷ A) (0 ∷ set (replicate (length A) 0) i v) (x ∷ set A i (bit_xor (get_or A i 0) v)))
    (xor_zero_r a) (more (sum_set A i v))

-- what is added at one place of B is added there to the sum
pub sum_add : {A B C : List ℕ} → (i v : ℕ) → Sum A B C
    → Sum A (set B i (bit_xor (get_or B i 0) v)) (set C i (bit_xor (get_or C i 0) v))
sum_add i v none = none
sum_add zero v (more {a = a} {b = b} {A = A} {B = B} {C = C} t) =
    subst⁻¹ (λ (x : ℕ). Sum (a ∷ A) (bit_xor b v ∷ B) (x ∷ C)) (xor_assoc a b v) (more t)
sum_add (suc i) v (more t) = more (sum_add i v t)

-- what changes nothing is zeros
nothing : (a b : ℕ) → bit_xor a b ≡ a → b ≡ 0
nothing a b e = sym (xor_again b a) ∙ ap (λ (x : ℕ). bit_xor x a) (xor_comm b a ∙ e) ∙ xor_self a

pub sum_nothing : {A B C : List ℕ} → Sum A B C → C ≡ A → B ≡ replicate (length A) 0
sum_nothing none e = refl
sum_nothing (more {a = a} {b = b} t) e =
    ap₂ {C = List ℕ} (λ (x : ℕ) (l : List ℕ). x ∷ l) (nothing a b (head-eq_of_cons-eq e))
    (sum_nothing t (tail-eq_of_cons-eq e))
