-- Bytes written over others: how long these stay, one byte more, and bytes behind others. Assumes nothing.
use mathlib.Core.Path.{◌≡◌, refl, sym, ap, ◌∙◌}
use mathlib.Core.List.{List, [], ◌∷◌, ◌++◌}
use Prim.Native.Nat.{ℕ, zero, suc, ◌+◌, ◌-◌, ◌≤◌, min}
use native.Mathlib.Nat.{not-suc-le-zero, le_of_suc-le-suc, add-suc, suc-add}
use native.Mathlib.Omega.{arith}
use lib.ListN.{length, take, drop, set, length-append}
use Rattle.lent.specs.Memory.{written, behind}

pub length_written : (out : List ℕ) (at : ℕ) (vs : List ℕ) → length (written out at vs) ≡ length out
length_written [] at vs = refl
length_written (o ∷ out) zero [] = refl
length_written (o ∷ out) zero (v ∷ vs) = ap suc (length_written out zero vs)
length_written (o ∷ out) (suc at) vs = ap suc (length_written out at vs)

pub none_written : (out : List ℕ) (at : ℕ) → written out at [] ≡ out
none_written [] at = refl
none_written (o ∷ out) zero = refl
none_written (o ∷ out) (suc at) = ap (λ (r : List ℕ). o ∷ r) (none_written out at)

-- there is no such place
pub no_place : (out : List ℕ) (at : ℕ) (vs : List ℕ) → length out ≤ at → written out at vs ≡ out
no_place [] at vs h = refl
no_place (o ∷ out) zero vs h = absurd (not-suc-le-zero h)
no_place (o ∷ out) (suc at) vs h = ap (λ (r : List ℕ). o ∷ r) (no_place out at vs (le_of_suc-le-suc h))

-- one more
pub one_more : (out : List ℕ) (at : ℕ) (vs : List ℕ) (v : ℕ)
    → set (written out at vs) (at + length vs) v ≡ written out at (vs ++ (v ∷ []))
one_more [] at vs v = refl
one_more (o ∷ out) zero [] v = ap (λ (r : List ℕ). v ∷ r) (sym (none_written out zero))
one_more (o ∷ out) zero (u ∷ vs) v =
    ap (λ (k : ℕ). set (u ∷ written out zero vs) k v) (add-suc zero (length vs))
    ∙ ap (λ (r : List ℕ). u ∷ r) (one_more out zero vs v)
one_more (o ∷ out) (suc at) vs v =
    ap (λ (k : ℕ). set (o ∷ written out at vs) k v) (suc-add at (length vs))
    ∙ ap (λ (r : List ℕ). o ∷ r) (one_more out at vs v)

-- some bytes, and then others behind them
pub twice : (out : List ℕ) (at : ℕ) (a b : List ℕ)
    → written (written out at a) (behind out at a) b ≡ written out at (a ++ b)
twice [] at a b = refl
twice (o ∷ out) zero [] b =
    let none : zero + min 0 (suc (length out) - zero) ≡ zero = omega arith in
    ap (λ (k : ℕ). written (o ∷ out) k b) none
twice (o ∷ out) zero (v ∷ a) b =
    let one : zero + min (suc (length a)) (suc (length out) - zero) ≡ suc (behind out zero a) = omega arith in
    ap (λ (k : ℕ). written (v ∷ written out zero a) k b) one ∙ ap (λ (r : List ℕ). v ∷ r) (twice out zero a b)
twice (o ∷ out) (suc at) a b =
    let one : suc at + min (length a) (suc (length out) - suc at) ≡ suc (behind out at a) = omega arith in
    ap (λ (k : ℕ). written (o ∷ written out at a) k b) one ∙ ap (λ (r : List ℕ). o ∷ r) (twice out at a b)

pub behind_twice : (out : List ℕ) (at : ℕ) (a b : List ℕ)
    → behind (written out at a) (behind out at a) b ≡ behind out at (a ++ b)
behind_twice out at a b = simp (length_written, length-append) (omega arith)

-- as many are put there as fit
pub put_over : (out : List ℕ) (at : ℕ) (vs : List ℕ) (n : ℕ) → at ≤ length out → n ≡ min (length vs) (length out - at)
    → take at out ++ (take n vs ++ drop n (drop at out)) ≡ written out at vs
put_over [] zero vs zero h e = refl
put_over [] zero vs (suc n) h e = absurd (omega (arith, e))
put_over [] (suc at) vs n h e = absurd (omega (arith, h))
put_over (o ∷ out) zero [] zero h e = refl
put_over (o ∷ out) zero [] (suc n) h e = absurd (omega (arith, e))
put_over (o ∷ out) zero (v ∷ vs) zero h e = absurd (omega (arith, e))
put_over (o ∷ out) zero (v ∷ vs) (suc n) h e =
    ap (λ (r : List ℕ). v ∷ r) (put_over out zero vs n (omega arith) (omega (arith, e)))
put_over (o ∷ out) (suc at) vs n h e =
    ap (λ (r : List ℕ). o ∷ r) (put_over out at vs n (omega (arith, h)) (omega (arith, e)))

-- ---- where all of them fit

pub behind_all : (out : List ℕ) (at : ℕ) (vs : List ℕ) → at + length vs ≤ length out → behind out at vs ≡ at + length vs
behind_all out at vs h = omega arith

pub begins : (out vs : List ℕ) → length vs ≤ length out → written out 0 vs ≡ vs ++ drop (length vs) out
begins [] [] h = refl
begins [] (v ∷ vs) h = absurd (not-suc-le-zero h)
begins (o ∷ out) [] h = refl
begins (o ∷ out) (v ∷ vs) h = ap (λ (r : List ℕ). v ∷ r) (begins out vs (le_of_suc-le-suc h))

pub up_to : (out : List ℕ) (at : ℕ) (vs : List ℕ) → at + length vs ≤ length out
    → take (at + length vs) (written out at vs) ≡ take at out ++ vs
up_to [] zero [] h = refl
up_to [] zero (v ∷ vs) h = absurd (omega (arith, h))
up_to [] (suc at) vs h = absurd (omega (arith, h))
up_to (o ∷ out) zero [] h = refl
up_to (o ∷ out) zero (v ∷ vs) h =
    ap (λ (k : ℕ). take k (v ∷ written out zero vs)) (add-suc zero (length vs))
    ∙ ap (λ (r : List ℕ). v ∷ r) (up_to out zero vs (omega (arith, h)))
up_to (o ∷ out) (suc at) vs h =
    ap (λ (k : ℕ). take k (o ∷ written out at vs)) (suc-add at (length vs))
    ∙ ap (λ (r : List ℕ). o ∷ r) (up_to out at vs (omega (arith, h)))
