-- Division is linear: what it leaves of a sum of two rows of bits is the sum of what it leaves of each. Assumes
-- nothing.
use mathlib.Core.Path.{◌≡◌, refl, sym, ap, ap₂, ◌∙◌, subst⁻¹}
use mathlib.Core.List.{List, ◌∷◌, reverse, reverse_aux}
use mathlib.Core.Logic.{⊎_elim}
use Prim.Native.Nat.{ℕ, zero, suc, ◌+◌, ◌-◌, ◌*◌, ◌/◌, ◌%◌, ◌^◌, ◌≤◌, ◌<◌}
use native.Mathlib.Omega.{arith}
use lib.Bits.{bit_xor, xor_lt, xor_block, xor_comm, xor_zero_r, xor_mod}
use Rattle.laws.proofs.Computed.{apart}
use Rattle.laws.proofs.Xor.{xor_assoc, xor_four, xor_half}
use Rattle.laws.proofs.Sums.{Sum, none, more, sum_append}
use Rattle.block_division.specs.Division.{low_bits, bits, generator, reduce, divide}
use Rattle.block_division.specs.Polynomials.{Digits}
use Rattle.block_division.specs.Polynomials
use Rattle.block_division.proofs.Steps.{small, large, both_up, reduce_lt}

-- ---- one step

-- power 7 stays where it stands in one of the two
one_up : (n m : ℕ) → 128 ≤ n → n < 256 → m < 128 → 128 ≤ bit_xor n m
one_up n m h k l =
    let p : n ≡ 1 * 2 ^ 7 + (n - 128) = omega arith in
    let q : m ≡ 0 * 2 ^ 7 + m = omega arith in
    let f : n - 128 < 2 ^ 7 = omega arith in
    let e : bit_xor n m ≡ 128 + bit_xor (n - 128) m = ap₂ bit_xor p q ∙ xor_block 7 1 0 (n - 128) m f l in
    omega arith

reduce_xor : (n m : ℕ) → n < 256 → m < 256 → reduce (bit_xor n m) ≡ bit_xor (reduce n) (reduce m)
reduce_xor n m k k' =
    ⊎_elim (λ h. ⊎_elim (ss h) (sl h) (apart m 128)) (λ h. ⊎_elim (ls h) (ll h) (apart m 128)) (apart n 128)
  where
    ss : n < 128 → m < 128 → reduce (bit_xor n m) ≡ bit_xor (reduce n) (reduce m)
    ss h h' = small (bit_xor n m) (xor_lt 7 n m h h') ∙ sym (ap₂ bit_xor (small n h) (small m h'))

    ls : 128 ≤ n → m < 128 → reduce (bit_xor n m) ≡ bit_xor (reduce n) (reduce m)
    ls h h' =
        large (bit_xor n m) (one_up n m h k h')
        ∙ xor_assoc n m generator ∙ ap (bit_xor n) (xor_comm m generator) ∙ sym (xor_assoc n generator m)
        ∙ sym (ap₂ bit_xor (large n h) (small m h'))

    sl : n < 128 → 128 ≤ m → reduce (bit_xor n m) ≡ bit_xor (reduce n) (reduce m)
    sl h h' =
        large (bit_xor n m) (subst⁻¹ (λ (x : ℕ). 128 ≤ x) (xor_comm n m) (one_up m n h' k' h)) ∙ xor_assoc n m generator
        ∙ sym (ap₂ bit_xor (small n h) (large m h'))

    ll : 128 ≤ n → 128 ≤ m → reduce (bit_xor n m) ≡ bit_xor (reduce n) (reduce m)
    ll h h' =
        small (bit_xor n m) (both_up n m h k h' k') ∙ sym (xor_zero_r (bit_xor n m)) ∙ xor_four n m generator generator
        ∙ sym (ap₂ bit_xor (large n h) (large m h'))

-- ---- rows of bits

-- x and y are digits: their sum behind a sum is the sum of both
behind : (r s x y : ℕ) → x < 2 → y < 2 → bit_xor r s * 2 + bit_xor x y ≡ bit_xor (r * 2 + x) (s * 2 + y)
behind r s x y h k = sym (xor_block 1 r s x y h k)

pub divide_sum : {xs ys zs : List ℕ} → Sum xs ys zs → Digits xs → Digits ys → (r s : ℕ) → r < 128 → s < 128
    → divide (bit_xor r s) zs ≡ bit_xor (divide r xs) (divide s ys)
unfolding divide
divide_sum none d e r s h k = refl
divide_sum (more {a = a} {b = b} {C = zs} t) (Polynomials.more i d) (Polynomials.more j e) r s h k =
    ap (λ (x : ℕ). divide x zs)
    (ap reduce (behind r s a b i j) ∙ reduce_xor (r * 2 + a) (s * 2 + b) (omega (arith, h, i)) (omega (arith, k, j)))
    ∙ divide_sum t d e (reduce (r * 2 + a)) (reduce (s * 2 + b)) (reduce_lt (r * 2 + a) (omega (arith, h, i)))
    (reduce_lt (s * 2 + b) (omega (arith, k, j)))

-- ---- the bits of a sum are the sums of the bits

pub low_sum : (n a b : ℕ) → Sum (low_bits n a) (low_bits n b) (low_bits n (bit_xor a b))
unfolding low_bits
low_sum zero a b = none
low_sum (suc n) a b =
    subst⁻¹ (λ (x : ℕ). Sum (a % 2 ∷ low_bits n (a / 2)) (b % 2 ∷ low_bits n (b / 2)) (x ∷ low_bits n (bit_xor a b / 2)))
    (xor_mod a b 1)
    (more (subst⁻¹ (λ (x : ℕ). Sum (low_bits n (a / 2)) (low_bits n (b / 2)) (low_bits n x)) (xor_half a b)
    (low_sum n (a / 2) (b / 2))))

pub bits_sum : {A B C : List ℕ} → Sum A B C → Sum (bits A) (bits B) (bits C)
unfolding bits
bits_sum none = none
bits_sum (more {a = a} {b = b} t) = sum_append (low_sum 8 a b) (bits_sum t)

sum_onto : {A B C D E F : List ℕ} → Sum A B C → Sum D E F → Sum (reverse_aux A D) (reverse_aux B E) (reverse_aux C F)
sum_onto none t = t
sum_onto (more s) t = sum_onto s (more t)

pub sum_reverse : {A B C : List ℕ} → Sum A B C → Sum (reverse A) (reverse B) (reverse C)
sum_reverse s = sum_onto s none
