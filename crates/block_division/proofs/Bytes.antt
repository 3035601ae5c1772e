-- The bits of numbers and of bytes: each is 0 or 1, and rows of bytes in a row are rows of bits in a row. Assumes
-- nothing.
use mathlib.Core.Path.{◌≡◌, refl, sym, ap, ap₂, ◌∙◌}
use mathlib.Core.List.{List, [], ◌∷◌, ◌++◌, append_assoc, reverse, reverse_aux}
use Prim.Native.Nat.{ℕ, zero, suc, ◌+◌, ◌*◌, ◌/◌, ◌<◌}
use native.Mathlib.Nat.{mod-lt, zero-lt-suc}
use native.Mathlib.Omega.{arith}
use lib.ListN.{length, get_or, replicate, length-append}
use Rattle.block_division.specs.Division.{low_bits, bits}
use Rattle.block_division.specs.Polynomials.{Digits, none, more}

pub low_digits : (n a : ℕ) → Digits (low_bits n a)
unfolding low_bits
low_digits zero a = none
low_digits (suc n) a = more (mod-lt a (zero-lt-suc 1)) (low_digits n (a / 2))

pub append_digits : {xs ys : List ℕ} → Digits xs → Digits ys → Digits (xs ++ ys)
append_digits none e = e
append_digits (more h d) e = more h (append_digits d e)

reverse_onto : {xs ys : List ℕ} → Digits xs → Digits ys → Digits (reverse_aux xs ys)
reverse_onto none e = e
reverse_onto (more h d) e = reverse_onto d (more h e)

pub reverse_digits : {xs : List ℕ} → Digits xs → Digits (reverse xs)
reverse_digits d = reverse_onto d none

pub zero_digits : (n : ℕ) → Digits (replicate n 0)
zero_digits zero = none
zero_digits (suc n) = more (zero-lt-suc 1) (zero_digits n)

pub bits_digits : (A : List ℕ) → Digits (bits A)
unfolding bits
bits_digits [] = none
bits_digits (a ∷ A) = append_digits (low_digits 8 a) (bits_digits A)

pub digit_at : {xs : List ℕ} → Digits xs → (k : ℕ) → get_or xs k 0 < 2
digit_at none k = omega arith
digit_at (more h d) zero = h
digit_at (more h d) (suc k) = digit_at d k

pub bits_append : (A C : List ℕ) → bits (A ++ C) ≡ bits A ++ bits C
unfolding bits
bits_append [] C = refl
bits_append (a ∷ A) C =
    ap (λ (l : List ℕ). low_bits 8 a ++ l) (bits_append A C) ∙ sym (append_assoc (low_bits 8 a) (bits A) (bits C))

pub eight : (b : ℕ) → length (low_bits 8 b) ≡ 8
unfolding low_bits
eight b = refl

pub bits_length : (B : List ℕ) → length (bits B) ≡ length B * 8
unfolding bits
bits_length [] = refl
bits_length (b ∷ B) =
    length-append (low_bits 8 b) (bits B) ∙ ap₂ (λ (x y : ℕ). x + y) (eight b) (bits_length B) ∙ omega arith
