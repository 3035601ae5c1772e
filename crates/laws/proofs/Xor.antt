-- Laws of addition without carries, `bit_xor`, that the kit's library lacks: it is associative, and what cancels.
-- Assumes nothing.
use mathlib.Core.Path.{◌≡◌, refl, sym, ap, ap₂, ◌∙◌}
use Prim.Native.Nat.{ℕ, zero, suc, ◌+◌, ◌-◌, ◌*◌, ◌/◌, ◌%◌, ◌^◌, ◌<◌}
use native.Mathlib.Nat.{mod-lt, zero-lt-suc, add-zero}
use native.Mathlib.Omega.{arith}
use lib.Arith.{bin_ind}
use lib.Pow.{pow_pos}
use lib.Bits.{bit_xor, differ, xor_step, xor_shr, xor_mod, xor_self, xor_zero_r, xor_comm, xor_block}

-- ---- single digits

differ_assoc : (x y z : ℕ) → x < 2 → y < 2 → z < 2 → differ (differ x y) z ≡ differ x (differ y z)
differ_assoc zero y z hx hy hz = refl
differ_assoc (suc zero) zero z hx hy hz = refl
differ_assoc (suc zero) (suc zero) zero hx hy hz = refl
differ_assoc (suc zero) (suc zero) (suc zero) hx hy hz = refl
differ_assoc (suc zero) (suc zero) (suc (suc z)) hx hy hz = absurd (omega (arith, hz))
differ_assoc (suc zero) (suc (suc y)) z hx hy hz = absurd (omega (arith, hy))
differ_assoc (suc (suc x)) y z hx hy hz = absurd (omega (arith, hx))

pub digit_xor : (x y : ℕ) → x < 2 → y < 2 → bit_xor x y ≡ differ x y
digit_xor zero y hx hy = refl
digit_xor (suc zero) zero hx hy = refl
digit_xor (suc zero) (suc zero) hx hy = refl
digit_xor (suc zero) (suc (suc y)) hx hy = absurd (omega (arith, hy))
digit_xor (suc (suc x)) y hx hy = absurd (omega (arith, hx))

-- the parity of a sum of two digits
pub digit_sum : (x y : ℕ) → x < 2 → y < 2 → differ x y % 2 ≡ (x + y) % 2
digit_sum zero zero hx hy = refl
digit_sum zero (suc zero) hx hy = refl
digit_sum zero (suc (suc y)) hx hy = absurd (omega (arith, hy))
digit_sum (suc zero) zero hx hy = refl
digit_sum (suc zero) (suc zero) hx hy = refl
digit_sum (suc zero) (suc (suc y)) hx hy = absurd (omega (arith, hy))
digit_sum (suc (suc x)) y hx hy = absurd (omega (arith, hx))

-- adding one turns a digit
pub other_digit : (x : ℕ) → x < 2 → bit_xor x 1 ≡ 1 - x
other_digit zero h = refl
other_digit (suc zero) h = refl
other_digit (suc (suc x)) h = absurd (omega (arith, h))

-- ---- numbers

two : zero < 2
two = zero-lt-suc 1

pub xor_half : (a b : ℕ) → bit_xor a b / 2 ≡ bit_xor (a / 2) (b / 2)
xor_half a b = xor_shr a b 1

pub xor_odd : (a b : ℕ) → bit_xor a b % 2 ≡ differ (a % 2) (b % 2)
xor_odd a b = xor_mod a b 1 ∙ digit_xor (a % 2) (b % 2) (mod-lt a two) (mod-lt b two)

pub xor_assoc : (a b c : ℕ) → bit_xor (bit_xor a b) c ≡ bit_xor a (bit_xor b c)
xor_assoc =
    bin_ind (λ (a : ℕ). (b c : ℕ) → bit_xor (bit_xor a b) c ≡ bit_xor a (bit_xor b c)) (λ b c. refl)
    (λ a ih b c. xor_step (bit_xor a b) c
    ∙ ap₂ (λ (x y : ℕ). bit_xor x (c / 2) * 2 + differ y (c % 2)) (xor_half a b) (xor_odd a b)
    ∙ ap₂ (λ (x y : ℕ). x * 2 + y) (ih (b / 2) (c / 2))
    (differ_assoc (a % 2) (b % 2) (c % 2) (mod-lt a two) (mod-lt b two) (mod-lt c two))
    ∙ ap₂ (λ (x y : ℕ). bit_xor (a / 2) x * 2 + differ (a % 2) y) (sym (xor_half b c)) (sym (xor_odd b c))
    ∙ sym (xor_step a (bit_xor b c)))

-- what is added twice is gone
pub xor_again : (a b : ℕ) → bit_xor (bit_xor a b) b ≡ a
xor_again a b = xor_assoc a b b ∙ ap (bit_xor a) (xor_self b) ∙ xor_zero_r a

-- a difference of zero is none
pub xor_zero_eq : (a b : ℕ) → bit_xor a b ≡ 0 → a ≡ b
xor_zero_eq a b e = sym (xor_again a b) ∙ ap (λ (x : ℕ). bit_xor x b) e

-- four terms in another order
pub xor_four : (a b c d : ℕ) → bit_xor (bit_xor a b) (bit_xor c d) ≡ bit_xor (bit_xor a c) (bit_xor b d)
xor_four a b c d =
    xor_assoc a b (bit_xor c d)
    ∙ ap (bit_xor a) (sym (xor_assoc b c d) ∙ ap (λ (x : ℕ). bit_xor x d) (xor_comm b c) ∙ xor_assoc c b d)
    ∙ sym (xor_assoc a c (bit_xor b d))

-- both moved up by k places
pub xor_scale : (k a b : ℕ) → bit_xor a b * 2 ^ k ≡ bit_xor (a * 2 ^ k) (b * 2 ^ k)
xor_scale k a b =
    sym (ap₂ bit_xor (sym (add-zero (a * 2 ^ k))) (sym (add-zero (b * 2 ^ k)))
    ∙ xor_block k a b 0 0 (pow_pos k) (pow_pos k) ∙ add-zero (bit_xor a b * 2 ^ k))
