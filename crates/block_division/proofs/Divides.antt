-- The remainder is that of polynomials: it is zero exactly where the bits spell a multiple of the generator.
-- Assumes nothing.
use mathlib.Core.Path.{◌≡◌, refl, sym, ap, ap₂, ◌∙◌, subst, subst⁻¹}
use mathlib.Core.List.{List}
use mathlib.Core.Logic.{⊎_elim, ◌↔◌}
use Prim.Native.Nat.{ℕ, zero, suc, ◌+◌, ◌*◌, ◌/◌, ◌^◌, ◌<◌}
use native.Mathlib.Nat.{zero-lt-suc, add-zero, pow-suc, mul-div_cancel}
use native.Mathlib.Omega.{arith}
use lib.Pow.{pow_pos}
use lib.Bits.{bit_xor, xor_lt, xor_block, xor_shr, xor_comm, xor_zero_r}
use Rattle.laws.proofs.Computed.{apart}
use Rattle.laws.proofs.Xor.{xor_again, xor_zero_eq, xor_four, xor_scale}
use Rattle.block_division.specs.Division.{generator, reduce, divide}
use Rattle.block_division.specs.Polynomials.{polynomial, times, GeneratorDivides, Digits, none, more}
use Rattle.block_division.proofs.Steps.{small, large, reduce_lt, divide_lt}

-- ---- multiples of the generator

times_xor : (a b : ℕ) → times (bit_xor a b) ≡ bit_xor (times a) (times b)
unfolding times
times_xor a b =
    ap₂ (λ (x y : ℕ). bit_xor x (bit_xor y (bit_xor a b))) (xor_scale 7 a b) (xor_scale 3 a b)
    ∙ ap (bit_xor (bit_xor (a * 128) (b * 128))) (xor_four (a * 8) (b * 8) a b)
    ∙ xor_four (a * 128) (b * 128) (bit_xor (a * 8) a) (bit_xor (b * 8) b)

times_double : (q : ℕ) → times (q * 2) ≡ times q * 2
unfolding times
times_double q =
    let e : q * 2 * 128 ≡ q * 128 * 2 = omega arith in
    let f : q * 2 * 8 ≡ q * 8 * 2 = omega arith in
    ap₂ (λ (x y : ℕ). bit_xor x (bit_xor y (q * 2))) e f
    ∙ ap (bit_xor (q * 128 * 2)) (sym (xor_scale 1 (q * 8) q)) ∙ sym (xor_scale 1 (q * 128) (bit_xor (q * 8) q))

times_zero : times 0 ≡ 0
unfolding times
times_zero = refl

times_one : times 1 ≡ generator
unfolding times
times_one = refl

-- ---- the division keeps: what was read is a multiple and the remainder

step : (q r b : ℕ) → r < 128 → b < 2
    → (p : ℕ) × (bit_xor (times q) r * 2 + b ≡ bit_xor (times p) (reduce (r * 2 + b)))
step q r b h k =
    let m : ℕ = r * 2 + b in
    let e : bit_xor (times q) r * 2 + b ≡ bit_xor (times (q * 2)) m
    = sym (ap (λ (x : ℕ). bit_xor x m) (times_double q ∙ sym (add-zero (times q * 2)))
    ∙ xor_block 1 (times q) r 0 b (zero-lt-suc 1) k) in
    ⊎_elim (λ s. (q * 2, e ∙ ap (bit_xor (times (q * 2))) (sym (small m s))))
    (λ l. (
      bit_xor (q * 2) 1,
      e ∙ sym (xor_zero_r (bit_xor (times (q * 2)) m)) ∙ xor_four (times (q * 2)) m generator generator
          ∙ ap₂ bit_xor (sym (times_xor (q * 2) 1 ∙ ap (bit_xor (times (q * 2))) times_one)) (sym (large m l)),
    )) (apart m 128)

divides : {xs : List ℕ} → Digits xs → (n q r : ℕ) → r < 128 → n ≡ bit_xor (times q) r
    → (p : ℕ) × (polynomial n xs ≡ bit_xor (times p) (divide r xs))
unfolding polynomial divide
divides none n q r h e = (q, e)
divides (more {x = x} {xs = xs} k d) n q r h e =
    let s : (p : ℕ) × (bit_xor (times q) r * 2 + x ≡ bit_xor (times p) (reduce (r * 2 + x))) = step q r x h k in
    divides d (n * 2 + x) s.0 (reduce (r * 2 + x)) (reduce_lt (r * 2 + x) (omega (arith, h, k)))
    (ap (λ (y : ℕ). y * 2 + x) e ∙ s.1)

-- ---- no multiple but zero is below the generator's top power

high_part : (p : ℕ) → times p < 128 → p ≡ bit_xor (p * 8 / 128) (p / 128)
unfolding times
high_part p h =
    let z : bit_xor (p * 128) (bit_xor (p * 8) p) / 128 ≡ 0 = omega (arith, h) in
    xor_zero_eq p (bit_xor (p * 8 / 128) (p / 128))
    (ap₂ bit_xor (sym (mul-div_cancel p (zero-lt-suc 127))) (sym (xor_shr (p * 8) p 7))
    ∙ sym (xor_shr (p * 128) (bit_xor (p * 8) p) 7) ∙ z)

shrink : (p k : ℕ) → p ≡ bit_xor (p * 8 / 128) (p / 128) → p < 2 ^ suc k → p < 2 ^ k
shrink p k e h =
    let g : p < 2 ^ k * 2 = subst (λ (x : ℕ). p < x) (pow-suc 2 k) h in
    subst⁻¹ (λ (x : ℕ). x < 2 ^ k) e
    (xor_lt k (p * 8 / 128) (p / 128) (omega (arith, g, pow_pos k)) (omega (arith, g, pow_pos k)))

down : (p k : ℕ) → p ≡ bit_xor (p * 8 / 128) (p / 128) → p < 2 ^ k → p ≡ 0
down p zero e h = omega (arith, h)
down p (suc k) e h = down p k e (shrink p k e h)

below_power : (n : ℕ) → n < 2 ^ n
below_power zero = zero-lt-suc 0
below_power (suc n) = subst⁻¹ (λ (x : ℕ). suc n < x) (pow-suc 2 n) (omega (arith, below_power n))

no_small : (p : ℕ) → times p < 128 → p ≡ 0
no_small p h = down p p (high_part p h) (below_power p)

-- ---- nothing is left exactly where the generator divides

pub nothing_left : {xs : List ℕ} → Digits xs → divide 0 xs ≡ 0 ↔ GeneratorDivides xs
nothing_left {xs} d = (λ z. (w.0, w.1 ∙ ap (bit_xor (times w.0)) z ∙ xor_zero_r (times w.0)), back)
  where
    w : (p : ℕ) × (polynomial 0 xs ≡ bit_xor (times p) (divide 0 xs))
    w = divides d 0 0 0 (zero-lt-suc 127) (sym (ap (λ (x : ℕ). bit_xor x 0) times_zero))

    back : GeneratorDivides xs → divide 0 xs ≡ 0
    back v =
        let e : times (bit_xor v.0 w.0) ≡ divide 0 xs
        = times_xor v.0 w.0
        ∙ ap (λ (x : ℕ). bit_xor x (times w.0)) (sym v.1 ∙ w.1 ∙ xor_comm (times w.0) (divide 0 xs))
        ∙ xor_again (divide 0 xs) (times w.0) in
        let z : bit_xor v.0 w.0 ≡ 0
        = no_small (bit_xor v.0 w.0) (subst⁻¹ (λ (x : ℕ). x < 128) e (divide_lt d 0 (zero-lt-suc 127))) in
        sym e ∙ ap times z ∙ times_zero
