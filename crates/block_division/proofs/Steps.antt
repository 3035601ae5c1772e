-- One step of the division, and a row of steps: what they leave is below 128, and one row after another is both in
-- a row. Assumes nothing.
use mathlib.Core.Path.{◌≡◌, refl, sym, ap, ap₂, ◌∙◌, subst⁻¹}
use mathlib.Core.Bool.{Bool, cond}
use mathlib.Core.List.{List, [], ◌∷◌, ◌++◌}
use mathlib.Core.Logic.{⊎_elim}
use Prim.Native.Nat.{ℕ, ◌+◌, ◌-◌, ◌*◌, ◌^◌, ◌≤◌, ◌<◌}
use native.Mathlib.Nat.{zero-lt-suc}
use native.Mathlib.Omega.{arith}
use lib.ListN.{replicate}
use lib.Bits.{bit_xor, xor_lt, xor_block}
use borrow.Author.Tests.{lt-ltb, le-ltb}
use Rattle.laws.proofs.Computed.{apart}
use Rattle.block_division.specs.Division.{low_bits, bits, generator, reduce, divide, check_bits}
use Rattle.block_division.specs.Polynomials.{Digits, none, more}
use Rattle.block_division.proofs.Bytes.{bits_digits, zero_digits, append_digits}

-- ---- one step

pub small : (n : ℕ) → n < 128 → reduce n ≡ n
unfolding reduce
small n h = ap (λ (t : Bool). cond t n (bit_xor n generator)) (lt-ltb n 128 h)

pub large : (n : ℕ) → 128 ≤ n → reduce n ≡ bit_xor n generator
unfolding reduce
large n h = ap (λ (t : Bool). cond t n (bit_xor n generator)) (le-ltb n 128 h)

-- power 7 goes where it stands in both
pub both_up : (n m : ℕ) → 128 ≤ n → n < 256 → 128 ≤ m → m < 256 → bit_xor n m < 128
both_up n m h k h' k' =
    let p : n ≡ 1 * 2 ^ 7 + (n - 128) = omega arith in
    let q : m ≡ 1 * 2 ^ 7 + (m - 128) = omega arith in
    let f : n - 128 < 2 ^ 7 = omega arith in
    let g : m - 128 < 2 ^ 7 = omega arith in
    let e : bit_xor n m ≡ 0 + bit_xor (n - 128) (m - 128) = ap₂ bit_xor p q ∙ xor_block 7 1 1 (n - 128) (m - 128) f g in
    omega (arith, xor_lt 7 (n - 128) (m - 128) f g)

pub reduce_lt : (n : ℕ) → n < 256 → reduce n < 128
reduce_lt n k =
    ⊎_elim (λ h. subst⁻¹ (λ (x : ℕ). x < 128) (small n h) h)
    (λ h. subst⁻¹ (λ (x : ℕ). x < 128) (large n h) (both_up n generator h k (omega arith) (omega arith))) (apart n 128)

-- ---- rows of bits

pub divide_append : (r : ℕ) (xs ys : List ℕ) → divide r (xs ++ ys) ≡ divide (divide r xs) ys
unfolding divide
divide_append r [] ys = refl
divide_append r (x ∷ xs) ys = divide_append (reduce (r * 2 + x)) xs ys

pub divide_lt : {xs : List ℕ} → Digits xs → (r : ℕ) → r < 128 → divide r xs < 128
unfolding divide
divide_lt none r h = h
divide_lt (more {x = x} k d) r h = divide_lt d (reduce (r * 2 + x)) (reduce_lt (r * 2 + x) (omega (arith, h, k)))

-- ---- rows of bytes

-- seven zeros behind the bytes
pub zeros_behind : (B : List ℕ) → divide (divide 0 (bits B)) (low_bits 7 0) ≡ check_bits B
unfolding check_bits low_bits
zeros_behind B = sym (divide_append 0 (bits B) (replicate 7 0))

pub check_lt : (B : List ℕ) → check_bits B < 128
unfolding check_bits
check_lt B = divide_lt (append_digits (bits_digits B) (zero_digits 7)) 0 (zero-lt-suc 127)
