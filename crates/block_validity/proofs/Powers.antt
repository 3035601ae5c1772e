-- The code bits of a block: which power each stands for, that their remainder is linear, and that it is zero
-- exactly where the generator divides. Assumes nothing.
use mathlib.Core.Path.{◌≡◌, refl, sym, ap, ap₂, ◌∙◌, subst⁻¹}
use mathlib.Core.Bool.{Bool, cond}
use mathlib.Core.List.{List, reverse}
use mathlib.Core.Logic.{◌↔◌}
use Prim.Native.Nat.{ℕ, ◌+◌, ◌-◌, ◌*◌, ◌%◌, ◌^◌, ◌<◌}
use native.Mathlib.Nat.{mod-lt, zero-lt-suc}
use native.Mathlib.Omega.{arith}
use lib.Dec.{T, eqb, ltb, eqb→eq}
use lib.ListN.{length, get_or, take, length-append, get_or-eq_default}
use lib.Seq.{take_all, length-take-le}
use lib.Bits.{bit_xor, xor_zero_r}
use borrow.Author.Tests.{lt-ltb, le-ltb}
use Rattle.laws.proofs.Computed.{below, at}
use Rattle.laws.proofs.Sums.{Sum, sum_take, sum_at, sum_append}
use Rattle.block_division.specs.Division.{low_bits, bits, reduce, divide, check_bits}
use Rattle.block_division.specs.Polynomials.{polynomial, GeneratorDivides, Digits}
use Rattle.block_division.proofs.Bytes.{low_digits, append_digits, reverse_digits, bits_digits, bits_length}
use Rattle.block_division.proofs.Steps.{divide_append, divide_lt, zeros_behind}
use Rattle.block_division.proofs.Linear.{divide_sum, low_sum, bits_sum, sum_reverse}
use Rattle.block_division.proofs.Divides.{nothing_left}
use Rattle.block_parity.proofs.Parities.{seven}
use Rattle.block_validity.specs.Block.{code_bits, remainder}
use Rattle.block_validity.specs.Units.{unit}

-- ---- which power each bit stands for: place k alone spells x^(126 - k), and in byte 16 weight 2^i spells x^i

stands_for : ℕ → ℕ
stands_for k = cond (ltb k 120) (126 - k) (k - 120)

spelt : ℕ → Bool
spelt k = eqb (polynomial 0 (code_bits (unit k))) (2 ^ stands_for k)

all_spelt : T (below spelt 127)
unfolding spelt stands_for polynomial code_bits bits low_bits
all_spelt = tt

spells : (k : ℕ) → k < 127 → polynomial 0 (code_bits (unit k)) ≡ 2 ^ stands_for k
unfolding spelt
spells k h = eqb→eq (polynomial 0 (code_bits (unit k))) (2 ^ stands_for k) (at spelt 127 all_spelt k h)

pub power_of_useful : (k : ℕ) → k < 120 → polynomial 0 (code_bits (unit k)) ≡ 2 ^ (126 - k)
unfolding stands_for
power_of_useful k h =
    spells k (omega (arith, h)) ∙ ap (λ (t : Bool). 2 ^ cond t (126 - k) (k - 120)) (lt-ltb k 120 h)

pub power_of_check : (i : ℕ) → i < 7 → polynomial 0 (code_bits (unit (120 + i))) ≡ 2 ^ i
unfolding stands_for
power_of_check i h =
    let e : 120 + i - 120 ≡ i = omega arith in
    spells (120 + i) (omega (arith, h))
    ∙ ap (λ (t : Bool). 2 ^ cond t (126 - (120 + i)) (120 + i - 120)) (le-ltb (120 + i) 120 (omega arith))
    ∙ ap (λ (n : ℕ). 2 ^ n) e

-- ---- the row of code bits

pub code_digits : (B : List ℕ) → Digits (code_bits B)
unfolding code_bits
code_digits B = append_digits (bits_digits (take 15 B)) (reverse_digits (low_digits 7 (get_or B 15 0)))

pub code_length : (B : List ℕ) → length B ≡ 17 → length (code_bits B) ≡ 127
unfolding code_bits low_bits
code_length B e =
    let l : length (take 15 B) ≡ 15 = length-take-le 15 B (omega arith) in
    length-append (bits (take 15 B)) (reverse (low_bits 7 (get_or B 15 0)))
    ∙ ap (λ (n : ℕ). n + 7) (bits_length (take 15 B) ∙ ap (λ (n : ℕ). n * 8) l)

pub remainder_lt : (B : List ℕ) → remainder B < 128
unfolding remainder
remainder_lt B = divide_lt (code_digits B) 0 (zero-lt-suc 127)

-- the remainder is zero exactly where the generator divides
pub divisible : (B : List ℕ) → remainder B ≡ 0 ↔ GeneratorDivides (code_bits B)
unfolding remainder
divisible B = nothing_left (code_digits B)

-- ---- the remainder of a sum

pub code_sum : {A B C : List ℕ} → Sum A B C → Sum (code_bits A) (code_bits B) (code_bits C)
unfolding code_bits
code_sum {A} {B} {C} t =
    let a : ℕ = get_or A 15 0 in
    let b : ℕ = get_or B 15 0 in
    sum_append (bits_sum (sum_take 15 t))
    (subst⁻¹ (λ (c : ℕ). Sum (reverse (low_bits 7 a)) (reverse (low_bits 7 b)) (reverse (low_bits 7 c))) (sum_at 15 t)
    (sum_reverse (low_sum 7 a b)))

pub remainder_sum : {A B C : List ℕ} → Sum A B C → remainder C ≡ bit_xor (remainder A) (remainder B)
unfolding remainder
remainder_sum {A} {B} {C} t =
    divide_sum (code_sum t) (code_digits A) (code_digits B) 0 0 (zero-lt-suc 127) (zero-lt-suc 127)

-- ---- byte 16 enters last: its powers stand as they are, so they are added to the check bits of the bytes before it

stands : ℕ → Bool
stands c = eqb (divide 0 (reverse (low_bits 7 c))) c

all_stand : T (below stands 128)
unfolding stands divide reduce low_bits
all_stand = tt

zeros_high : reverse (low_bits 7 0) ≡ low_bits 7 0
unfolding low_bits
zeros_high = refl

pub added_last : (r c : ℕ) → r < 128 → divide r (reverse (low_bits 7 c)) ≡ bit_xor (divide r (low_bits 7 0)) (c % 128)
unfolding stands
added_last r c h =
    ap (λ (x : ℕ). divide x (reverse (low_bits 7 c))) (sym (xor_zero_r r))
    ∙ divide_sum (sum_reverse (low_sum 7 0 c)) (reverse_digits (low_digits 7 0)) (reverse_digits (low_digits 7 c)) r 0 h
    (zero-lt-suc 127)
    ∙ ap₂ bit_xor (ap (divide r) zeros_high)
    (ap (λ (l : List ℕ). divide 0 (reverse l)) (sym (seven c))
    ∙ eqb→eq (divide 0 (reverse (low_bits 7 (c % 128)))) (c % 128)
    (at stands 128 all_stand (c % 128) (mod-lt c (zero-lt-suc 127))))

pub remainder_by_check : (B : List ℕ) → remainder B ≡ bit_xor (check_bits (take 15 B)) (get_or B 15 0 % 128)
unfolding remainder code_bits
remainder_by_check B =
    divide_append 0 (bits (take 15 B)) (reverse (low_bits 7 (get_or B 15 0)))
    ∙ added_last (divide 0 (bits (take 15 B))) (get_or B 15 0) (divide_lt (bits_digits (take 15 B)) 0 (zero-lt-suc 127))
    ∙ ap (λ (x : ℕ). bit_xor x (get_or B 15 0 % 128)) (zeros_behind (take 15 B))

-- where there is no byte 16
pub remainder_short : (B : List ℕ) → length B < 16 → remainder B ≡ check_bits B
remainder_short B h =
    remainder_by_check B
    ∙ ap₂ (λ (l : List ℕ) (c : ℕ). bit_xor (check_bits l) (c % 128)) (take_all 15 B (omega arith))
    (get_or-eq_default B 0 {n = 15} (omega arith))
    ∙ xor_zero_r (check_bits B)
