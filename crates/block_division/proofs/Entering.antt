-- How a byte enters the division in one step: the check bits so far, mirrored, are added to it, and it leaves what it
-- would leave alone. So a table with an entry for each byte is enough. Assumes nothing.
use mathlib.Core.Path.{◌≡◌, sym, ap, ap₂, ◌∙◌}
use mathlib.Core.Bool.{Bool}
use mathlib.Core.List.{List, [], ◌∷◌, ◌++◌, append_assoc, append-nil}
use Prim.Native.Nat.{ℕ, ◌+◌, ◌<◌}
use native.Mathlib.Nat.{zero-lt-suc}
use native.Mathlib.Numerals.{add-one}
use native.Mathlib.Omega.{arith}
use lib.Dec.{T, ltb, ltb→lt}
use lib.ListN.{length, get_or, take}
use lib.Seq.{take-suc}
use lib.Bits.{bit_xor, xor_lt, xor_zero_r, xor_comm}
use Rattle.laws.proofs.Computed.{below, at, Equal, equal_at}
use Rattle.laws.proofs.Sums.{sum_append}
use Rattle.block_division.specs.Division.{low_bits, bits, reduce, divide, check_bits}
use Rattle.block_division.specs.Polynomials.{polynomial}
use Rattle.block_division.specs.Table.{mirrored, entering, Remainders}
use Rattle.block_division.proofs.Bytes.{low_digits, append_digits, bits_digits, bits_append}
use Rattle.block_division.proofs.Steps.{divide_append, divide_lt, zeros_behind, check_lt}
use Rattle.block_division.proofs.Linear.{divide_sum, low_sum}

-- ---- the rule of a table: one test over all its entries, and the law that carries it to each

pub rule : (table : List ℕ) → Equal (λ b. get_or table b 0) entering 256 → Remainders table
unfolding Remainders
rule table = equal_at (λ b. get_or table b 0) entering 256

-- ---- seven bits mirrored

all_back : Equal (λ c. mirrored (mirrored c)) (λ c. c) 128
unfolding low_bits mirrored polynomial
all_back = tt

small : ℕ → Bool
small c = ltb (mirrored c) 128

all_small : T (below small 128)
unfolding small low_bits mirrored polynomial
all_small = tt

-- ---- a remainder before eight bits is its check bits, mirrored, added to them

abbrev zeros : List ℕ
zeros = low_bits 7 0

abbrev before : ℕ → ℕ
before r = divide r (low_bits 8 0 ++ zeros)

abbrev added : ℕ → ℕ
added r = divide 0 (low_bits 8 (mirrored (divide r zeros)) ++ zeros)

all_added : Equal before added 128
unfolding low_bits reduce divide mirrored polynomial
all_added = tt

-- eight bits of x behind r, and eight of y behind s, seven zeros behind each: what the sums leave is the sum
split : (r s x y : ℕ) → r < 128 → s < 128 → divide (bit_xor r s) (low_bits 8 (bit_xor x y) ++ zeros)
    ≡ bit_xor (divide r (low_bits 8 x ++ zeros)) (divide s (low_bits 8 y ++ zeros))
split r s x y h k =
    divide_sum (sum_append (low_sum 8 x y) (low_sum 7 0 0)) (append_digits (low_digits 8 x) (low_digits 7 0))
    (append_digits (low_digits 8 y) (low_digits 7 0)) r s h k

zero_l : (x : ℕ) → bit_xor 0 x ≡ x
zero_l x = xor_comm 0 x ∙ xor_zero_r x

entered : (r b : ℕ) → r < 128
    → divide r (low_bits 8 b ++ zeros) ≡ divide 0 (low_bits 8 (bit_xor (mirrored (divide r zeros)) b) ++ zeros)
entered r b h =
    let m : ℕ = mirrored (divide r zeros) in
    sym (ap₂ (λ (x y : ℕ). divide x (low_bits 8 y ++ zeros)) (xor_zero_r r) (zero_l b))
    ∙ split r 0 0 b h (zero-lt-suc 127)
    ∙ ap (λ (x : ℕ). bit_xor x (divide 0 (low_bits 8 b ++ zeros))) (equal_at before added 128 all_added r h)
    ∙ sym (split 0 0 m b (zero-lt-suc 127) (zero-lt-suc 127))
    ∙ ap (λ (x : ℕ). divide x (low_bits 8 (bit_xor m b) ++ zeros)) (xor_zero_r 0)

-- ---- one byte more

one : (b : ℕ) → check_bits (b ∷ []) ≡ divide 0 (low_bits 8 b ++ zeros)
unfolding check_bits bits low_bits
one b = ap (λ (l : List ℕ). divide 0 (l ++ zeros)) (append-nil (low_bits 8 b))

behind : (B : List ℕ) (b : ℕ) → check_bits (B ++ (b ∷ [])) ≡ divide (divide 0 (bits B)) (low_bits 8 b ++ zeros)
unfolding check_bits bits low_bits
behind B b =
    ap (λ (l : List ℕ). divide 0 (l ++ zeros))
    (bits_append B (b ∷ []) ∙ ap (λ (l : List ℕ). bits B ++ l) (append-nil (low_bits 8 b)))
    ∙ ap (divide 0) (append_assoc (bits B) (low_bits 8 b) zeros)
    ∙ divide_append 0 (bits B) (low_bits 8 b ++ zeros)

below_128 : (B : List ℕ) → divide 0 (bits B) < 128
below_128 B = divide_lt (bits_digits B) 0 (zero-lt-suc 127)

pub byte_more : (B : List ℕ) (b : ℕ)
    → mirrored (check_bits (B ++ (b ∷ []))) ≡ entering (bit_xor (mirrored (check_bits B)) b)
unfolding entering
byte_more B b =
    ap mirrored
    (behind B b ∙ entered (divide 0 (bits B)) b (below_128 B)
    ∙ ap (λ (c : ℕ). divide 0 (low_bits 8 (bit_xor (mirrored c) b) ++ zeros)) (zeros_behind B)
    ∙ sym (one (bit_xor (mirrored (check_bits B)) b)))

-- what is added to a byte is below 128, so that their sum is a byte again; mirrored again it is the check bits
pub so_far_lt : (B : List ℕ) → mirrored (check_bits B) < 128
unfolding small
so_far_lt B = ltb→lt (mirrored (check_bits B)) 128 (at small 128 all_small (check_bits B) (check_lt B))

pub place_lt : (B : List ℕ) (b : ℕ) → b < 256 → bit_xor (mirrored (check_bits B)) b < 256
place_lt B b h = xor_lt 8 (mirrored (check_bits B)) b (omega (arith, so_far_lt B)) h

pub back_again : (B : List ℕ) → mirrored (mirrored (check_bits B)) ≡ check_bits B
back_again B = equal_at (λ c. mirrored (mirrored c)) (λ c. c) 128 all_back (check_bits B) (check_lt B)

-- the first i bytes and the next
pub next_byte : (B : List ℕ) (i : ℕ) → i < length B
    → entering (bit_xor (mirrored (check_bits (take i B))) (get_or B i 0)) ≡ mirrored (check_bits (take (i + 1) B))
next_byte B i h =
    sym (byte_more (take i B) (get_or B i 0))
    ∙ ap (λ (l : List ℕ). mirrored (check_bits l)) (sym (ap (λ (n : ℕ). take n B) (add-one i) ∙ take-suc B i 0 h))
