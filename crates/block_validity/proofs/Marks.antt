-- What each bit alone does to the remainder and to the last byte, computed once for all 136 bits: no two do the
-- same, and each changes the number of ones by one. Assumes nothing.
use mathlib.Core.Path.{◌≡◌, sym, ap, ap₂, ◌∙◌}
use mathlib.Core.Bool.{Bool, cond}
use mathlib.Core.List.{List, [], ◌∷◌}
use Prim.Native.Nat.{ℕ, suc, ◌+◌, ◌*◌, ◌/◌, ◌%◌, ◌^◌, ◌<◌}
use native.Mathlib.Omega.{arith}
use lib.Dec.{T, eqb, eqb→eq}
use lib.ListN.{get_or, replicate}
use lib.Seq.{get_or-set_other}
use lib.Bits.{bit_xor, xor_block}
use Rattle.laws.proofs.Computed.{below, at}
use Rattle.laws.proofs.Sums.{Sum, sum_at}
use Rattle.block_division.specs.Division.{low_bits, bits, reduce, divide}
use Rattle.block_parity.specs.Parity.{ones}
use Rattle.block_validity.specs.Block.{code_bits, remainder}
use Rattle.block_validity.specs.Units.{unit}
use Rattle.block_validity.proofs.Powers.{remainder_sum, remainder_lt}

-- the mark of a block: its last byte and its remainder in one number. Of a valid block it is zero
unfoldable pub mark : List ℕ → ℕ
mark B = get_or B 16 0 * 128 + remainder B

pub mark_sum : {A B C : List ℕ} → Sum A B C → mark C ≡ bit_xor (mark A) (mark B)
unfolding mark
mark_sum {A} {B} {C} t =
    ap₂ (λ (x y : ℕ). x * 128 + y) (sum_at 16 t) (remainder_sum t)
    ∙ sym (xor_block 7 (get_or A 16 0) (get_or B 16 0) (remainder A) (remainder B) (remainder_lt A) (remainder_lt B))

-- the mark of each bit alone; the parity bit of byte 16, in place 127, has none
marks : List ℕ
marks =
    68 ∷ 34 ∷ 17 ∷ 76 ∷ 38 ∷ 19 ∷ 77 ∷ 98 ∷ 49 ∷ 92 ∷ 46 ∷ 23 ∷ 79 ∷ 99 ∷ 117 ∷ 126 ∷ 63 ∷ 91 ∷ 105 ∷ 112 ∷ 56 ∷ 28 ∷
    14 ∷ 7 ∷ 71 ∷ 103 ∷ 119 ∷ 127 ∷ 123 ∷ 121 ∷ 120 ∷ 60 ∷ 30 ∷ 15 ∷ 67 ∷ 101 ∷ 118 ∷ 59 ∷ 89 ∷ 104 ∷ 52 ∷ 26 ∷ 13 ∷
    66 ∷ 33 ∷ 84 ∷ 42 ∷ 21 ∷ 78 ∷ 39 ∷ 87 ∷ 111 ∷ 115 ∷ 125 ∷ 122 ∷ 61 ∷ 90 ∷ 45 ∷ 82 ∷ 41 ∷ 80 ∷ 40 ∷ 20 ∷ 10 ∷ 5 ∷
    70 ∷ 35 ∷ 85 ∷ 110 ∷ 55 ∷ 95 ∷ 107 ∷ 113 ∷ 124 ∷ 62 ∷ 31 ∷ 75 ∷ 97 ∷ 116 ∷ 58 ∷ 29 ∷ 74 ∷ 37 ∷ 86 ∷ 43 ∷ 81 ∷
    108 ∷ 54 ∷ 27 ∷ 73 ∷ 96 ∷ 48 ∷ 24 ∷ 12 ∷ 6 ∷ 3 ∷ 69 ∷ 102 ∷ 51 ∷ 93 ∷ 106 ∷ 53 ∷ 94 ∷ 47 ∷ 83 ∷ 109 ∷ 114 ∷ 57 ∷
    88 ∷ 44 ∷ 22 ∷ 11 ∷ 65 ∷ 100 ∷ 50 ∷ 25 ∷ 72 ∷ 36 ∷ 18 ∷ 9 ∷ 1 ∷ 2 ∷ 4 ∷ 8 ∷ 16 ∷ 32 ∷ 64 ∷ 0 ∷ 128 ∷ 256 ∷ 512 ∷
    1024 ∷ 2048 ∷ 4096 ∷ 8192 ∷ 16384 ∷ []

-- where x stands in a list
place_in : ℕ → List ℕ → ℕ
place_in x [] = 0
place_in x (y ∷ ys) = cond (eqb x y) 0 (suc (place_in x ys))

right : ℕ → Bool
right k = eqb (place_in (mark (unit k)) marks) k

all_right : T (below right 136)
unfolding right place_in marks mark low_bits bits code_bits reduce divide remainder
all_right = tt

pub mark_inj : (i j : ℕ) → i < 136 → j < 136 → mark (unit i) ≡ mark (unit j) → i ≡ j
unfolding right
mark_inj i j h k e =
    sym (eqb→eq (place_in (mark (unit i)) marks) i (at right 136 all_right i h))
    ∙ ap (λ (x : ℕ). place_in x marks) e ∙ eqb→eq (place_in (mark (unit j)) marks) j (at right 136 all_right j k)

-- of the first 128 bits the remainder alone tells
unit_last : (i : ℕ) → i < 128 → get_or (unit i) 16 0 ≡ 0
unit_last i h = get_or-set_other (replicate 17 0) (i / 8) 16 (2 ^ (i % 8)) 0 (λ (p : 16 ≡ i / 8). omega arith)

pub remainder_inj : (i j : ℕ) → i < 128 → j < 128 → remainder (unit i) ≡ remainder (unit j) → i ≡ j
unfolding mark
remainder_inj i j h k e =
    mark_inj i j (omega (arith, h)) (omega (arith, k))
    (ap₂ (λ (x y : ℕ). x * 128 + y) (unit_last i h ∙ sym (unit_last j k)) e)

odd : ℕ → Bool
odd k = eqb (ones (bits (unit k)) % 2) 1

all_odd : T (below odd 136)
unfolding odd low_bits bits ones
all_odd = tt

pub unit_odd : (k : ℕ) → k < 136 → ones (bits (unit k)) % 2 ≡ 1
unfolding odd
unit_odd k h = eqb→eq (ones (bits (unit k)) % 2) 1 (at odd 136 all_odd k h)
