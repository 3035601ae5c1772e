-- Changing bit k changes the bit in place k of block order and no other; twice changed is as before. Assumes
-- nothing.
use mathlib.Core.Path.{◌≡◌, refl, sym, ap, ap₂, ◌∙◌, subst, subst⁻¹}
use mathlib.Core.Bool.{Bool, true, false, ◌&&◌}
use mathlib.Core.List.{List, [], ◌∷◌}
use Prim.Native.Nat.{ℕ, ◌-◌, ◌*◌, ◌/◌, ◌%◌, ◌^◌, ◌<◌}
use native.Mathlib.Omega.{arith}
use lib.Dec.{T, eqb, eqb→eq}
use lib.ListN.{length, get_or, set, replicate, length-set}
use lib.Seq.{set-set, get_or-set_same, get_or-set_other, set-get_or}
use lib.Pow.{pow-lt}
use lib.Bits.{bit_xor, xor_lt}
use borrow.Author.Tests.{eqb-true, eqb-false}
use Rattle.laws.proofs.Computed.{below, at, and_left, and_right}
use Rattle.laws.proofs.Xor.{xor_again, other_digit}
use Rattle.laws.proofs.Sums.{Sum, sum_one, sum_set}
use Rattle.block_division.specs.Division.{low_bits, bits}
use Rattle.block_division.proofs.Bytes.{bits_digits, digit_at, bits_length}
use Rattle.block_division.proofs.Linear.{bits_sum}
use Rattle.block_validity.specs.Block.{Bytes}
use Rattle.block_validity.specs.Changed.{flip, hits}
use Rattle.block_validity.specs.Units.{unit}

pub flip_length : (k : ℕ) (B : List ℕ) → length (flip k B) ≡ length B
unfolding flip
flip_length k B = length-set B (k / 8) (bit_xor (get_or B (k / 8) 0) (2 ^ (k % 8)))

pub hits_length : (ks B : List ℕ) → length (hits ks B) ≡ length B
unfolding hits
hits_length [] B = refl
hits_length (k ∷ ks) B = flip_length k (hits ks B) ∙ hits_length ks B

-- a block with one bit changed is the sum of the block and the bit alone
pub flip_sum : (k : ℕ) (B : List ℕ) → length B ≡ 17 → Sum B (unit k) (flip k B)
unfolding flip
flip_sum k B e =
    let w : ℕ = 2 ^ (k % 8) in
    subst (λ (n : ℕ). Sum B (set (replicate n 0) (k / 8) w) (set B (k / 8) (bit_xor (get_or B (k / 8) 0) w))) e
    (sum_set B (k / 8) w)

pub flip_flip : (k : ℕ) (B : List ℕ) → k < 136 → length B ≡ 17 → flip k (flip k B) ≡ B
unfolding flip
flip_flip k B h e =
    let w : ℕ = 2 ^ (k % 8) in
    let x : ℕ = bit_xor (get_or B (k / 8) 0) w in
    set-set B (k / 8) x (bit_xor (get_or (set B (k / 8) x) (k / 8) 0) w)
    ∙ ap (λ (y : ℕ). set B (k / 8) (bit_xor y w)) (get_or-set_same B (k / 8) x 0 (omega arith))
    ∙ ap (set B (k / 8)) (xor_again (get_or B (k / 8) 0) w) ∙ set-get_or B (k / 8) 0

-- bytes stay bytes
pub flip_bytes : (k : ℕ) (B : List ℕ) → Bytes B → Bytes (flip k B)
unfolding flip
flip_bytes k B p i h = go (eqb i (k / 8)) refl
  where
    x : ℕ
    x = bit_xor (get_or B (k / 8) 0) (2 ^ (k % 8))

    l : i < length B
    l = subst (λ (n : ℕ). i < n) (length-set B (k / 8) x) h

    go : (t : Bool) → eqb i (k / 8) ≡ t → get_or (set B (k / 8) x) i 0 < 256
    go true e =
        let d : k / 8 ≡ i = sym (eqb-true i (k / 8) e) in
        let m : k / 8 < length B = subst⁻¹ (λ (n : ℕ). n < length B) d l in
        subst (λ (n : ℕ). get_or (set B (k / 8) x) n 0 < 256) d
        (subst⁻¹ (λ (n : ℕ). n < 256) (get_or-set_same B (k / 8) x 0 m)
        (xor_lt 8 (get_or B (k / 8) 0) (2 ^ (k % 8)) (p (k / 8) m) (pow-lt {i = k % 8} {j = 8} (omega arith))))
    go false e = subst⁻¹ (λ (n : ℕ). n < 256) (get_or-set_other B (k / 8) i x 0 (eqb-false i (k / 8) e)) (p i l)

-- ---- the bit in place k

equal : List ℕ → List ℕ → Bool
equal [] [] = true
equal [] (y ∷ ys) = false
equal (x ∷ xs) [] = false
equal (x ∷ xs) (y ∷ ys) = eqb x y && equal xs ys

equal→ : (xs ys : List ℕ) → T (equal xs ys) → xs ≡ ys
unfolding equal
equal→ [] [] t = refl
equal→ [] (y ∷ ys) t = absurd t
equal→ (x ∷ xs) [] t = absurd t
equal→ (x ∷ xs) (y ∷ ys) t =
    ap₂ {C = List ℕ} (λ (a : ℕ) (l : List ℕ). a ∷ l) (eqb→eq x y (and_left (eqb x y) (equal xs ys) t))
    (equal→ xs ys (and_right (eqb x y) (equal xs ys) t))

right : ℕ → Bool
right k = equal (bits (unit k)) (set (replicate 136 0) k 1)

all_right : T (below right 136)
unfolding right equal bits low_bits
all_right = tt

unit_bits : (k : ℕ) → k < 136 → bits (unit k) ≡ set (replicate 136 0) k 1
unfolding right
unit_bits k h = equal→ (bits (unit k)) (set (replicate 136 0) k 1) (at right 136 all_right k h)

pub flip_bits : (k : ℕ) (B : List ℕ) → k < 136 → length B ≡ 17
    → bits (flip k B) ≡ set (bits B) k (1 - get_or (bits B) k 0)
flip_bits k B h e =
    let l : length (bits B) ≡ 136 = bits_length B ∙ ap (λ (n : ℕ). n * 8) e in
    sum_one (bits_sum (flip_sum k B e))
    (subst⁻¹ (λ (u : List ℕ). Sum (bits B) u (set (bits B) k (bit_xor (get_or (bits B) k 0) 1))) (unit_bits k h)
    (subst (λ (n : ℕ). Sum (bits B) (set (replicate n 0) k 1) (set (bits B) k (bit_xor (get_or (bits B) k 0) 1))) l
    (sum_set (bits B) k 1)))
    ∙ ap (set (bits B) k) (other_digit (get_or (bits B) k 0) (digit_at (bits_digits B) k))
