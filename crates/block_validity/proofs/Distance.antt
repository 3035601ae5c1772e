-- Two different valid blocks of bytes differ in four places at least, of all 136. Assumes nothing.
use mathlib.Core.Path.{◌≡◌, refl, sym, ap, ap₂, ◌∙◌, subst⁻¹}
use mathlib.Core.Bool.{Bool, true, false, cond}
use mathlib.Core.List.{List, [], ◌∷◌}
use Prim.Native.Nat.{ℕ, zero, suc, ◌+◌, ◌-◌, ◌*◌, ◌≤◌, ◌<◌, suc-le-suc}
use native.Mathlib.Nat.{zero-lt-suc}
use native.Mathlib.Omega.{arith}
use lib.Dec.{T, eqb, eqb→eq}
use lib.ListN.{length, get_or, set, take, drop}
use lib.Seq.{take_at, drop_at}
use borrow.Author.Tests.{eqb-true, eqb-false, eq-eqb}
use Rattle.laws.proofs.Computed.{at, below}
use Rattle.block_division.specs.Division.{low_bits, bits}
use Rattle.block_division.specs.Polynomials.{Digits, none, more}
use Rattle.block_division.proofs.Bytes.{bits_digits, eight, bits_length}
use Rattle.block_validity.specs.Block.{Valid, Bytes}
use Rattle.block_validity.specs.Changed.{flip, differences, distance}
use Rattle.block_validity.proofs.Flips.{flip_length, flip_flip, flip_bytes, flip_bits}
use Rattle.block_validity.proofs.Validity.{valid_length}
use Rattle.block_validity.proofs.Alone.{hit_once, hit_twice, hit_thrice}

-- ---- rows of bits

same_bits : {xs ys : List ℕ} → length xs ≡ length ys → differences xs ys ≡ 0 → xs ≡ ys
unfolding differences
same_bits {xs = []} {ys = []} l e = refl
same_bits {xs = []} {ys = y ∷ ys} l e = absurd (omega (arith, l))
same_bits {xs = x ∷ xs} {ys = []} l e = absurd (omega (arith, l))
same_bits {xs = x ∷ xs} {ys = y ∷ ys} l e = go (eqb x y) refl e (same_bits {xs = xs} {ys = ys} (omega (arith, l)))
  where
    go : (t : Bool) → eqb x y ≡ t → cond t (differences xs ys) (suc (differences xs ys)) ≡ 0
        → (differences xs ys ≡ 0 → xs ≡ ys) → x ∷ xs ≡ y ∷ ys
    go true q z f = ap₂ {C = List ℕ} (λ (a : ℕ) (r : List ℕ). a ∷ r) (eqb-true x y q) (f z)
    go false q z f = absurd (omega (arith, z))

turned : (x y : ℕ) → x < 2 → y < 2 → (x ≡ y → ⊥) → 1 - x ≡ y
turned x y h k ne = omega arith

-- the row xs with the bit in place k changed
change : List ℕ → ℕ → List ℕ
change xs k = set xs k (1 - get_or xs k 0)

-- changing the first place that differs leaves one difference less
nearer : {xs ys : List ℕ} → Digits xs → Digits ys → (n : ℕ) → differences xs ys ≡ suc n
    → (k : ℕ) × (k < length xs) × (differences (change xs k) ys ≡ n)
unfolding differences change
nearer none d n e = absurd (omega (arith, e))
nearer (more h c) none n e = absurd (omega (arith, e))
nearer (more {x = x} {xs = xs} h c) (more {x = y} {xs = ys} k d) n e = go (eqb x y) refl e (nearer c d n)
  where
    go : (t : Bool) → eqb x y ≡ t → cond t (differences xs ys) (suc (differences xs ys)) ≡ suc n
        → (differences xs ys ≡ suc n → (k : ℕ) × (k < length xs) × (differences (change xs k) ys ≡ n))
        → (k : ℕ) × (k < suc (length xs)) × (differences (change (x ∷ xs) k) (y ∷ ys) ≡ n)
    go true q z f =
        let m = f z in
        let d : ℕ = differences (change xs m.0) ys in
        (suc m.0, suc-le-suc m.1, ap (λ (t : Bool). cond t d (suc d)) q ∙ m.2)
    go false q z f =
        let d : ℕ = differences xs ys in
        let e : eqb (1 - x) y ≡ true = eq-eqb (1 - x) y (turned x y h k (eqb-false x y q)) in
        (0, zero-lt-suc (length xs), ap (λ (t : Bool). cond t d (suc d)) e ∙ omega (arith, z))

-- ---- bytes and their bits

-- the number whose bits are these, weight 1 first
number : List ℕ → ℕ
number [] = 0
number (b ∷ bs) = b + number bs * 2

back : ℕ → Bool
back b = eqb (number (low_bits 8 b)) b

all_back : T (below back 256)
unfolding back number low_bits
all_back = tt

byte_back : (b : ℕ) → b < 256 → number (low_bits 8 b) ≡ b
unfolding back
byte_back b h = eqb→eq (number (low_bits 8 b)) b (at back 256 all_back b h)

bits_one : (B C : List ℕ) → length B ≡ length C → Bytes B → Bytes C → bits B ≡ bits C → B ≡ C
unfolding bits
bits_one [] [] l p q e = refl
bits_one [] (c ∷ C) l p q e = absurd (omega (arith, l))
bits_one (b ∷ B) [] l p q e = absurd (omega (arith, l))
bits_one (b ∷ B) (c ∷ C) l p q e =
    ap₂ {C = List ℕ} (λ (a : ℕ) (r : List ℕ). a ∷ r)
    (sym (byte_back b (p 0 (zero-lt-suc (length B))))
    ∙ ap number
    (sym (take_at (low_bits 8 b) (bits B) 8 (eight b)) ∙ ap (take 8) e ∙ take_at (low_bits 8 c) (bits C) 8 (eight c))
    ∙ byte_back c (q 0 (zero-lt-suc (length C))))
    (bits_one B C (omega (arith, l)) (λ i h. p (suc i) (suc-le-suc h)) (λ i h. q (suc i) (suc-le-suc h))
    (sym (drop_at (low_bits 8 b) (bits B) 8 (eight b)) ∙ ap (drop 8) e ∙ drop_at (low_bits 8 c) (bits C) 8 (eight c)))

-- ---- blocks

module _ (C : List ℕ) (lc : length C ≡ 17) (bc : Bytes C) where
  -- a block at no distance is the same
  at_none : (B : List ℕ) → length B ≡ 17 → Bytes B → distance B C ≡ 0 → B ≡ C
  unfolding distance
  at_none B l b e =
      bits_one B C (l ∙ sym lc) b bc
      (same_bits {xs = bits B} {ys = bits C}
      (bits_length B ∙ ap (λ (n : ℕ). n * 8) (l ∙ sym lc) ∙ sym (bits_length C)) e)

  -- a block at some distance is one less away with one bit changed
  one_less : (B : List ℕ) (n : ℕ) → length B ≡ 17 → distance B C ≡ suc n
      → (k : ℕ) × (k < 136) × (distance (flip k B) C ≡ n)
  unfolding distance change
  one_less B n l e =
      let m = nearer (bits_digits B) (bits_digits C) n e in
      let h : m.0 < 136 = omega (arith, m.1, bits_length B) in
      (m.0, h, ap (λ (x : List ℕ). differences x (bits C)) (flip_bits m.0 B h l) ∙ m.2)

  -- C is B with so many bits changed, one after another
  Off : ℕ → List ℕ → Type 0
  Off zero B = B ≡ C
  Off (suc n) B = (k : ℕ) × (k < 136) × Off n (flip k B)

  off : (n : ℕ) (B : List ℕ) → length B ≡ 17 → Bytes B → distance B C ≡ n → Off n B
  unfolding Off
  off zero B l b e = at_none B l b e
  off (suc n) B l b e =
      let m = one_less B n l e in
      (m.0, m.1, off n (flip m.0 B) (flip_length m.0 B ∙ l) (flip_bytes m.0 B b) m.2)

  module _ (B : List ℕ) (b : Bytes B) (v : Valid B) (w : Valid C) (ne : B ≡ C → ⊥) where
    l : length B ≡ 17
    l = valid_length B v

    also : {D : List ℕ} → D ≡ C → Valid D
    also e = subst⁻¹ Valid e w

    not_two : (i j : ℕ) → i < 136 → j < 136 → flip i (flip j B) ≡ C → ⊥
    not_two i j hi hj e = go (eqb i j) refl
      where
        go : (t : Bool) → eqb i j ≡ t → ⊥
        go true q = ne (sym (flip_flip j B hj l) ∙ ap (λ (m : ℕ). flip m (flip j B)) (sym (eqb-true i j q)) ∙ e)
        go false q = hit_twice i j B hi hj (eqb-false i j q) v (also e)

    at_four : 4 ≤ distance B C
    unfolding Off
    at_four = go (distance B C) (off (distance B C) B l b refl)
      where
        go : (n : ℕ) → Off n B → 4 ≤ n
        go zero o = absurd (ne o)
        go (suc zero) o = absurd (hit_once o.0 B o.1 v (also o.2))
        go (suc (suc zero)) o = absurd (not_two o.2.0 o.0 o.2.1 o.1 o.2.2)
        go (suc (suc (suc zero))) o =
            absurd (hit_thrice o.2.2.0 o.2.0 o.0 B o.2.2.1 o.2.1 o.1 v (also o.2.2.2))
        go (suc (suc (suc (suc n)))) o = omega arith

pub four_apart : (B C : List ℕ) → Bytes B → Bytes C → Valid B → Valid C → (B ≡ C → ⊥) → 4 ≤ distance B C
four_apart B C b c v w ne = at_four C (valid_length C w) c B b v w ne
