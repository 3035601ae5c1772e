-- Of its first 128 bits the one that mends a block is exactly that which lies in the one odd byte and to which the
-- remainder points, where byte 17 is zero; and a remainder points to one bit alone. Assumes nothing.
use mathlib.Core.Path.{◌≡◌, refl, sym, ap, ap₂, ◌∙◌}
use mathlib.Core.Bool.{Bool, true, false, cond, ◌&&◌, not}
use mathlib.Core.List.{List, [], ◌∷◌}
use Prim.Native.Nat.{ℕ, zero, suc, ◌+◌, ◌/◌, ◌%◌, ◌^◌, ◌<◌}
use native.Mathlib.Nat.{not-suc-le-zero, le_of_suc-le-suc, add-mod}
use native.Mathlib.Omega.{arith}
use lib.Dec.{T, eqb, eqb→eq}
use lib.ListN.{length, get_or, take, set}
use lib.Seq.{take-set-lt, get_or-take, length-take-le, get_or-set_other}
use lib.Bits.{bit_xor, xor_self}
use borrow.Author.Tests.{eqb-true, eqb-false}
use Rattle.laws.proofs.Computed.{at, below}
use Rattle.laws.proofs.Xor.{xor_zero_eq}
use Rattle.block_division.specs.Division.{low_bits}
use Rattle.block_division.proofs.Bytes.{low_digits}
use Rattle.block_division.proofs.Linear.{low_sum}
use Rattle.block_parity.specs.Parity.{ones, even, all_even, odds}
use Rattle.block_parity.proofs.Parities.{ones_sum}
use Rattle.block_validity.specs.Block.{remainder, Valid}
use Rattle.block_validity.specs.Changed.{flip}
use Rattle.block_validity.specs.Units.{unit}
use Rattle.block_validity.specs.Mending.{PointsTo, Mends}
use Rattle.block_validity.proofs.Powers.{remainder_sum}
use Rattle.block_validity.proofs.Marks.{remainder_inj}
use Rattle.block_validity.proofs.Flips.{flip_sum, flip_length}
use Rattle.block_validity.proofs.Validity.{valid_even, valid_remainder, valid_last, is_valid}

-- ---- one byte

weighs : ℕ → Bool
weighs j = eqb (ones (low_bits 8 (2 ^ j)) % 2) 1

all_weigh : T (below weighs 8)
unfolding weighs ones low_bits
all_weigh = tt

turned : (x y : ℕ) → y % 2 ≡ 1 → eqb ((x + y) % 2) 0 ≡ not (eqb (x % 2) 0)
turned x y h = go (eqb (x % 2) 0) refl
  where
    sum : (z : ℕ) → x % 2 ≡ z → (x + y) % 2 ≡ (z + 1) % 2
    sum z e = add-mod x y 2 ∙ ap₂ (λ (a b : ℕ). (a + b) % 2) e h

    go : (t : Bool) → eqb (x % 2) 0 ≡ t → eqb ((x + y) % 2) 0 ≡ not t
    go true e = ap (λ (n : ℕ). eqb n 0) (sum 0 (eqb-true (x % 2) 0 e))
    go false e = ap (λ (n : ℕ). eqb n 0) (sum 1 (odd_one x (eqb-false (x % 2) 0 e)))
      where
        odd_one : (n : ℕ) → (n % 2 ≡ 0 → ⊥) → n % 2 ≡ 1
        odd_one n f = omega arith

-- a changed bit turns a byte's parity
even_flip : (b j : ℕ) → j < 8 → even (bit_xor b (2 ^ j)) ≡ not (even b)
unfolding even weighs
even_flip b j h =
    ap (λ (n : ℕ). eqb n 0) (ones_sum (low_sum 8 b (2 ^ j)) (low_digits 8 b) (low_digits 8 (2 ^ j)))
    ∙ turned (ones (low_bits 8 b)) (ones (low_bits 8 (2 ^ j)))
    (eqb→eq (ones (low_bits 8 (2 ^ j)) % 2) 1 (at weighs 8 all_weigh j h))

-- ---- some bytes

none_odd : (A : List ℕ) → T (all_even A) → odds A ≡ 0
unfolding odds all_even
none_odd [] t = refl
none_odd (a ∷ A) t = go (even a) t (none_odd A)
  where
    go : (e : Bool) → T (e && all_even A) → (T (all_even A) → odds A ≡ 0) → cond e (odds A) (suc (odds A)) ≡ 0
    go true u f = f u
    go false u f = absurd u

all_even_lem : (A : List ℕ) → odds A ≡ 0 → T (all_even A)
unfolding odds all_even
all_even_lem [] e = tt
all_even_lem (a ∷ A) e = go (even a) e (all_even_lem A)
  where
    go : (t : Bool) → cond t (odds A) (suc (odds A)) ≡ 0 → (odds A ≡ 0 → T (all_even A)) → T (t && all_even A)
    go true u f = f u
    go false u f = absurd (omega (arith, u))

-- a byte whose parity turns is one odd byte more, or one less
odds_set : (A : List ℕ) (i x : ℕ) → i < length A → even x ≡ not (even (get_or A i 0))
    → odds (set A i x) + cond (even (get_or A i 0)) 0 2 ≡ odds A + 1
unfolding odds
odds_set [] i x h e = absurd (not-suc-le-zero h)
odds_set (a ∷ A) zero x h e =
    ap (λ (t : Bool). cond t (odds A) (suc (odds A)) + cond (even a) 0 2) e ∙ go (even a)
  where
    go : (t : Bool) → cond (not t) (odds A) (suc (odds A)) + cond t 0 2 ≡ cond t (odds A) (suc (odds A)) + 1
    go true = omega arith
    go false = omega arith
odds_set (a ∷ A) (suc i) x h e = go (even a) (odds_set A i x (le_of_suc-le-suc h) e)
  where
    go : (t : Bool) → odds (set A i x) + cond (even (get_or A i 0)) 0 2 ≡ odds A + 1
        → cond t (odds (set A i x)) (suc (odds (set A i x))) + cond (even (get_or A i 0)) 0 2
        ≡ cond t (odds A) (suc (odds A)) + 1
    go true p = p
    go false p = omega arith

-- ---- a remainder

pub one_bit : (r j k : ℕ) → PointsTo r j → PointsTo r k → j ≡ k
one_bit r j k p q = remainder_inj j k p.0 q.0 (p.1 ∙ sym q.1)

-- ---- a block

module _ (k : ℕ) (B : List ℕ) (h : k < 128) (e : length B ≡ 17) where
  sixteen : length (take 16 B) ≡ 16
  sixteen = length-take-le 16 B (omega arith)

  byte : get_or (take 16 B) (k / 8) 0 ≡ get_or B (k / 8) 0
  byte = get_or-take 16 B (k / 8) 0 (omega arith)

  odds_flip : odds (take 16 (flip k B)) + cond (even (get_or B (k / 8) 0)) 0 2 ≡ odds (take 16 B) + 1
  unfolding flip
  odds_flip =
      let x : ℕ = bit_xor (get_or B (k / 8) 0) (2 ^ (k % 8)) in
      ap₂ (λ (l : List ℕ) (b : ℕ). odds l + cond (even b) 0 2) (take-set-lt 16 B (k / 8) x (omega arith)) (sym byte)
      ∙ odds_set (take 16 B) (k / 8) x (omega (arith, sixteen))
      (even_flip (get_or B (k / 8) 0) (k % 8) (omega arith) ∙ ap (λ (b : ℕ). not (even b)) (sym byte))

  last_kept : get_or (flip k B) 16 0 ≡ get_or B 16 0
  unfolding flip
  last_kept =
      get_or-set_other B (k / 8) 16 (bit_xor (get_or B (k / 8) 0) (2 ^ (k % 8))) 0 (λ (p : 16 ≡ k / 8). omega arith)

  remainder_flip : remainder (flip k B) ≡ bit_xor (remainder B) (remainder (unit k))
  remainder_flip = remainder_sum (flip_sum k B e)

  pub mends_only : Valid (flip k B) → Mends k B
  mends_only v = go (even (get_or B (k / 8) 0)) refl odds_flip
    where
      none : odds (take 16 (flip k B)) ≡ 0
      none = none_odd (take 16 (flip k B)) (valid_even (flip k B) v)

      none_left : remainder (unit k) ≡ remainder B
      none_left =
          sym (xor_zero_eq (remainder B) (remainder (unit k)) (sym remainder_flip ∙ valid_remainder (flip k B) v))

      go : (t : Bool) → even (get_or B (k / 8) 0) ≡ t → odds (take 16 (flip k B)) + cond t 0 2 ≡ odds (take 16 B) + 1
          → Mends k B
      go true p q = absurd (omega (arith, none, q))
      go false p q =
          record {
            validation = sym last_kept ∙ valid_last (flip k B) v;
            alone = omega (arith, none, q);
            inside = p;
            pointed = (h, none_left);
          }

  pub mends_where : Mends k B → Valid (flip k B)
  mends_where m =
      let q : odds (take 16 (flip k B)) + 2 ≡ odds (take 16 B) + 1
      = sym (ap (λ (t : Bool). odds (take 16 (flip k B)) + cond t 0 2) m.inside) ∙ odds_flip in
      is_valid (flip k B) (flip_length k B ∙ e) (all_even_lem (take 16 (flip k B)) (omega (arith, m.alone, q)))
      (remainder_flip ∙ ap (bit_xor (remainder B)) m.pointed.1 ∙ xor_self (remainder B)) (last_kept ∙ m.validation)
