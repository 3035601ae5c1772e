-- What the maker writes is valid, carries the values, and is what any valid block of bytes with those values is.
-- Assumes nothing.
use mathlib.Core.Path.{◌≡◌, refl, sym, ap, ap₂, ◌∙◌, subst, subst⁻¹}
use mathlib.Core.Bool.{true}
use mathlib.Core.List.{List, [], ◌∷◌, ◌++◌, map, append_assoc, append-nil}
use Prim.Native.Nat.{ℕ, zero, suc, ◌+◌, ◌-◌, ◌%◌, ◌≤◌, ◌<◌, suc-le-suc}
use native.Mathlib.Nat.{mod-lt, zero-lt-suc, not-suc-le-zero, le_of_suc-le-suc}
use native.Mathlib.Omega.{arith}
use lib.Dec.{T}
use lib.ListN.{length, get_or, take, replicate, length-append, length-map, length-replicate, get_or-map}
use lib.Seq.{take_at, take-suc, take_all, get_or_at, get_or-take, length-take-le}
use lib.Bits.{bit_xor, xor_self}
use Rattle.laws.proofs.Computed.{and_left, and_right, both, is_true}
use Rattle.laws.proofs.Xor.{xor_zero_eq}
use Rattle.values.specs.Large.{Values}
use Rattle.block_division.specs.Division.{low_bits, check_bits}
use Rattle.block_division.proofs.Steps.{check_lt}
use Rattle.block_parity.specs.Parity.{ones, even, all_even, with_parity}
use Rattle.block_parity.proofs.Parities.{parity_even, parity_off, parity_back}
use Rattle.block_validity.specs.Block.{remainder, Valid, Bytes}
use Rattle.block_validity.proofs.Powers.{remainder_by_check}
use Rattle.block_validity.proofs.Validity.{valid_length, valid_even, valid_remainder, valid_last, is_valid}
use Rattle.block_maker.specs.Making.{useful, sealed, block_of, values_of}

-- ---- even bytes

even_append : (A C : List ℕ) → T (all_even A) → T (all_even C) → T (all_even (A ++ C))
unfolding all_even
even_append [] C p q = q
even_append (a ∷ A) C p q =
    both (even a) (all_even (A ++ C)) (and_left (even a) (all_even A) p)
    (even_append A C (and_right (even a) (all_even A) p) q)

even_first : (A : List ℕ) (x : ℕ) → T (all_even (A ++ (x ∷ []))) → T (all_even A)
unfolding all_even
even_first [] x t = tt
even_first (a ∷ A) x t =
    both (even a) (all_even A) (and_left (even a) (all_even (A ++ (x ∷ []))) t)
    (even_first A x (and_right (even a) (all_even (A ++ (x ∷ []))) t))

even_values : (vs : List ℕ) → T (all_even (map with_parity vs))
unfolding all_even
even_values [] = tt
even_values (v ∷ vs) = both (even (with_parity v)) (all_even (map with_parity vs)) (parity_even v) (even_values vs)

zero_even : T (even 0)
unfolding even ones low_bits
zero_even = tt

even_zeros : (n : ℕ) → T (all_even (replicate n 0))
unfolding all_even
even_zeros zero = tt
even_zeros (suc n) = both (even 0) (all_even (replicate n 0)) zero_even (even_zeros n)

even_at : (A : List ℕ) (i : ℕ) → i < length A → T (all_even A) → T (even (get_or A i 0))
unfolding all_even
even_at [] i h t = absurd (omega (arith, h))
even_at (a ∷ A) zero h t = and_left (even a) (all_even A) t
even_at (a ∷ A) (suc i) h t = even_at A i (le_of_suc-le-suc h) (and_right (even a) (all_even A) t)

pub useful_length : (vs : List ℕ) → length vs ≤ 15 → length (useful vs) ≡ 15
unfolding useful
useful_length vs h = simp (length-append, length-map, length-replicate) (omega arith)

useful_even : (vs : List ℕ) → T (all_even (useful vs))
unfolding useful
useful_even vs =
    even_append (map with_parity vs) (replicate (15 - length vs) 0) (even_values vs) (even_zeros (15 - length vs))

-- ---- the block made

module _ (vs : List ℕ) (h : length vs ≤ 15) where
  check : ℕ
  check = with_parity (check_bits (useful vs))

  made_is : block_of vs ≡ (useful vs ++ (check ∷ [])) ++ (0 ∷ [])
  unfolding block_of sealed check
  made_is = sym (append_assoc (useful vs) (check ∷ []) (0 ∷ []))

  sixteen : length (useful vs ++ (check ∷ [])) ≡ 16
  sixteen = length-append (useful vs) (check ∷ []) ∙ ap (λ (n : ℕ). n + 1) (useful_length vs h)

  made_length : length (block_of vs) ≡ 17
  made_length =
      ap length made_is ∙ length-append (useful vs ++ (check ∷ [])) (0 ∷ []) ∙ ap (λ (n : ℕ). n + 1) sixteen

  pub made_useful : take 15 (block_of vs) ≡ useful vs
  unfolding block_of sealed
  made_useful = take_at (useful vs) (with_parity (check_bits (useful vs)) ∷ 0 ∷ []) 15 (useful_length vs h)

  made_check : get_or (block_of vs) 15 0 ≡ check
  unfolding block_of sealed check
  made_check = get_or_at (useful vs) check (0 ∷ []) 0 15 (useful_length vs h)

  made_last : get_or (block_of vs) 16 0 ≡ 0
  made_last = ap (λ (l : List ℕ). get_or l 16 0) made_is ∙ get_or_at (useful vs ++ (check ∷ [])) 0 [] 0 16 sixteen

  made_remainder : remainder (block_of vs) ≡ 0
  unfolding check
  made_remainder =
      remainder_by_check (block_of vs)
      ∙ ap₂ (λ (l : List ℕ) (c : ℕ). bit_xor (check_bits l) (c % 128)) made_useful made_check
      ∙ ap (bit_xor (check_bits (useful vs))) (parity_off (check_bits (useful vs)) (check_lt (useful vs)))
      ∙ xor_self (check_bits (useful vs))

  made_even : T (all_even (take 16 (block_of vs)))
  unfolding all_even check
  made_even =
      subst⁻¹ (λ (l : List ℕ). T (all_even l))
      (ap (take 16) made_is ∙ take_at (useful vs ++ (check ∷ [])) (0 ∷ []) 16 sixteen)
      (even_append (useful vs) (check ∷ []) (useful_even vs)
      (both (even check) true (parity_even (check_bits (useful vs))) tt))

  pub made_valid : Valid (block_of vs)
  made_valid = is_valid (block_of vs) made_length made_even made_remainder made_last

-- ---- the values come back

off_values : (vs : List ℕ) (Z : List ℕ) → Values vs
    → map (λ (b : ℕ). b % 128) (map with_parity vs ++ Z) ≡ vs ++ map (λ (b : ℕ). b % 128) Z
off_values [] Z f = refl
off_values (v ∷ vs) Z f =
    ap₂ {C = List ℕ} (λ (a : ℕ) (l : List ℕ). a ∷ l) (parity_off v (f 0 (zero-lt-suc (length vs))))
    (off_values vs Z (λ i h. f (suc i) (suc-le-suc h)))

off_zeros : (n : ℕ) → map (λ (b : ℕ). b % 128) (replicate n 0) ≡ replicate n 0
off_zeros zero = refl
off_zeros (suc n) = ap (λ (l : List ℕ). 0 ∷ l) (off_zeros n)

pub values_back : (vs : List ℕ) → length vs ≤ 15 → Values vs
    → values_of (block_of vs) ≡ vs ++ replicate (15 - length vs) 0
unfolding useful
values_back vs h f =
    ap (map (λ (b : ℕ). b % 128)) (made_useful vs h) ∙ off_values vs (replicate (15 - length vs) 0) f
    ∙ ap (λ (l : List ℕ). vs ++ l) (off_zeros (15 - length vs))

-- ---- the values of any block

pub values_length : (B : List ℕ) → length B ≡ 17 → length (values_of B) ≡ 15
values_length B l = length-map (take 15 B) (λ (b : ℕ). b % 128) ∙ length-take-le 15 B (omega arith)

pub value_at : (B : List ℕ) (i : ℕ) → i < 15 → get_or (values_of B) i 0 ≡ get_or B i 0 % 128
value_at B i h =
    get_or-map (λ (b : ℕ). b % 128) (take 15 B) i 0 ∙ ap (λ (b : ℕ). b % 128) (get_or-take 15 B i 0 h)

low_values : (A : List ℕ) → Values (map (λ (b : ℕ). b % 128) A)
low_values [] i h = absurd (not-suc-le-zero h)
low_values (a ∷ A) zero h = mod-lt a (zero-lt-suc 127)
low_values (a ∷ A) (suc i) h = low_values A i (le_of_suc-le-suc h)

pub values_low : (B : List ℕ) → Values (values_of B)
values_low B = low_values (take 15 B)

-- ---- a valid block of bytes is what the maker writes

parity_on : (A : List ℕ) → Bytes A → T (all_even A) → map with_parity (map (λ (b : ℕ). b % 128) A) ≡ A
unfolding all_even
parity_on [] f t = refl
parity_on (a ∷ A) f t =
    ap₂ {C = List ℕ} (λ (b : ℕ) (l : List ℕ). b ∷ l)
    (parity_back a (f 0 (zero-lt-suc (length A))) (is_true (even a) (and_left (even a) (all_even A) t)))
    (parity_on A (λ i h. f (suc i) (suc-le-suc h)) (and_right (even a) (all_even A) t))

full : (U : List ℕ) → length U ≡ 15 → Bytes U → T (all_even U) → useful (map (λ (b : ℕ). b % 128) U) ≡ U
unfolding useful
full U l f t =
    let e : 15 - length (map (λ (b : ℕ). b % 128) U) ≡ 0 = simp length-map (omega arith) in
    ap₂ (λ (a : List ℕ) (n : ℕ). a ++ replicate n 0) (parity_on U f t) e ∙ append-nil U

module _ (B : List ℕ) (b : Bytes B) (v : Valid B) where
  l : length B ≡ 17
  l = valid_length B v

  in_block : (n : ℕ) → n ≤ 16 → length (take n B) ≡ n
  in_block n h = length-take-le n B (omega (arith, l))

  even_in : (i : ℕ) → i < 16 → T (even (get_or B i 0))
  even_in i h =
      subst (λ (x : ℕ). T (even x)) (get_or-take 16 B i 0 h)
      (even_at (take 16 B) i (omega (arith, in_block 16 (omega arith))) (valid_even B v))

  whole : B ≡ take 15 B ++ (get_or B 15 0 ∷ get_or B 16 0 ∷ [])
  whole =
      sym (take_all 17 B (omega (arith, l))) ∙ take-suc B 16 0 (omega (arith, l))
      ∙ ap (λ (x : List ℕ). x ++ (get_or B 16 0 ∷ [])) (take-suc B 15 0 (omega (arith, l)))
      ∙ append_assoc (take 15 B) (get_or B 15 0 ∷ []) (get_or B 16 0 ∷ [])

  check_is : with_parity (check_bits (take 15 B)) ≡ get_or B 15 0
  check_is =
      ap with_parity
      (xor_zero_eq (check_bits (take 15 B)) (get_or B 15 0 % 128) (sym (remainder_by_check B) ∙ valid_remainder B v))
      ∙ parity_back (get_or B 15 0) (b 15 (omega (arith, l))) (is_true (even (get_or B 15 0)) (even_in 15 (omega arith)))

  useful_is : useful (values_of B) ≡ take 15 B
  useful_is = full (take 15 B) (in_block 15 (omega arith)) bytes evens
    where
      bytes : Bytes (take 15 B)
      bytes i h =
          let k : i < 15 = subst (λ (n : ℕ). i < n) (in_block 15 (omega arith)) h in
          subst⁻¹ (λ (x : ℕ). x < 256) (get_or-take 15 B i 0 k) (b i (omega (arith, k, l)))

      evens : T (all_even (take 15 B))
      evens =
          even_first (take 15 B) (get_or B 15 0)
          (subst (λ (x : List ℕ). T (all_even x)) (take-suc B 15 0 (omega (arith, l))) (valid_even B v))

  pub valid_made : B ≡ block_of (values_of B)
  unfolding block_of sealed
  valid_made =
      whole ∙ sym (ap sealed useful_is
      ∙ ap₂ (λ (c z : ℕ). take 15 B ++ (c ∷ z ∷ [])) check_is (sym (valid_last B v)))
