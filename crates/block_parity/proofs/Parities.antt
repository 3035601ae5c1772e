-- Laws of parity: it adds up like the bits do, a value with parity is even, and only its seven low bits count.
-- Assumes nothing.
use mathlib.Core.Path.{◌≡◌, refl, sym, ap, ap₂, ◌∙◌}
use mathlib.Core.Bool.{Bool, true, false, cond, ◌&&◌}
use mathlib.Core.List.{List, [], ◌∷◌, ◌++◌}
use Prim.Native.Nat.{ℕ, zero, suc, ◌+◌, ◌*◌, ◌/◌, ◌%◌, ◌^◌, ◌≤◌, ◌<◌}
use native.Mathlib.Nat.{add-mod, mod-lt, zero-lt-suc}
use native.Mathlib.Omega.{arith}
use lib.ListN.{length}
use lib.Dec.{T, eqb, eqb→eq}
use lib.Bits.{bit_xor}
use Rattle.std.specs.List.{fold}
use Rattle.laws.proofs.Computed.{below, at, Equal, equal_at, and_left, and_right}
use Rattle.laws.proofs.Xor.{digit_xor, digit_sum}
use Rattle.laws.proofs.Sums.{Sum, none, more}
use Rattle.block_division.specs.Division.{low_bits, bits}
use Rattle.block_division.specs.Polynomials.{Digits}
use Rattle.block_division.specs.Polynomials
use Rattle.block_division.proofs.Bytes.{low_digits}
use Rattle.block_division.proofs.Linear.{low_sum}
use Rattle.block_parity.specs.Parity.{ones, even, all_even, odds, with_parity}

-- ---- ones add up, but for pairs that cancel

par : (d x y u s t : ℕ) → d % 2 ≡ (x + y) % 2 → u % 2 ≡ (s + t) % 2 → (d + u) % 2 ≡ ((x + s) + (y + t)) % 2
par d x y u s t p q =
    let e : (x + y) + (s + t) ≡ (x + s) + (y + t) = omega arith in
    add-mod d u 2 ∙ ap₂ (λ (i j : ℕ). (i + j) % 2) p q ∙ sym (add-mod (x + y) (s + t) 2) ∙ ap (λ (i : ℕ). i % 2) e

digits_xor : (x y : ℕ) → x < 2 → y < 2 → bit_xor x y % 2 ≡ (x + y) % 2
digits_xor x y h k = ap (λ (n : ℕ). n % 2) (digit_xor x y h k) ∙ digit_sum x y h k

pub ones_sum : {xs ys zs : List ℕ} → Sum xs ys zs → Digits xs → Digits ys → ones zs % 2 ≡ (ones xs + ones ys) % 2
unfolding ones
ones_sum none d e = refl
ones_sum (more {a = a} {b = b} {A = xs} {B = ys} {C = zs} t) (Polynomials.more h d) (Polynomials.more k e) =
    par (bit_xor a b) a b (ones zs) (ones xs) (ones ys) (digits_xor a b h k) (ones_sum t d e)

pub ones_append : (xs ys : List ℕ) → ones (xs ++ ys) ≡ ones xs + ones ys
unfolding ones
ones_append [] ys = omega arith
ones_append (x ∷ xs) ys = let e : ones (xs ++ ys) ≡ ones xs + ones ys = ones_append xs ys in omega arith

pub even_ones : (A : List ℕ) → T (all_even A) → ones (bits A) % 2 ≡ 0
unfolding all_even bits even ones
even_ones [] t = refl
even_ones (a ∷ A) t =
    ap (λ (x : ℕ). x % 2) (ones_append (low_bits 8 a) (bits A)) ∙ add-mod (ones (low_bits 8 a)) (ones (bits A)) 2
    ∙ ap₂ (λ (x y : ℕ). (x + y) % 2) (eqb→eq (ones (low_bits 8 a) % 2) 0 (and_left (even a) (all_even A) t))
    (even_ones A (and_right (even a) (all_even A) t))

-- a sum with an even byte is as even as the other
beside : (x y : ℕ) → x % 2 ≡ 0 → (x + y) % 2 ≡ y % 2
beside x y h = omega arith

even_xor : (a b : ℕ) → T (even a) → even (bit_xor a b) ≡ even b
unfolding even
even_xor a b t =
    ap (λ (n : ℕ). eqb n 0)
    (ones_sum (low_sum 8 a b) (low_digits 8 a) (low_digits 8 b)
    ∙ beside (ones (low_bits 8 a)) (ones (low_bits 8 b)) (eqb→eq (ones (low_bits 8 a) % 2) 0 t))

-- and so with even bytes
pub all_even_sum : {A B C : List ℕ} → Sum A B C → T (all_even A) → all_even C ≡ all_even B
unfolding all_even
all_even_sum none t = refl
all_even_sum (more {a = a} {b = b} {A = A} s) t =
    ap₂ ◌&&◌ (even_xor a b (and_left (even a) (all_even A) t)) (all_even_sum s (and_right (even a) (all_even A) t))

-- ---- a value with parity

-- only the n low bits are read
doubled : ℕ → ℕ → ℕ
doubled zero q = q
doubled (suc n) q = doubled n q * 2

low_only : (n m q : ℕ) → low_bits n (m + doubled n q) ≡ low_bits n m
unfolding low_bits doubled
low_only zero m q = refl
low_only (suc n) m q =
    let x : (m + doubled n q * 2) % 2 ≡ m % 2 = omega arith in
    let y : (m + doubled n q * 2) / 2 ≡ m / 2 + doubled n q = omega arith in
    ap₂ ◌∷◌ x (ap (low_bits n) y ∙ low_only n (m / 2) q)

pub seven : (c : ℕ) → low_bits 7 (c % 128) ≡ low_bits 7 c
unfolding doubled
seven c =
    let e : c % 128 + doubled 7 (c / 128) ≡ c = omega arith in
    sym (low_only 7 (c % 128) (c / 128)) ∙ ap (low_bits 7) e

pub parity_low : (v : ℕ) → with_parity (v % 128) ≡ with_parity v
unfolding with_parity
parity_low v =
    let e : v % 128 % 128 ≡ v % 128 = omega arith in ap₂ (λ (x : ℕ) (l : List ℕ). x + ones l % 2 * 128) e (seven v)

-- tested at each value
evenly : ℕ → Bool
evenly v = even (with_parity v)

all_evenly : T (below evenly 128)
unfolding evenly even with_parity ones low_bits
all_evenly = tt

pub parity_even : (v : ℕ) → T (even (with_parity v))
unfolding evenly
parity_even v =
    subst_even (parity_low v) (at evenly 128 all_evenly (v % 128) (mod-lt v (zero-lt-suc 127)))
  where
    subst_even : {a b : ℕ} → a ≡ b → T (even a) → T (even b)
    subst_even e t = rw e at t

-- the parity bit is there where the seven others are odd
abbrev like : ℕ → ℕ
like v = cond (even v) v (v + 128)

all_like : Equal with_parity like 128
unfolding with_parity even ones low_bits
all_like = tt

pub parity_is : (v : ℕ) {t : Bool} → v < 128 → even v ≡ t → with_parity v ≡ cond t v (v + 128)
parity_is v h e = equal_at with_parity like 128 all_like v h ∙ ap (λ (t : Bool). cond t v (v + 128)) e

-- without parity it is the value again
pub parity_off : (v : ℕ) → v < 128 → with_parity v % 128 ≡ v
unfolding with_parity
parity_off v h = omega arith

-- an even byte is its seven low bits with parity
whole : ℕ → Bool
whole b = cond (even b) (eqb (with_parity (b % 128)) b) true

all_whole : T (below whole 256)
unfolding whole with_parity even ones low_bits
all_whole = tt

pub parity_back : (b : ℕ) → b < 256 → even b ≡ true → with_parity (b % 128) ≡ b
unfolding whole
parity_back b h e =
    eqb→eq (with_parity (b % 128)) b
    (rw e at (at whole 256 all_whole b h))

-- ---- over some bytes, as std's words have it

-- each is looked at, whatever those before it are
folded : (t : Bool) (B : List ℕ) → fold (λ (all : Bool) (b : ℕ). even b && all) t B ≡ all_even B && t
unfolding all_even
folded t [] = refl
folded t (b ∷ B) = folded (even b && t) B ∙ moved (even b) (all_even B) t
  where
    moved : (x y z : Bool) → y && (x && z) ≡ (x && y) && z
    moved true y z = refl
    moved false true z = refl
    moved false false z = refl

pub all_folded : (B : List ℕ) → fold (λ (all : Bool) (b : ℕ). even b && all) true B ≡ all_even B
all_folded B = folded true B ∙ always (all_even B)
  where
    always : (t : Bool) → t && true ≡ t
    always true = refl
    always false = refl

-- one more where a byte is odd, as a machine adds it
abbrev pub summed : ℕ → ℕ → ℕ
summed n b = (n + cond (even b) 0 1) % 2 ^ 64

-- the sum of so few does not wrap
so_far : (n : ℕ) (B : List ℕ) → n + length B < 2 ^ 64 → fold summed n B ≡ n + odds B
unfolding odds
so_far n [] h = omega arith
so_far n (b ∷ B) h =
    let most : cond (even b) 0 1 ≤ 1 = at_most (even b) in
    let e : summed n b ≡ n + cond (even b) 0 1 = omega (arith, h, most) in
    ap (λ (m : ℕ). fold summed m B) e ∙ so_far (n + cond (even b) 0 1) B (omega (arith, h, most))
    ∙ one_more (even b) (odds B)
  where
    at_most : (t : Bool) → cond t 0 1 ≤ 1
    at_most true = omega arith
    at_most false = omega arith

    one_more : (t : Bool) (m : ℕ) → (n + cond t 0 1) + m ≡ n + cond t m (suc m)
    one_more true m = omega arith
    one_more false m = omega arith

pub odds_summed : (B : List ℕ) → length B < 2 ^ 64 → fold summed 0 B ≡ odds B
odds_summed B h = so_far 0 B (omega (arith, h)) ∙ omega arith
