-- Polynomials over bits, as numbers: the bit of weight 2^i is the coefficient of power i. They say what it means
-- that the generator divides, with no division in it. Assumes nothing.
use Rattle.std.specs.Prelude.{ℕ, ◌+◌, ◌*◌, ◌<◌, ◌≡◌, List, [], ◌∷◌}
use Rattle.std.specs.Int.Bits.{bit_xor}

-- the polynomial that a row of bits spells behind n, the highest power first
unfoldable pub polynomial : ℕ → List ℕ → ℕ
polynomial n [] = n
polynomial n (b ∷ bs) = polynomial (n * 2 + b) bs

-- the product of q and the generator: q x^7 + q x^3 + q
unfoldable pub times : ℕ → ℕ
times q = bit_xor (q * 128) (bit_xor (q * 8) q)

-- the generator divides the polynomial that the bits spell
abbrev pub GeneratorDivides : List ℕ → Type 0
GeneratorDivides xs = (q : ℕ) × (polynomial 0 xs ≡ times q)

-- each is 0 or 1
pub data Digits : List ℕ → Type 0 where
  none : Digits []
  more : {x : ℕ} {xs : List ℕ} → x < 2 → Digits xs → Digits (x ∷ xs)
