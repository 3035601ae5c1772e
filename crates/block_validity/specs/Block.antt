-- The block of seventeen bytes and its validity (01, "The block"; 001, section 5-1). A block is a list of bytes:
-- byte 1 of the papers stands at place 0. Assumes nothing.
use Rattle.std.specs.Prelude.{ℕ, ◌<◌, Bool, ◌&&◌, List, ◌++◌, reverse, T, eqb, length, get_or, take}
use Rattle.block_division.specs.Division.{low_bits, bits, divide}
use Rattle.block_parity.specs.Parity.{all_even}

-- "all 120 bits of bytes 1 to 15 and the seven low bits of byte 16, 127 together": the coefficients of powers 126
-- down to 0. In byte 16 weight 64 comes first: "aux bits 0 à 6 les coefficients de rang 0 à 6" (001, section
-- 5-1-3). This definition alone holds the order of the code bits
unfoldable pub code_bits : List ℕ → List ℕ
code_bits B = bits (take 15 B) ++ reverse (low_bits 7 (get_or B 15 0))

-- what division of the code bits by the generator leaves
unfoldable pub remainder : List ℕ → ℕ
remainder B = divide 0 (code_bits B)

-- "A block is valid if bytes 1 to 16 each have even parity, the 127 bits are divisible, and byte 17 is zero"
unfoldable pub valid : List ℕ → Bool
valid B = eqb (length B) 17 && all_even (take 16 B) && eqb (remainder B) 0 && eqb (get_or B 16 0) 0

abbrev pub Valid : List ℕ → Type 0
Valid B = T (valid B)

-- each is a byte, 0 to 255
abbrev pub Bytes : List ℕ → Type 0
Bytes B = (i : ℕ) → i < length B → get_or B i 0 < 256
