-- Long division of a row of bits by the generator x^7 + x^3 + 1. A bit is the number 0 or 1, and a remainder is a
-- number below 128 whose bit of weight 2^i is the coefficient of power i. Assumes nothing.
use Rattle.std.specs.Prelude.{ℕ, zero, suc, ◌+◌, ◌*◌, ◌/◌, ◌%◌, cond, List, [], ◌∷◌, ◌++◌, ltb, replicate}
use Rattle.std.specs.Int.Bits.{bit_xor}

-- the n low bits of a number, weight 1 first
unfoldable pub low_bits : ℕ → ℕ → List ℕ
low_bits zero b = []
low_bits (suc n) b = b % 2 ∷ low_bits n (b / 2)

-- the bits of bytes in order: "byte 1 first, and weight 1 first in each byte" (01, "The block")
unfoldable pub bits : List ℕ → List ℕ
bits [] = []
bits (b ∷ bs) = low_bits 8 b ++ bits bs

-- "G(x) = x^7 + x^3 + 1" (001, section 5-1-3)
abbrev pub generator : ℕ
generator = 128 + 8 + 1

-- taken away where power 7 stands
unfoldable pub reduce : ℕ → ℕ
reduce n = cond (ltb n 128) n (bit_xor n generator)

-- each bit in turn is brought down behind the remainder so far
unfoldable pub divide : ℕ → List ℕ → ℕ
divide r [] = r
divide r (b ∷ bs) = divide (reduce (r * 2 + b)) bs

-- "ce polynôme est multiplié par x^7 .. est divisé par le polynôme générateur": what the bytes and seven zeros
-- behind them leave
unfoldable pub check_bits : List ℕ → ℕ
check_bits bs = divide 0 (bits bs ++ replicate 7 0)
