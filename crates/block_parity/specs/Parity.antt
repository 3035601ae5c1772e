-- Parity. Assumes nothing.
use Rattle.std.specs.Prelude.{ℕ, suc, ◌+◌, ◌*◌, ◌%◌, Bool, true, cond, ◌&&◌, List, [], ◌∷◌, eqb}
use Rattle.block_division.specs.Division.{low_bits}

-- how many ones there are in a row of bits
unfoldable pub ones : List ℕ → ℕ
ones [] = 0
ones (x ∷ xs) = x + ones xs

-- a byte has even parity: an even number of ones
unfoldable pub even : ℕ → Bool
even b = eqb (ones (low_bits 8 b) % 2) 0

-- each of some bytes has
unfoldable pub all_even : List ℕ → Bool
all_even [] = true
all_even (b ∷ bs) = even b && all_even bs

-- how many of them have not
unfoldable pub odds : List ℕ → ℕ
odds [] = 0
odds (b ∷ bs) = cond (even b) (odds bs) (suc (odds bs))

-- "'With parity' means that weight 128 is set so that the byte has an even number of ones" (01). Only the seven low
-- bits of the value count, so that it is said of any value
unfoldable pub with_parity : ℕ → ℕ
with_parity v = v % 128 + ones (low_bits 7 v) % 2 * 128
