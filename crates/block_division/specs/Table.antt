-- The table of 256 remainders, one for each byte entering the division (02, request 3). Assumes nothing.
use Rattle.std.specs.Prelude.{ℕ, ◌<◌, ◌≡◌, List, [], ◌∷◌, get_or}
use Rattle.block_division.specs.Division.{low_bits, check_bits}
use Rattle.block_division.specs.Polynomials.{polynomial}

-- seven bits the other way round: weight 1 becomes weight 64, weight 2 becomes 32, and so on
unfoldable pub mirrored : ℕ → ℕ
mirrored c = polynomial 0 (low_bits 7 c)

-- what byte b leaves that enters the division alone: its eight bits and seven zeros behind them. It is mirrored, so
-- that weight 1 has the highest power, as in a byte
unfoldable pub entering : ℕ → ℕ
entering b = mirrored (check_bits (b ∷ []))

-- the rule of the table: entry b is what byte b leaves
unfoldable pub Remainders : List ℕ → Type 0
Remainders table = (b : ℕ) → b < 256 → get_or table b 0 ≡ entering b
