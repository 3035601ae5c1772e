-- The table from a remainder to the bit that it points to. Assumes nothing.
use Rattle.std.specs.Prelude.{ℕ, ◌<◌, List, get_or}
use Rattle.block_validity.specs.Mending.{PointsTo}

-- the rule of the table: entry r is the bit that remainder r points to
unfoldable pub Pointing : List ℕ → Type 0
Pointing places = (r : ℕ) → r < 128 → PointsTo r (get_or places r 0)
