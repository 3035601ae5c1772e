-- Which codes of US name a place (01, "Screen cells"). Assumes nothing.
use Rattle.std.specs.Prelude.{ℕ, ◌≤◌}

-- "row r minus 64 in 0 to 24, column c minus 64 in 1 to 40"
pub record Names (r c : ℕ) : Type 0 where
  pub lowest : 64 ≤ r
  pub highest : r ≤ 88
  pub first : 65 ≤ c
  pub last : c ≤ 104
