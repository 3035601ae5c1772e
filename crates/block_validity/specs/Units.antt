-- A word for the laws of single bits. Assumes nothing.
use Rattle.std.specs.Prelude.{ℕ, ◌/◌, ◌%◌, ◌^◌, List, set, replicate}

-- the block of zeros with the bit in place k alone
abbrev pub unit : ℕ → List ℕ
unit k = set (replicate 17 0) (k / 8) (2 ^ (k % 8))
