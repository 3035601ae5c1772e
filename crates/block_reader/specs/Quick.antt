-- The quick way to a verdict: what is asked before the bit that the remainder points to is changed. No promise speaks
-- of it. Assumes nothing.
use Rattle.std.specs.Prelude.{Bool, ◌&&◌, not, ℕ, eqb}
use Rattle.block_parity.specs.Parity.{even}

-- of the bytes n are odd, and byte b is the one
abbrev pub the_odd_one : ℕ → ℕ → Bool
the_odd_one n b = eqb n 1 && not (even b)
