-- A byte by itself: with parity it passes as its value, and of odd parity as 7/F. Assumes nothing.
use mathlib.Core.Path.{◌≡◌}
use mathlib.Core.Bool.{Bool, true, false, cond}
use Prim.Native.Nat.{ℕ, ◌%◌, ◌<◌}
use native.Mathlib.Nat.{mod-lt, zero-lt-suc}
use native.Mathlib.Omega.{arith}
use Rattle.laws.proofs.Computed.{is_true}
use Rattle.block_parity.specs.Parity.{even, with_parity}
use Rattle.block_parity.proofs.Parities.{parity_even, parity_off}
use Rattle.line_codes.specs.Codes.{plainly}

-- "parity removed"
pub plain_back : (v : ℕ) → v < 128 → plainly (with_parity v) ≡ v
plain_back v h = simp (is_true (even (with_parity v)) (parity_even v), parity_off v h)

-- "a byte of odd parity passes as 7/F"
pub plain_odd : (b : ℕ) → even b ≡ false → plainly b ≡ 127
plain_odd b e = simp e

-- nothing above 127 passes
pub plain_lt : (b : ℕ) → plainly b < 128
plain_lt b = go (even b)
  where
    go : (t : Bool) → cond t (b % 128) 127 < 128
    go true = mod-lt b (zero-lt-suc 127)
    go false = omega arith
