-- The numbers of the blocks count modulo 16, and each has its request. Assumes nothing.
use mathlib.Core.Path.{◌≡◌, refl}
use mathlib.Core.List.{[], ◌∷◌, map}
use Prim.Native.Nat.{ℕ, suc, ◌+◌, ◌%◌}
use native.Mathlib.Omega.{arith}
use Rattle.block_division.specs.Division.{low_bits}
use Rattle.block_parity.specs.Parity.{ones, with_parity}
use Rattle.line_codes.specs.Codes.{next, numbers, request}

-- "rises by one (15 becomes 0)"
pub rises : map next numbers ≡ 1 ∷ 2 ∷ 3 ∷ 4 ∷ 5 ∷ 6 ∷ 7 ∷ 8 ∷ 9 ∷ 10 ∷ 11 ∷ 12 ∷ 13 ∷ 14 ∷ 15 ∷ 0 ∷ []
rises = refl

-- k blocks behind the next are one more behind this one
pub counted : (x k : ℕ) → (next x + k) % 16 ≡ (x + suc k) % 16
counted x k = omega arith

-- the sixteen requests, byte by byte
pub spelled :
    map request numbers
    ≡ (149 ∷ 192 ∷ []) ∷ (149 ∷ 65 ∷ []) ∷ (149 ∷ 66 ∷ []) ∷ (149 ∷ 195 ∷ [])
    ∷ (149 ∷ 68 ∷ []) ∷ (149 ∷ 197 ∷ []) ∷ (149 ∷ 198 ∷ []) ∷ (149 ∷ 71 ∷ [])
    ∷ (149 ∷ 72 ∷ []) ∷ (149 ∷ 201 ∷ []) ∷ (149 ∷ 202 ∷ []) ∷ (149 ∷ 75 ∷ [])
    ∷ (149 ∷ 204 ∷ []) ∷ (149 ∷ 77 ∷ []) ∷ (149 ∷ 78 ∷ []) ∷ (149 ∷ 207 ∷ [])
    ∷ []
unfolding with_parity ones low_bits
spelled = refl
