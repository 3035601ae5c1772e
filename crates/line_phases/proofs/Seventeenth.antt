-- It is the seventeenth byte that completes a block. Assumes nothing.
use mathlib.Core.Path.{◌≡◌}
use mathlib.Core.Bool.{true, false}
use Prim.Native.Nat.{ℕ, ◌≤◌, ◌<◌}
use native.Mathlib.Omega.{arith}
use borrow.Author.Tests.{ltb-true, ltb-false}
use Rattle.line_phases.specs.Phases.{awaits_more}

-- where more are awaited, sixteen at most are held with the next one
pub not_yet : (count : ℕ) → awaits_more count ≡ true → count < 16
not_yet count e = ltb-true count 16 e

-- where none is, and at most sixteen can be held, sixteen are held
pub the_last : (count : ℕ) → count < 17 → awaits_more count ≡ false → count ≡ 16
the_last count h e = let k : 16 ≤ count = ltb-false count 16 e in omega arith
