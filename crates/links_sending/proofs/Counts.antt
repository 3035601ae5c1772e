-- "One input byte sends at most five bytes to any receiver": where there are no more, no more are counted. Assumes
-- nothing.
use mathlib.Core.List.{List}
use Prim.Native.Nat.{ℕ, ◌≤◌}
use native.Mathlib.Omega.{arith}
use lib.ListN.{length}
use Rattle.links_sending.specs.Sending.{packed}

pub count_few : (vs : List ℕ) → length vs ≤ 5 → (packed vs).count ≤ 5
count_few vs h = omega (arith, h)
