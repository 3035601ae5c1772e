-- The rule of a table from a remainder to the bit that it points to: one test over all its entries, and the law that
-- carries it to each. Assumes nothing.
use mathlib.Core.Bool.{Bool, ◌&&◌}
use mathlib.Core.List.{List}
use Prim.Native.Nat.{ℕ}
use lib.Dec.{T, eqb, ltb, eqb→eq, ltb→lt}
use lib.ListN.{get_or}
use Rattle.laws.proofs.Computed.{at, below, and_left, and_right}
use Rattle.block_validity.specs.Block.{remainder}
use Rattle.block_validity.specs.Units.{unit}
use Rattle.block_validity.specs.Mending.{pointable}
use Rattle.block_places.specs.Places.{Pointing}

-- entry r is a bit that may be pointed to, and alone it leaves r
abbrev pub right : List ℕ → ℕ → Bool
right places r = eqb (remainder (unit (get_or places r 0))) r && ltb (get_or places r 0) pointable

pub pointed : (places : List ℕ) → T (below (right places) 128) → Pointing places
unfolding Pointing
pointed places all r h =
    let k : ℕ = get_or places r 0 in
    let t : T (eqb (remainder (unit k)) r && ltb k pointable) = at (right places) 128 all r h in (
      ltb→lt k pointable (and_right (eqb (remainder (unit k)) r) (ltb k pointable) t),
      eqb→eq (remainder (unit k)) r (and_left (eqb (remainder (unit k)) r) (ltb k pointable) t),
    )
