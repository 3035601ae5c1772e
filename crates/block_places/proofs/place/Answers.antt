-- `block_places::place` meets its contract, by the table's rule. Assumes nothing.
use Prim.Native.Nat.{◌%◌}
use native.Mathlib.Nat.{mod-lt, zero-lt-suc}
use Rattle.block_places.specs.Places.{Pointing}
use Rattle.block_places.proofs.place.Goals as goal

pub returns : goal.returns
unfolding Pointing
returns c = c.places.ensures (c.args.r % 128) (mod-lt c.args.r (zero-lt-suc 127))
