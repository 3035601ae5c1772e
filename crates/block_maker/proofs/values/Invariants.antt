-- `block_maker::values` meets its contract: the first places hold values, and the others are as they began. Assumes
-- nothing.
use mathlib.Core.Path.{◌≡◌}
use mathlib.Core.List.{◌++◌}
use lib.ListN.{take, drop, replicate}
use Rattle.block_maker.specs.Making.{values_of}
use Rattle.block_maker.proofs.values.Given as goal

abbrev pub invariant-loop-place : goal.invariant-loop-place
invariant-loop-place l = l.values ≡ take l.place (values_of l.bytes) ++ drop l.place (replicate 15 0)
