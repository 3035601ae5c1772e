-- `block_maker::fill` meets its contract: the first i bytes are useful ones, and the others as they were. Assumes
-- nothing.
use mathlib.Core.Path.{◌≡◌}
use mathlib.Core.List.{◌++◌}
use lib.ListN.{take, drop}
use Rattle.block_maker.specs.Making.{useful}
use Rattle.block_maker.proofs.fill.Given as goal

abbrev pub invariant-loop-i : goal.invariant-loop-i
invariant-loop-i l = l.out ≡ take l.i (useful l.values) ++ drop l.i l.initial.out
