-- `block_division::check_bits` meets its contract: m is the check bits so far, mirrored. Assumes nothing.
use mathlib.Core.Path.{◌≡◌}
use lib.ListN.{take}
use Rattle.block_division.specs.Division.{check_bits}
use Rattle.block_division.specs.Table.{mirrored, Remainders}
use Rattle.block_division.proofs.check_bits.Given as goal

abbrev pub invariant-loop-byte : goal.invariant-loop-byte
invariant-loop-byte l = (l.m ≡ mirrored (check_bits (take l.byte-index l.bytes))) × Remainders l.table
