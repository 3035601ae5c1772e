-- The notes on a record, computed. Assumes nothing.
use mathlib.Core.Path.{◌≡◌, refl}
use mathlib.Core.List.{[], ◌∷◌}
use Prim.Native.Nat.{ℕ, ◌+◌, ◌<◌}
use native.Mathlib.Omega.{arith}
use Rattle.block_division.specs.Division.{low_bits, bits, reduce, divide}
use Rattle.block_parity.specs.Parity.{ones, even, all_even, with_parity}
use Rattle.block_validity.specs.Block.{code_bits, remainder, valid}
use Rattle.block_validity.specs.Changed.{flip}
use Rattle.block_reader.specs.declared.Verdict.TheVariants.{Mended}
use Rattle.block_reader.specs.Judging.{try_from, verdict, left}
use Rattle.line_phases.specs.declared.Phase.TheVariants.{Off, Collecting}
use Rattle.line_receiver.specs.States.{emptied}
use Rattle.line_turns.specs.Notes.{verdict_note, notes_of}
use Rattle.line_turns.specs.Card.{recorded, noted_down}

pub as_written : notes_of (emptied 0 Collecting) recorded ≡ noted_down
unfolding low_bits bits reduce divide ones even all_even with_parity code_bits remainder valid flip try_from verdict left
as_written = refl

pub while_off : notes_of (emptied 0 Off) (65 ∷ 200 ∷ []) ≡ 0 ∷ 0 ∷ []
while_off = refl

-- the note on a mended block tells its bit
pub bit_told : (k : ℕ) → k < 128 → verdict_note (Mended k) ≡ 128 + k
bit_told k h = omega (arith, h)
