-- `screen_sheet::clear` meets its contract: row 0 is copied over a thousand blank cells. Assumes nothing.
use mathlib.Core.Path.{◌≡◌, sym, ap₂}
use mathlib.Core.List.{List, ◌++◌}
use Prim.Native.Nat.{ℕ}
use native.Mathlib.Omega.{arith}
use lib.ListN.{length, take, drop, replicate}
use lib.Seq.{length-take-le}
use Rattle.laws.proofs.Lists.{length_mapped}
use Rattle.screen_cells.specs.declared.Cell.{Cell}
use Rattle.screen_cells.specs.Cells.{blank_of}
use Rattle.screen_sheet.specs.Clearing.{cleared}
use Rattle.screen_sheet.proofs.clear.Goals as goal

-- so many cells are kept
abbrev kept : ℕ
kept = 40

row_0 : (old : List Cell) → length old ≡ 1000 → kept ≡ length (take kept old)
row_0 old n = sym (length-take-le kept old (omega (arith, n)))

pub slice_bounds-copy_from_slice-end-2 : goal.slice_bounds-copy_from_slice-end-2
slice_bounds-copy_from_slice-end-2 c = row_0 c.args.old (search (length_mapped, c.well_formed.0))

pub copy_from_slice-requires : goal.copy_from_slice-requires
copy_from_slice-requires c = row_0 c.args.old (search (length_mapped, c.well_formed.0))

pub returns : goal.returns
unfolding cleared
returns c =
    ap₂ (λ (cs : List Cell) (x : Cell). cs ++ drop kept (replicate 1000 x)) c.copy_from_slice.ensures.after
    c.blank-cells.ensures
