-- Which thousand cells are in range: those of which each one is. Assumes nothing.
use Rattle.std.specs.Prelude.{Bool, List, [], ◌∷◌}
use Rattle.std.specs.List.{list_all}
use Rattle.screen_cells.specs.declared.Cell.{Cell}
use Rattle.screen_cells.specs.Cells.{good_cell, InCell}

-- ---- the test

unfoldable pub all_good : List Cell → Bool
all_good cs = list_all good_cell cs

-- ---- the ranges

pub data AllIn : List Cell → Type 0 where
  none : AllIn []
  also : {c : Cell} {cs : List Cell} → InCell c → AllIn cs → AllIn (c ∷ cs)
