-- `screen_demands::cells::the_same_cell_is_an_equal_cell` meets its contract. Assumes nothing.
use Rattle.screen_cells.specs.Cells.{blank_of}
use Rattle.screen_cells.proofs.Equal.{same_equal, equal_same}
use Rattle.screen_demands.proofs.cells.the_same_cell_is_an_equal_cell.Goals as goal

pub returns : goal.returns
returns c = record {
  equal = λ x y. (same_equal x y, equal_same x y);
  blank = λ x. (same_equal x blank_of, equal_same x blank_of);
}
