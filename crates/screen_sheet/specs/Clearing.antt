-- The cells of a screen, cleared (01, "Screen cells"). Assumes nothing.
use Rattle.std.specs.Prelude.{List, ◌++◌, take, replicate}
use Rattle.screen_cells.specs.declared.Cell.{Cell}
use Rattle.screen_cells.specs.Cells.{blank_of}

-- "FF: rows 1 to 24 blank, row 0 kept"
unfoldable pub cleared : List Cell → List Cell
cleared cs = take 40 cs ++ replicate 960 blank_of
