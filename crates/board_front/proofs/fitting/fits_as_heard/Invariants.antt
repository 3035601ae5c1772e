-- `board_front::fitting::fits_as_heard` meets its contract. Assumes nothing.
use Rattle.std.proofs.Common.{◌≡◌, take}
use Rattle.board_front.specs.LineBytes.{behind}
use Rattle.board_front.specs.Fitting.{needed}
use Rattle.board_front.proofs.Rooms.{Spent}
use Rattle.board_front.proofs.fitting.fits_as_heard.Given as goal

abbrev pub invariant-loop-byte : goal.invariant-loop-byte
invariant-loop-byte l = let xs = take l.byte-index l.piece in record {
  front : l.front ≡ behind l.initial.front xs;
  left : Spent l.initial.left l.left (needed l.initial.front xs);
}
