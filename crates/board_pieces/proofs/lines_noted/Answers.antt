-- `board_pieces::lines_noted` meets its contract. Assumes nothing.
use Rattle.std.proofs.Common.{◌≡◌, refl, sym, ap, ◌∙◌, Bool, true, false, ◌&&◌, length}
use mathlib.Core.Path.{subst}
use borrow.Author.Tests.{le-leb}
use Rattle.board.specs.Boards.{in_range}
use Rattle.board_passing.specs.Passing.{room_of}
use Rattle.board_pieces.specs.Pieces.{is_taken, LeftIn, left_in}
use Rattle.board_pieces.specs.Noted.{noted}
use Rattle.board_pieces.proofs.Noting.{places, not_taken, too_few}
use Rattle.board_pieces.proofs.Taken.{untouched, same}
use Rattle.board_pieces.proofs.lines_noted.Goals as goal

both_true : (t : Bool) → t && true ≡ t
both_true true = refl
both_true false = refl

pub returns-then-piece-notes : goal.returns-then-piece-notes
returns-then-piece-notes c =
    let b = c.args.board in
    let xs = c.args.piece.now in
    let o = c.args.outputs.now in
    let ns = c.args.notes.now in
    let e = c.hear_piece.ensures in
    let n = places b xs (room_of o) (length ns) c.if-piece-notes.true in record {
      value = e.value ∙ n.0;
      left = subst (λ (t : Bool). LeftIn t b xs o c.hear_piece.new.outputs) n.1 e.left;
      same = e.same;
      noted = e.noted
          ∙ ap (λ (t : Bool). left_in (is_taken b xs (room_of o) && t) (noted b xs) ns)
          (le-leb (length xs) (length ns) c.if-piece-notes.true)
          ∙ ap (λ (t : Bool). left_in t (noted b xs) ns) (both_true (is_taken b xs (room_of o)) ∙ n.1);
    }

pub returns-then-in_range : goal.returns-then-in_range
returns-then-in_range c =
    let b = c.args.board in
    let xs = c.args.piece.now in
    let o = c.args.outputs.now in
    let ns = c.args.notes.now in
    let e : in_range b ≡ true = sym c.in_range.ensures ∙ c.if-in_range.true in
    let none = not_taken b xs (room_of o) (length ns) c.if-piece-notes.false in record {
      value = c.refuse.ensures ∙ too_few b xs (room_of o) (length ns) c.if-piece-notes.false true e;
      left = untouched b xs o none;
      same = record { keyboard = refl; modem = refl; socket = refl; requests = refl };
      noted = same none (noted b xs) ns;
    }

pub returns-else-in_range : goal.returns-else-in_range
returns-else-in_range c =
    let b = c.args.board in
    let xs = c.args.piece.now in
    let o = c.args.outputs.now in
    let ns = c.args.notes.now in
    let e : in_range b ≡ false = sym c.in_range.ensures ∙ c.if-in_range.false in
    let none = not_taken b xs (room_of o) (length ns) c.if-piece-notes.false in record {
      value = c.refuse-else-in_range.ensures ∙ too_few b xs (room_of o) (length ns) c.if-piece-notes.false false e;
      left = untouched b xs o none;
      same = record { keyboard = refl; modem = refl; socket = refl; requests = refl };
      noted = same none (noted b xs) ns;
    }
