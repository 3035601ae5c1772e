-- `board_front::fits` meets its contract. Assumes nothing.
use Rattle.std.proofs.Common.{sym, ◌∙◌, arith}
use borrow.Author.Tests.{leb-true}
use Rattle.board_front.proofs.Amply.{amply}
use Rattle.board_front.proofs.fitting.fits.Goals as goal
use Rattle.board_front.proofs.fitting.fits.Goals.{then-start-le16, else-start-le16}

pub returns-then-is_ample : goal.returns-then-is_ample
returns-then-is_ample c =
    let a = c.args in
    elim c.if-start-le16.branch [
      | then-start-le16 w ↦
          c.if-is_ample.true ∙ sym (amply a.start a.piece.now a.room w.if-start-le16.true
          (w.is_ample.ensures (sym w.value-is ∙ c.if-is_ample.true)))
      | else-start-le16 w ↦ absurd (omega (arith, leb-true a.start.receiver.count 16 (sym w.value-is ∙ c.if-is_ample.true)))
    ]
