-- `board_front::hear` meets its contract. Assumes nothing.
use Rattle.line_receiver.proofs.Asked.{asked_counted}
use Rattle.board_front.specs.LineBytes.{heard_by}
use Rattle.board_front.proofs.hear.Goals as goal

pub returns : goal.returns
unfolding heard_by
returns c =
    let s = c.step in
    let a = c.args in (
      simp (c.send_on.ensures.0, s.ensures),
      c.send_on.ensures.1,
      simp (c.send_on.ensures.0, s.ensures) (asked_counted a.front.receiver a.byte).0,
    )
