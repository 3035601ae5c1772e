-- `block::judge` meets its contract: it is `mend` and a part of what `mend` leaves. Assumes nothing.
use Rattle.std.proofs.Common.{◌≡◌, ℕ, List, length, MutBor}
use mathlib.Core.Path.{sym, ap, ◌∙◌}
use native.Mathlib.Omega.{arith}
use lib.Seq.{length-take-le}
use Rattle.block.proofs.Handing.{taken_long, taken_part, refused_part}
use Rattle.block.proofs.judge.Goals as goal
use Rattle.block.proofs.judge.Goals.{in-Clean, in-Repeat}

pub slice_bounds-part-end : goal.slice_bounds-part-end
slice_bounds-part-end c =
    let m = c.mend-verdict in
    let l : length m.new.block ≡ 17 = m.auto.block ∙ taken_long _ _ m.ensures.0 c.in-Clean.is in
    sym (length-take-le 15 m.new.block (omega arith))

pub returns : goal.returns
returns c =
    let m = c.mend-verdict in
    let bytes = λ (p : MutBor (List ℕ)). p.now in
    let place = λ (p : MutBor (List ℕ)). p.ref_ptr in
    elim c.match-verdict.branch [
      | in-Clean w ↦ (
        m.ensures.0,
        ap bytes w.part-is ∙ taken_part _ _ m.ensures.0 _ m.ensures.1 w.in-Clean.is,
        ap place w.part-is,
      )
      | in-Repeat w ↦ (
        m.ensures.0,
        ap bytes w.part-is ∙ refused_part _ _ m.ensures.0 _ m.ensures.1 w.in-Repeat.is,
        ap place w.part-is,
      )
    ]
