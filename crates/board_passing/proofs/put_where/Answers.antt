-- `board_passing::put_where` meets its contract. Assumes nothing.
use mathlib.Core.Path.{◌≡◌}
use mathlib.Core.List.{[]}
use native.Mathlib.Omega.{arith}
use Rattle.lent.specs.Memory.{behind}
use Rattle.lent.proofs.Behind.{none_written}
use Rattle.board_passing.proofs.put_where.Goals as goal

pub returns-then-reached : goal.returns-then-reached
returns-then-reached c =
    let e = c.if-reached.true in
    record {
      value = simp (e, c.add.ensures.value);
      left = simp (e, c.add.ensures.left);
    }

pub returns-else-reached : goal.returns-else-reached
returns-else-reached c =
    let a = c.args in
    let e = c.if-reached.false in
    let none : behind a.out.now a.at [] ≡ a.at = omega arith in
    record {
      value = simp (e, none);
      left = simp (e, none_written a.out.now a.at);
    }
