-- `board_passing::Outputs::pass_each` meets its contract. Assumes nothing.
use Rattle.std.proofs.Common.{◌≡◌, take}
use Rattle.board_passing.specs.Passing.{onward, handed_out, held, SameOutputs}
use Rattle.board_passing.proofs.Outputs.pass_each.Given as goal

abbrev pub invariant-loop-value : goal.invariant-loop-value
invariant-loop-value l =
    let at = l.initial.state in
    let vs = take l.value-index l.values in
    let o = held l.initial.gathered l.initial.self in record {
      value : l.state ≡ onward at.links vs at.gathered at.used o;
      left : held l.gathered l.self ≡ handed_out at.links vs at.gathered at.used o;
      same : SameOutputs l.initial.self l.self;
      unasked : l.self.requests.now ≡ l.initial.self.requests.now;
    }
