-- `board_passing::Outputs::pass_each` meets its contract. Assumes nothing.
use Rattle.std.proofs.Common.{◌≡◌, refl, ◌∙◌, take, take_all}
use Rattle.board_passing.specs.Passing.{held}
use Rattle.board_passing.proofs.Spread.{none_onward, none_handed, one_onward, one_handed}
use Rattle.board_passing.proofs.Outputs.pass_each.Goals as goal

pub loop-value-init : goal.loop-value-init
loop-value-init c =
    let at = c.args.at in
    let o = held c.args.gathered.now c.args.self.now in record {
      value = none_onward at.links at.gathered at.used o;
      left = none_handed at.links at.gathered at.used o;
      same = record { keyboard = refl; modem = refl; socket = refl; requests = refl };
      unasked = refl;
    }

pub loop-value-preserved : goal.loop-value-preserved
loop-value-preserved c =
    let at = c.args.at in
    let vs = c.args.values.now in
    let o = held c.args.gathered.now c.args.self.now in
    let l = c.loop-value in
    let one = c.pass_one-state.ensures in record {
      value = one.value ∙ one_onward at.links vs l.value-index c.loop-value-test.true at.gathered at.used o l.invariant.value l.invariant.left;
      left = one.left ∙ one_handed at.links vs l.value-index c.loop-value-test.true at.gathered at.used o l.invariant.value l.invariant.left;
      same = record {
        keyboard = one.same.keyboard ∙ l.invariant.same.keyboard;
        modem = one.same.modem ∙ l.invariant.same.modem;
        socket = one.same.socket ∙ l.invariant.same.socket;
        requests = one.same.requests ∙ l.invariant.same.requests;
      };
      unasked = one.unasked ∙ l.invariant.unasked;
    }

pub returns : goal.returns
returns c =
    let vs = c.args.values.now in
    let l = c.loop-value in
    let e : take l.value-index vs ≡ vs = take_all l.value-index vs c.loop-value-test.false in
    rw (← e) (record { value = l.invariant.value; left = l.invariant.left; same = l.invariant.same; unasked = l.invariant.unasked })
