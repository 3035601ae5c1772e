-- `line_sender::Sender::keep` meets its contract. Assumes nothing.
use Rattle.std.proofs.Common.{List, ℕ, rules, arith, ap, ◌∙◌}
use Rattle.std.proofs.Math.Seq.{paste}
use Rattle.line_sender.proofs.Arrays.{keeps_last}
use Rattle.line_sender.proofs.Sender.keep.Goals as goal

pub returns-else-self-lt16 : goal.returns-else-self-lt16
returns-else-self-lt16 c =
    keeps_last c.args.self c.args.block.now c.put_in-else-self-lt16.result c.next_number-next.result
    (omega (arith, c.requires.1, c.if-self-lt16.false)) (search rules)
    (c.put_in-else-self-lt16.ensures ∙ ap (λ (b : List ℕ). paste b 255 c.args.block.now 17) c.shifted.ensures)
    c.next_number-next.ensures
