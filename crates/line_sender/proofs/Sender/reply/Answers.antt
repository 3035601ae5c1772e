-- `line_sender::Sender::reply` meets its contract: the blocks from the one named on, where each test is passed. Assumes
-- nothing.
use Rattle.std.proofs.Common.{List, ℕ, get_or, sym, ap, ◌∙◌}
use Rattle.line_sender.proofs.Answers.{again}
use Rattle.line_sender.proofs.Sender.reply.Goals as goal

pub returns-clause-left : goal.returns-clause-left
returns-clause-left c =
    c.begin_again.ensures
    ∙ again c.args.self c.args.request.now c.args.out.now c.if-request-ne2.false
    (sym c.in_range.ensures ∙ c.if-not-in_range.false)
    (c.if-request-named.false ∙ ap (λ (l : List ℕ). get_or l 0 0) c.request-named.ensures)
    (c.if-code-named.false ∙ ap (λ (l : List ℕ). get_or l 1 0) c.request-named.ensures) c.if-self-before.false
    c.if-out-count.false
