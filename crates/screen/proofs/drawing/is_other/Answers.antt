-- `screen::drawing::is_other` meets its contract. Assumes nothing.
use mathlib.Core.Path.{◌≡◌, sym, ap, ◌∙◌}
use Rattle.screen_sequences.specs.Sequences.{is_free}
use Rattle.std.proofs.lemmas.Bool.{false_from_ne_true}
use Rattle.screen_sequences.proofs.Codes.{free}
use Rattle.screen.specs.Others.{is_other}
use Rattle.screen.proofs.drawing.is_other.Goals as goal
use Rattle.screen.proofs.drawing.is_other.Goals.{in-Free, in_default, Joined-matches}

matched : (c : Joined-matches) → is_free c.args.pen.sequence ≡ c.match-matches.matches
matched c = elim c.match-matches.branch [
  | in-Free w ↦ ap is_free w.in-Free.is ∙ sym w.matches-is
  | in_default w ↦ false_from_ne_true _ (λ e. w.in_default.not-Free (free _ e)) ∙ sym w.matches-is
]

pub returns-then-not-matches : goal.returns-then-not-matches
unfolding is_other
returns-then-not-matches c = simp (matched (goal.at.returns-then-not-matches c).Joined-matches, c.if-not-matches.true)

pub returns-else-not-matches : goal.returns-else-not-matches
unfolding is_other
returns-else-not-matches c = simp (matched (goal.at.returns-else-not-matches c).Joined-matches, c.if-not-matches.false)
