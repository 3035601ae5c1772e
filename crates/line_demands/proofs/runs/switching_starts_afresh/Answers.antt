-- The theorem is proved where its words are. Assumes nothing.
use Rattle.line_receiver.proofs.Kept.{on_afresh, off_afresh}
use Rattle.line_demands.proofs.runs.switching_starts_afresh.Goals as goal

pub returns : goal.returns
returns c = (λ r g. (on_afresh r g, off_afresh r g))
