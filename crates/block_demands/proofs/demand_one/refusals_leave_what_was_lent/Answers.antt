-- The theorem is proved where its words are. Assumes nothing.
use mathlib.Core.Path.{sym}
use Rattle.block_maker.proofs.Numbered.{refused}
use Rattle.block_reader.proofs.Handed.{refused_whole}
use Rattle.block_demands.proofs.demand_one.refusals_leave_what_was_lent.Goals as goal

pub returns : goal.returns
returns c = record {
  making = λ vs O ne. sym (refused vs O ne);
  judging = refused_whole;
}
