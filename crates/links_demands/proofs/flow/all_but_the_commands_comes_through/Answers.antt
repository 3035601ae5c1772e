-- The theorem is proved where its words are. Assumes nothing.
use Rattle.links_hearing.proofs.Flowing.{phrased}
use Rattle.links.proofs.Through.{comes_through, stays_linked}
use Rattle.links_demands.proofs.flow.all_but_the_commands_comes_through.Goals as goal

pub returns : goal.returns
returns c = record {
  flows = comes_through;
  phrased = phrased;
  met = stays_linked;
}
