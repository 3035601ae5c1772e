-- The theorem is proved where its words are. Assumes nothing.
use Rattle.links.proofs.Choosing.{begins_local, begins_connected, local_chosen, connected_chosen}
use Rattle.links_demands.proofs.states.the_host_chooses_a_table.Goals as goal

pub returns : goal.returns
returns c = record {
  local = local_chosen;
  connected = connected_chosen;
  statuses = (begins_local, begins_connected);
}
