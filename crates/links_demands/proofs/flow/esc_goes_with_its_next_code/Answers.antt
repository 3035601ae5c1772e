-- The theorem is proved where its words are. Assumes nothing.
use native.Mathlib.Omega.{arith}
use Rattle.links_commands.specs.Commands.{pro1}
use Rattle.links.proofs.Own.{can_say}
use Rattle.links.proofs.Flow.{pair_passes}
use Rattle.links.proofs.Replying.{codes_wait}
use Rattle.links_demands.proofs.flow.esc_goes_with_its_next_code.Goals as goal

pub returns : goal.returns
returns c = record {
  held = λ e l cs s. codes_wait e l cs (pro1 0) 0 (omega arith) s;
  pairs = pair_passes;
  met = can_say;
}
