-- The theorem is proved where its words are. Assumes nothing.
use Rattle.block_validity.proofs.Distance.{four_apart}
use Rattle.block_demands.proofs.Computed.{four_off}
use Rattle.block_demands.proofs.demand_three.valid_blocks_lie_four_bits_apart.Goals as goal

pub returns : goal.returns
returns c = record {
  apart = four_apart;
  reached = four_off;
}
