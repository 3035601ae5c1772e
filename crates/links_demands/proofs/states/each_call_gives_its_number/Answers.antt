-- The theorem is proved where its words are. Assumes nothing.
use Rattle.links.proofs.Refusals.{broken, large, numbers}
use Rattle.links_demands.proofs.states.each_call_gives_its_number.Goals as goal

pub returns : goal.returns
returns c = record {
  number = numbers;
  broken = broken;
  large = large;
}
