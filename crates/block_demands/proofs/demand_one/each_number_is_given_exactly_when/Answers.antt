-- The theorem is proved where its words are. Assumes nothing.
use Rattle.numbers.proofs.Given.{given_exactly}
use Rattle.block_reader.proofs.Verdicts.{told_number}
use Rattle.block_maker.proofs.Left.{told_long, told_large, told_short, told_taken}
use Rattle.block_demands.proofs.demand_one.each_number_is_given_exactly_when.Goals as goal

pub returns : goal.returns
returns c = record {
  order = given_exactly;
  judging = told_number;
  long = told_long;
  large = told_large;
  short = told_short;
  taken = told_taken;
}
