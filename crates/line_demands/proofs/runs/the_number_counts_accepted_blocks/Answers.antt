-- The theorem is proved where its words are. Assumes nothing.
use mathlib.Core.Path.{refl}
use Prim.Native.Nat.{◌<◌}
use native.Mathlib.Omega.{arith}
use Rattle.line_receiver.specs.States.{new_receiver}
use Rattle.line_receiver.proofs.Ranges.{number_in}
use Rattle.line_receiver.proofs.Kept.{new_in}
use Rattle.line_receiver.proofs.Counted.{moves, counts}
use Rattle.line_demands.proofs.runs.the_number_counts_accepted_blocks.Goals as goal

pub returns : goal.returns
returns c = record {
  counted = λ r g es. let h : r.number < 16 = number_in r g.range in counts es r.number r g (omega arith);
  anew = λ es. counts es 0 new_receiver new_in refl;
  moves = λ r g e u. moves e r g u;
}
