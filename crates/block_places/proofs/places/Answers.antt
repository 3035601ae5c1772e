-- `block_places::places` meets its contract: the test over all 128 entries, computed. Assumes nothing.
use Rattle.block_division.specs.Division.{low_bits, bits, reduce, divide}
use Rattle.block_validity.specs.Block.{code_bits, remainder}
use Rattle.block_places.proofs.Pointed.{pointed}
use Rattle.block_places.proofs.places.Goals as goal

pub returns : goal.returns
unfolding low_bits bits code_bits reduce divide remainder
returns c = pointed _ tt
