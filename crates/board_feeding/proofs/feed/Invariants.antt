-- `board_feeding::feed` meets its contract. Assumes nothing.
use Rattle.std.proofs.Common.{◌≡◌, take}
use Rattle.links.specs.Runs.{run}
use Rattle.board_feeding.specs.Feeding.{from_line, got, shares_of}
use Rattle.board_feeding.proofs.feed.Given as goal

abbrev pub invariant-loop-value : goal.invariant-loop-value
invariant-loop-value l = record {
  links : l.links ≡ run l.initial.links (from_line (take l.value-index l.given));
  shares : l.shares ≡ shares_of (λ m. got m l.initial.links (from_line (take l.value-index l.given)));
}
