-- What the maker writes the reader hands back, and what is read clean the maker writes. Assumes nothing.
use mathlib.Core.Path.{◌≡◌, ap, ◌∙◌, subst}
use mathlib.Core.List.{List}
use Prim.Native.Nat.{ℕ, ◌≤◌}
use lib.ListN.{length}
use Rattle.block_validity.specs.Block.{Bytes}
use Rattle.block_maker.specs.Making.{useful, block_of, values_of}
use Rattle.block_maker.proofs.Blocks.{made_valid, made_useful, valid_made}
use Rattle.block_reader.specs.declared.Verdict.{Verdict}
use Rattle.block_reader.specs.declared.Verdict.TheVariants.{Clean}
use Rattle.block_reader.specs.Judging.{verdict, left_by, left, handed_by, handed}
use Rattle.block_reader.specs.Claims.{Right}
use Rattle.block_reader.proofs.Verdicts.{is_right, right_is}

pub made_clean : (vs : List ℕ) → length vs ≤ 15 → verdict (block_of vs) ≡ Clean
made_clean vs h = right_is (block_of vs) Clean (made_valid vs h)

pub made_handed : (vs : List ℕ) → length vs ≤ 15 → handed (block_of vs) ≡ useful vs
unfolding handed left
made_handed vs h = ap (λ (w : Verdict). handed_by w (left_by w (block_of vs))) (made_clean vs h) ∙ made_useful vs h

pub clean_made : (B : List ℕ) → Bytes B → verdict B ≡ Clean → B ≡ block_of (values_of B)
clean_made B b e = valid_made B b (subst (Right B) e (is_right B))
