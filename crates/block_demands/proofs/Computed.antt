-- Two valid blocks that lie just four bits apart, and what the reader makes of the hits that lead from one to the
-- other. Assumes nothing.
use mathlib.Core.Path.{◌≡◌, refl, ◌∙◌}
use mathlib.Core.List.{List, [], ◌∷◌, ◌++◌}
use Prim.Native.Nat.{ℕ}
use native.Mathlib.Omega.{arith}
use lib.ListN.{replicate}
use Rattle.block_division.specs.Division.{low_bits, bits, reduce, divide}
use Rattle.block_parity.specs.Parity.{ones, even, all_even}
use Rattle.block_validity.specs.Block.{code_bits, remainder, valid, Valid}
use Rattle.block_validity.specs.Changed.{flip, hits, Places, NoneOf, differences, distance}
use Rattle.block_reader.specs.declared.Verdict.TheVariants.{Clean, Mended}
use Rattle.block_reader.specs.Judging.{verdict}
use Rattle.block_reader.proofs.Verdicts.{right_is}
use Rattle.block_reader.proofs.Mendable.{mended_by_one_more}
use Rattle.block_reader.proofs.AsZeros.{same_verdict}

pub four_off :
    Valid (replicate 17 0) × Valid (3 ∷ replicate 10 0 ++ (68 ∷ replicate 5 0))
    × (distance (replicate 17 0) (3 ∷ replicate 10 0 ++ (68 ∷ replicate 5 0)) ≡ 4)
unfolding low_bits bits reduce divide ones even all_even code_bits remainder valid differences distance
four_off = (tt, tt, refl)

-- the same four bits, hit in any valid block, and four with the parity bit of byte 16 among them: all four are clean,
-- and three of them are mended by the fourth
valid_there :
    Valid (hits (94 ∷ 0 ∷ 1 ∷ 90 ∷ []) (replicate 17 0)) × Valid (hits (127 ∷ 0 ∷ 3 ∷ 123 ∷ []) (replicate 17 0))
unfolding low_bits bits reduce divide ones even all_even code_bits remainder valid flip hits
valid_there = (tt, tt)

module _ (W : List ℕ) (v : Valid W) where
  clean_too : (ks : List ℕ) → Valid (hits ks (replicate 17 0)) → verdict (hits ks W) ≡ Clean
  clean_too ks u = same_verdict W ks v ∙ right_is (hits ks (replicate 17 0)) Clean u

  by_the_fourth : (k : ℕ) (ks : List ℕ) → Places (k ∷ ks) → NoneOf k ks → Valid (hits (k ∷ ks) (replicate 17 0))
      → (verdict (hits ks W) ≡ Mended k) × (verdict (hits (k ∷ ks) W) ≡ Clean)
  by_the_fourth k ks p n u = let c = clean_too (k ∷ ks) u in ((mended_by_one_more W ks k v p n).1 c, c)

  pub another :
      (verdict (hits (0 ∷ 1 ∷ 90 ∷ []) W) ≡ Mended 94) × (verdict (hits (94 ∷ 0 ∷ 1 ∷ 90 ∷ []) W) ≡ Clean)
      × (verdict (hits (0 ∷ 3 ∷ 123 ∷ []) W) ≡ Mended 127) × (verdict (hits (127 ∷ 0 ∷ 3 ∷ 123 ∷ []) W) ≡ Clean)
  another =
      let a = by_the_fourth 94 (0 ∷ 1 ∷ 90 ∷ []) (omega arith) (omega arith) valid_there.0 in
      let b = by_the_fourth 127 (0 ∷ 3 ∷ 123 ∷ []) (omega arith) (omega arith) valid_there.1 in (a.0, a.1, b.0, b.1)
