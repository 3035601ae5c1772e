-- Which bits may be mended: the code bits and the parity bit of byte 16; and what follows of there being no more that
-- could, byte 17 left out. Assumes nothing.
use mathlib.Core.Path.{◌≡◌, refl, ap, subst}
use mathlib.Core.Bool.{Bool, true, false}
use mathlib.Core.List.{List, ◌∷◌}
use mathlib.Core.Logic.{◌↔◌}
use Prim.Native.Nat.{ℕ, ◌+◌, ◌<◌}
use lib.Dec.{ltb}
use lib.ListN.{length, get_or}
use borrow.Author.Tests.{ltb-true, ltb-false}
use Rattle.block_validity.specs.Block.{code_bits, Valid}
use Rattle.block_validity.specs.Changed.{flip, hits, Places, NoneOf, Near, same, changed}
use Rattle.block_validity.proofs.Powers.{code_length}
use Rattle.block_validity.proofs.LastByte.{last_never_mends, hit_last}
use Rattle.block_reader.specs.declared.Verdict.TheVariants.{Clean, Mended}
use Rattle.block_reader.specs.Judging.{mendable, verdict}
use Rattle.block_reader.specs.Claims.{Right}
use Rattle.block_reader.proofs.Verdicts.{is_right, right_is}

-- one bit more than there are code bits
pub code_bits_and_one : (B : List ℕ) → length B ≡ 17 → length (code_bits B) + 1 ≡ mendable
code_bits_and_one B l = ap (λ (n : ℕ). n + 1) (code_length B l)

-- where byte 17 is zero no other bit of the 136 could be mended
pub no_other : (B : List ℕ) {C : List ℕ} → length B ≡ 17 → get_or B 16 0 ≡ 0 → Near 136 B C → Valid C → Near mendable B C
no_other B l z same v = same
no_other B l z (changed k h) v = go (ltb k mendable) refl
  where
    go : (t : Bool) → ltb k mendable ≡ t → Near mendable B (flip k B)
    go true e = changed k (ltb-true k mendable e)
    go false e = absurd (last_never_mends k B (ltb-false k mendable e) h l z v)

-- hits are mended by another bit exactly where with that bit hit too they are clean
pub mended_by_one_more : (W ks : List ℕ) (k : ℕ) → Valid W → Places (k ∷ ks) → NoneOf k ks
    → verdict (hits ks W) ≡ Mended k ↔ verdict (hits (k ∷ ks) W) ≡ Clean
unfolding hits
mended_by_one_more W ks k v p n = (
  λ e. right_is (flip k B) Clean (subst (Right B) e (is_right B)).1,
  λ e. let u = subst (Right (flip k B)) e (is_right (flip k B)) in right_is B (Mended k) (among u (ltb k mendable) refl, u),
)
  where
    B : List ℕ
    B = hits ks W

    -- it is none of byte 17
    among : Valid (flip k B) → (t : Bool) → ltb k mendable ≡ t → k < mendable
    among u true e = ltb-true k mendable e
    among u false e = absurd (hit_last k ks W (ltb-false k mendable e) p n v u)
