-- What the reader hands back, and that a verdict other than a refusal is of seventeen bytes. Assumes nothing.
use mathlib.Core.Path.{◌≡◌, refl, sym, ap, ap₂, ◌∙◌, subst⁻¹}
use mathlib.Core.Bool.{cond}
use mathlib.Core.List.{List, [], ◌∷◌}
use Prim.Native.Nat.{ℕ, ◌<◌}
use native.Mathlib.Omega.{arith}
use lib.Dec.{eqb}
use lib.ListN.{length, take}
use Rattle.numbers.specs.Numbers.{Told}
use Rattle.block_validity.specs.Block.{Valid}
use Rattle.block_validity.specs.Changed.{flip}
use Rattle.block_validity.proofs.Validity.{valid_length}
use Rattle.block_validity.proofs.Alone.{flipped_length}
use Rattle.block_reader.specs.declared.Verdict.{Verdict}
use Rattle.block_reader.specs.declared.Verdict.TheVariants.{Clean, Mended, Repeat, WrongLength}
use Rattle.block_reader.specs.Judging.{mendable, verdict, told, judged, left_by, left, handed_by, handed, bit_named}
use Rattle.block_reader.specs.Claims.{Right}
use Rattle.block_reader.proofs.Verdicts.{is_right, once_whole}

-- ---- two verdicts that tell the same are the same: only one answer fits the promise

by_bit : List ℕ → Verdict
by_bit [] = Clean
by_bit (k ∷ ks) = Mended k

retold : Told → Verdict
retold t = cond (eqb t.number 3) Repeat (cond (eqb t.number 1) WrongLength (by_bit t.named))

retold_told : (v : Verdict) → retold (told v) ≡ v
unfolding retold by_bit
retold_told Clean = refl
retold_told (Mended k) = refl
retold_told Repeat = refl
retold_told WrongLength = refl

pub told_one : (v w : Verdict) → told v ≡ told w → v ≡ w
told_one v w e = sym (retold_told v) ∙ ap retold e ∙ retold_told w

pub told_verdict : (B : List ℕ) (v : Verdict) → told v ≡ judged B → v ≡ verdict B
unfolding judged
told_verdict B v e = told_one v (verdict B) e

-- ---- the bit that is named: the one mended, or 255

pub bit_mended : (B : List ℕ) (k : ℕ) → verdict B ≡ Mended k → bit_named (judged B) ≡ k
unfolding judged
bit_mended B k e = ap (λ (v : Verdict). bit_named (told v)) e

pub bit_none : (B : List ℕ) → ((k : ℕ) → verdict B ≡ Mended k → ⊥) → bit_named (judged B) ≡ 255
unfolding judged
bit_none B ne = by (verdict B) refl
  where
    by : (v : Verdict) → verdict B ≡ v → bit_named (told v) ≡ 255
    by Clean e = refl
    by (Mended k) e = absurd (ne k e)
    by Repeat e = refl
    by WrongLength e = refl

-- ---- what is handed back

-- the part of the block left
pub handed_as : (B C : List ℕ) (v : Verdict) → told v ≡ judged B → C ≡ left B → handed_by v C ≡ handed B
unfolding handed
handed_as B C v e f = ap₂ handed_by (told_verdict B v e) f

pub clean_long : (B : List ℕ) → told Clean ≡ judged B → length B ≡ 17
clean_long B e = valid_length B (subst⁻¹ (Right B) (told_verdict B Clean e) (is_right B))

pub mended_long : (B : List ℕ) (k : ℕ) → told (Mended k) ≡ judged B → length B ≡ 17
mended_long B k e = flipped_length k B (subst⁻¹ (Right B) (told_verdict B (Mended k) e) (is_right B)).1

-- a refusal leaves the block as it came and hands back nothing
pub refused_whole : (B : List ℕ) → ((judged B).number ≡ 0 → ⊥) → (left B ≡ B) × (handed B ≡ [])
unfolding judged left handed
refused_whole B ne = by (verdict B) refl
  where
    by : (v : Verdict) → verdict B ≡ v → (left_by (verdict B) B ≡ B) × (handed_by (verdict B) (left_by (verdict B) B) ≡ [])
    by Clean e = absurd (ne (ap (λ (v : Verdict). (told v).number) e))
    by (Mended k) e = absurd (ne (ap (λ (v : Verdict). (told v).number) e))
    by Repeat e = (
      ap (λ (v : Verdict). left_by v B) e,
      ap (λ (v : Verdict). handed_by v (left_by v B)) e,
    )
    by WrongLength e = (
      ap (λ (v : Verdict). left_by v B) e,
      ap (λ (v : Verdict). handed_by v (left_by v B)) e,
    )

-- what is taken hands back the first fifteen bytes of the block left
handed_by_lem : (v : Verdict) (C : List ℕ) → (told v).number ≡ 0 → handed_by v C ≡ take 15 C
handed_by_lem Clean C z = refl
handed_by_lem (Mended k) C z = refl
handed_by_lem Repeat C z = absurd (omega (arith, z))
handed_by_lem WrongLength C z = absurd (omega (arith, z))

pub handed_first : (B : List ℕ) → (judged B).number ≡ 0 → handed B ≡ take 15 (left B)
unfolding judged left handed
handed_first B z = handed_by_lem (verdict B) (left_by (verdict B) B) z

-- so a valid block hit once among the mendable bits comes back whole to the caller too
pub once_handed : (W : List ℕ) (k : ℕ) → Valid W → k < mendable → handed (flip k W) ≡ take 15 W
unfolding judged
once_handed W k v h =
    let o = once_whole W k v h in
    handed_first (flip k W) (ap (λ (w : Verdict). (told w).number) o.0) ∙ ap (take 15) o.1
