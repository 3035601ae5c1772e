-- What the judge hands back, by the arm of its verdict, for what `mend` tells and leaves. Assumes nothing.
use mathlib.Core.Path.{◌≡◌, ap, sym, ◌∙◌}
use mathlib.Core.List.{List, []}
use mathlib.Core.Logic.{◌⊎◌, ⊎_elim}
use Prim.Native.Nat.{ℕ}
use lib.ListN.{length, take}
use Rattle.block_reader.specs.declared.Verdict.{Verdict}
use Rattle.block_reader.specs.declared.Verdict.TheVariants.{Clean, Mended, Repeat, WrongLength}
use Rattle.block_reader.specs.Judging.{told, judged, left, handed_by, handed}
use Rattle.block_reader.proofs.Handed.{handed_as, clean_long, mended_long}

module _ (B : List ℕ) (v : Verdict) (s : told v ≡ judged B) where
  -- what is taken has seventeen bytes
  pub taken_long : (v ≡ Clean) ⊎ ((k : ℕ) × v ≡ Mended k) → length B ≡ 17
  taken_long =
      ⊎_elim
      (λ (e : v ≡ Clean). clean_long B (ap told (sym e) ∙ s))
      (λ (e : (k : ℕ) × v ≡ Mended k). mended_long B e.0 (ap told (sym e.1) ∙ s))

  module _ (C : List ℕ) (l : C ≡ left B) where
    pub taken_part : (v ≡ Clean) ⊎ ((k : ℕ) × v ≡ Mended k) → take 15 C ≡ handed B
    taken_part t =
        ⊎_elim
        (λ (e : v ≡ Clean). ap (λ (w : Verdict). handed_by w C) (sym e))
        (λ (e : (k : ℕ) × v ≡ Mended k). ap (λ (w : Verdict). handed_by w C) (sym e.1)) t
        ∙ handed_as B C v s l

    pub refused_part : (v ≡ Repeat) ⊎ (v ≡ WrongLength) → [] ≡ handed B
    refused_part t =
        ⊎_elim
        (λ (e : v ≡ Repeat). ap (λ (w : Verdict). handed_by w C) (sym e))
        (λ (e : v ≡ WrongLength). ap (λ (w : Verdict). handed_by w C) (sym e)) t
        ∙ handed_as B C v s l
