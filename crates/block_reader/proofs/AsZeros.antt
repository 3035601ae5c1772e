-- A valid block hit at any bits is judged as seventeen zeros hit at the same bits are. Assumes nothing.
use mathlib.Core.Path.{◌≡◌, sym, ◌∙◌, subst, subst⁻¹}
use mathlib.Core.List.{List, []}
use mathlib.Core.Logic.{◌↔◌}
use Prim.Native.Nat.{ℕ}
use lib.Dec.{T}
use lib.ListN.{replicate}
use Rattle.laws.proofs.Sums.{Sum, sum_one, sum_length, sum_nothing}
use Rattle.block_validity.specs.Block.{valid, Valid}
use Rattle.block_validity.specs.Changed.{flip, hits, Near, same, changed}
use Rattle.block_validity.proofs.Validity.{valid_length}
use Rattle.block_validity.proofs.Alike.{flip_alike, valid_alike, hits_sum}
use Rattle.block_reader.specs.declared.Verdict.{Verdict}
use Rattle.block_reader.specs.declared.Verdict.TheVariants.{Clean, Mended, Repeat, WrongLength}
use Rattle.block_reader.specs.Judging.{mendable, verdict, left_by, left}
use Rattle.block_reader.specs.Claims.{NoneNear, Right}
use Rattle.block_reader.proofs.Verdicts.{is_right, right_is}

-- what is added to a valid block, and the sum
module _ {W B C : List ℕ} (v : Valid W) (s : Sum W B C) where
  -- what is right of the one is right of the other
  valid_too : Valid B → Valid C
  valid_too p = subst⁻¹ T (valid_alike s v) p

  flipped_too : (k : ℕ) → valid (flip k C) ≡ valid (flip k B)
  flipped_too k = valid_alike (flip_alike s k) v

  none_too : NoneNear B → {D : List ℕ} → Near mendable C D → Valid D → ⊥
  none_too f same w = f B same (subst T (valid_alike s v) w)
  none_too f (changed k h) w = f (flip k B) (changed k h) (subst T (flipped_too k) w)

  right_alike : (w : Verdict) → Right B w → Right C w
  right_alike Clean p = valid_too p
  right_alike (Mended k) p = (p.0, subst⁻¹ T (flipped_too k) p.1)
  right_alike Repeat p = (sum_length s ∙ p.0, λ D n w. none_too p.1 n w)
  right_alike WrongLength p = λ l. p (sym (sum_length s) ∙ l)

  verdict_alike : verdict C ≡ verdict B
  verdict_alike = right_is C (verdict B) (right_alike (verdict B) (is_right B))

  left_alike : (w : Verdict) → Sum W (left_by w B) (left_by w C)
  left_alike Clean = s
  left_alike (Mended k) = flip_alike s k
  left_alike Repeat = s
  left_alike WrongLength = s

module _ (W ks : List ℕ) (v : Valid W) where
  s : Sum W (hits ks (replicate 17 0)) (hits ks W)
  s = hits_sum ks W (valid_length W v)

  pub same_verdict : verdict (hits ks W) ≡ verdict (hits ks (replicate 17 0))
  same_verdict = verdict_alike v s

  -- and both come back whole, or neither does
  pub same_return : left (hits ks W) ≡ W ↔ left (hits ks (replicate 17 0)) ≡ replicate 17 0
  unfolding left hits
  same_return = (
    λ e. subst (λ (n : ℕ). left (hits ks (replicate 17 0)) ≡ replicate n 0) (valid_length W v) (sum_nothing t e),
    λ e. sum_one (subst (λ (l : List ℕ). Sum W l (left (hits ks W))) e t) (hits_sum [] W (valid_length W v)),
  )
    where
      t : Sum W (left (hits ks (replicate 17 0))) (left (hits ks W))
      t =
          subst (λ (w : Verdict). Sum W (left (hits ks (replicate 17 0))) (left_by w (hits ks W))) (sym same_verdict)
          (left_alike v s (verdict (hits ks (replicate 17 0))))
