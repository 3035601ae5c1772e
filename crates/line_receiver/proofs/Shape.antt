-- What one byte can do to a receiver in range, as five shapes: the laws of runs go by these. Assumes nothing.
use mathlib.Core.Path.{◌≡◌, refl, sym, ap, ◌∙◌, subst, subst⁻¹}
use mathlib.Core.Bool.{Bool, true, false, cond}
use mathlib.Core.List.{List, ◌++◌, ◌∷◌, []}
use Prim.Native.Nat.{ℕ, ◌<◌}
use native.Mathlib.Omega.{arith}
use lib.ListN.{length, take, length-set}
use lib.Seq.{take_all}
use Rattle.std.proofs.lemmas.List.{take_more_set}
use Rattle.laws.proofs.Computed.{holds, fails}
use Rattle.block_maker.specs.Making.{values_of}
use Rattle.block_reader.specs.declared.Verdict.{Verdict}
use Rattle.block_reader.specs.declared.Verdict.TheVariants.{Clean, Mended, Repeat, WrongLength}
use Rattle.block_reader.specs.Judging.{verdict, left}
use Rattle.block_reader.specs.Claims.{Right, NoneNear, OnlyNear}
use Rattle.block_reader.proofs.Verdicts.{is_right, handed_on, asked_when_none}
use Rattle.line_codes.specs.Codes.{plainly, listened}
use Rattle.line_phases.specs.Phases.{awaits_more}
use Rattle.line_phases.proofs.Seventeenth.{not_yet, the_last}
use Rattle.line_phases.specs.declared.Phase.{Phase}
use Rattle.line_phases.specs.declared.Phase.TheVariants.{Off, Collecting, Waiting}
use Rattle.line_receiver.specs.declared.Receiver.{Receiver}
use Rattle.line_receiver.specs.declared.Stepped.{Stepped}
use Rattle.line_receiver.specs.States.{InReceiver}
use Rattle.line_receiver.specs.Calls.{silent, passing, holding, whole, accepted, repeated, accepts, judged_as}
use Rattle.line_receiver.specs.Calls.{judged_held, collecting, listening, by_phase, stepped}
use Rattle.line_receiver.proofs.Ranges.{count_in}
use Rattle.line_receiver.proofs.Cases.{step_in}

-- the seventeen bytes: those held, and the last
abbrev pub arrived : Receiver → ℕ → List ℕ
arrived r b = take 16 r.held ++ (b ∷ [])

pub data Shape (r : Receiver) (b : ℕ) : Stepped → Type 0 where
  plain : r.phase ≡ Off → Shape r b (passing r (plainly b))
  more : r.phase ≡ Collecting → r.count < 16 → Shape r b (silent (holding r b))
  took : r.phase ≡ Collecting → r.count ≡ 16 → (C : List ℕ) → OnlyNear (arrived r b) C
      → Shape r b (accepted r.number (values_of C) (verdict (arrived r b)))
  none : r.phase ≡ Collecting → r.count ≡ 16 → NoneNear (arrived r b) → Shape r b (repeated r.number Repeat)
  listens : (n : ℕ) → r.phase ≡ Waiting n → Shape r b (silent (listening (listened r.number n b) r))

-- ---- what is held with one byte more

pub whole_is : (r : Receiver) (b : ℕ) → length r.held ≡ 17 → whole r b ≡ arrived r b
whole_is r b e =
    let k : length (whole r b) ≡ 17 = length-set r.held 16 b ∙ e in
    sym (take_all 17 (whole r b) (omega arith)) ∙ take_more_set r.held 16 b (omega arith)

-- ---- the shapes

module _ (r : Receiver) (b : ℕ) (g : InReceiver r) where
  B : List ℕ
  B = arrived r b

  B-is : whole r b ≡ B
  unfolding B
  B-is = whole_is r b g.array

  B-long : length B ≡ 17
  B-long = ap length (sym B-is) ∙ length-set r.held 16 b ∙ g.array

  -- what is not accepted is a repeat: there are seventeen bytes
  refusal : (w : Verdict) → verdict B ≡ w → accepts w ≡ false → w ≡ Repeat
  refusal Clean e a = absurd (fails a tt)
  refusal (Mended k) e a = absurd (fails a tt)
  refusal Repeat e a = refl
  refusal WrongLength e a = absurd (subst (Right B) e (is_right B) B-long)

  at_last : r.phase ≡ Collecting → r.count ≡ 16 → Shape r b (judged_held r b)
  unfolding B
  at_last f k =
      subst⁻¹ (λ (A : List ℕ). Shape r b (judged_as (verdict A) r.number (values_of (left A)))) B-is
      (go (accepts (verdict B)) refl)
    where
      go : (t : Bool) → accepts (verdict B) ≡ t
          → Shape r b
          (cond t (accepted r.number (values_of (left B)) (verdict B)) (repeated r.number (verdict B)))
      go true e = took f k (left B) (handed_on B B-long (λ q. fails (ap accepts q) (holds e)))
      go false e =
          let z : verdict B ≡ Repeat = refusal (verdict B) refl e in
          subst⁻¹ (λ (w : Verdict). Shape r b (repeated r.number w)) z (none f k ((asked_when_none B B-long).0 z))

  at_collecting : r.phase ≡ Collecting → Shape r b (collecting r b)
  at_collecting f = go (awaits_more r.count) refl
    where
      go : (t : Bool) → awaits_more r.count ≡ t → Shape r b (cond t (silent (holding r b)) (judged_held r b))
      go true e = more f (not_yet r.count e)
      go false e = at_last f (the_last r.count (count_in r g.range) e)

  by_phase_lem : (p : Phase) → r.phase ≡ p → Shape r b (by_phase p r b)
  by_phase_lem Off f = plain f
  by_phase_lem Collecting f = at_collecting f
  by_phase_lem (Waiting n) f = listens n f

  pub shape : Shape r b (stepped r b)
  shape = subst (Shape r b) (step_in r r.phase g.range refl b) (by_phase_lem r.phase refl)
