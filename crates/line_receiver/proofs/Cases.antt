-- The definitions of specs/Calls by cases, as the code meets them. Assumes nothing.
use mathlib.Core.Path.{◌≡◌, sym, ap, ap₂, ◌∙◌}
use mathlib.Core.Bool.{Bool, true, false, cond}
use mathlib.Core.List.{List, ◌++◌, append-nil}
use Prim.Native.Nat.{ℕ, ◌-◌}
use native.Mathlib.Omega.{arith}
use lib.ListN.{length, replicate, take}
use lib.Seq.{take_all}
use Rattle.std.specs.Prelude.{Some}
use Rattle.few.specs.Bytes.{few}
use Rattle.few.specs.declared.Few.{Few}
use Rattle.block_maker.specs.Making.{values_of}
use Rattle.block_reader.specs.declared.Verdict.{Verdict}
use Rattle.block_reader.specs.Judging.{left, told, judged}
use Rattle.block_reader.proofs.Handed.{told_verdict}
use Rattle.line_codes.specs.Codes.{next}
use Rattle.line_phases.specs.declared.Phase.{Phase}
use Rattle.line_phases.specs.declared.Phase.TheVariants.{Collecting}
use Rattle.line_receiver.specs.declared.Receiver.{Receiver}
use Rattle.line_receiver.specs.declared.Stepped.{Stepped}
use Rattle.line_receiver.specs.States.{in_range, emptied}
use Rattle.line_receiver.specs.Calls.{silent, refused, accepted, repeated, accepts, judged_as, whole}
use Rattle.line_receiver.specs.Calls.{judged_held, by_phase, stepped, again_by, asked_again}

-- an array of n values is full
pub full : (n : ℕ) (vs : List ℕ) → length vs ≡ n → vs ≡ (few n vs).codes
full n vs l =
    let z : n - length vs ≡ 0 = omega arith in
    sym (append-nil vs) ∙ ap (λ (k : ℕ). vs ++ replicate k 0) (sym z)

-- silent but for values that pass, and a verdict
abbrev handing : Stepped → Few 15 → Verdict → Stepped
handing s values v =
    record { next = s.next; answer = s.answer; values = values; request = s.request; judged = Some v }

-- the verdict v, and the block C that is left
module _ (r : Receiver) (b : ℕ) (v : Verdict) (C : List ℕ)
    (m : (told v ≡ judged (whole r b)) × (C ≡ left (whole r b))) where
  as_judged : {t : Bool} → accepts v ≡ t
      → cond t (accepted r.number (values_of C) v) (repeated r.number v) ≡ judged_held r b
  as_judged e =
      ap (λ (t : Bool). cond t (accepted r.number (values_of C) v) (repeated r.number v)) (sym e)
      ∙ ap₂ (λ (w : Verdict) (B : List ℕ). judged_as w r.number (values_of B)) (told_verdict (whole r b) v m.0)
      m.1

  pub passed_on : accepts v ≡ true → (s : Stepped) → s ≡ silent (emptied (next r.number) Collecting) → {f : Few 15}
      → {vs : List ℕ} → f ≡ few 15 (take 15 vs) → vs ≡ values_of C → length vs ≡ 15 → handing s f v ≡ judged_held r b
  passed_on e s q {f} {vs} p h l =
      ap₂ (λ (s : Stepped) (f : Few 15). handing s f v) q p
      ∙ ap (λ (us : List ℕ). accepted r.number us v) (take_all 15 vs (omega arith) ∙ h)
      ∙ as_judged e

  pub asked_for : accepts v ≡ false → (s : Stepped) → s ≡ repeated r.number v → s ≡ judged_held r b
  asked_for e s f = f ∙ as_judged e

module _ (r : Receiver) (p : Phase) (e : in_range r ≡ true) (f : r.phase ≡ p) where
  pub step_in : (b : ℕ) → by_phase p r b ≡ stepped r b
  step_in b = ap₂ (λ (t : Bool) (q : Phase). cond t (by_phase q r b) (refused r)) (sym e) (sym f)

  pub again_in : again_by p r ≡ asked_again r
  again_in = ap₂ (λ (t : Bool) (q : Phase). cond t (again_by q r) (refused r)) (sym e) (sym f)
