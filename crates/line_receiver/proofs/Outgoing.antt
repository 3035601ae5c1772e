-- What goes out at a call, in the terms of the page, and that no value passed on is above 127. Assumes nothing.
use mathlib.Core.Path.{◌≡◌, refl, ap, ◌∙◌, subst⁻¹}
use mathlib.Core.Bool.{Bool, true, false, cond, not}
use mathlib.Core.List.{List, [], ◌∷◌}
use Prim.Native.Nat.{ℕ, zero, suc, ◌-◌, ◌<◌}
use native.Mathlib.Omega.{arith}
use lib.ListN.{length, replicate}
use lib.Seq.{take_at}
use Rattle.std.specs.Prelude.{Some, Ok}
use Rattle.laws.proofs.Computed.{chosen}
use Rattle.numbers.specs.Numbers.{number_of}
use Rattle.values.specs.Large.{Values}
use Rattle.block_validity.proofs.Validity.{valid_length}
use Rattle.block_maker.specs.Making.{values_of}
use Rattle.block_maker.proofs.Blocks.{values_length, values_low}
use Rattle.block_reader.specs.declared.Verdict.{Verdict}
use Rattle.block_reader.specs.Judging.{verdict}
use Rattle.block_reader.specs.Claims.{OnlyNear}
use Rattle.line_codes.specs.Codes.{plainly}
use Rattle.line_codes.proofs.Removed.{plain_lt}
use Rattle.line_phases.specs.Phases.{awaits_more}
use Rattle.line_phases.specs.declared.Phase.{Phase}
use Rattle.line_phases.specs.declared.Phase.TheVariants.{Off, Collecting, Waiting}
use Rattle.line_receiver.specs.declared.Receiver.{Receiver}
use Rattle.line_receiver.specs.declared.Stepped.{Stepped}
use Rattle.line_receiver.specs.States.{in_range, InReceiver, emptied, call_conditions}
use Rattle.line_receiver.specs.Calls.{answer_number, silent, refused, whole, accepted, accepts}
use Rattle.line_receiver.specs.Calls.{by_phase, again_by}
use Rattle.line_receiver.specs.Runs.{Event, byte, on, off, ask, obey, Sent, sent_by}
use Rattle.line_receiver.specs.Page.{nothing, passes}
use Rattle.line_receiver.proofs.Shape.{Shape, plain, more, took, none, listens, shape, arrived}
use Rattle.line_receiver.proofs.Kept.{on_afresh, off_afresh, again_as}

-- ---- fifteen values

pub sent_accepted : (x : ℕ) (vs : List ℕ) (v : Verdict) → sent_by (accepted x vs v) ≡ passes vs (Some v)
sent_accepted x vs v =
    ap (λ (us : List ℕ). passes us (Some v)) (take_at vs (replicate (15 - length vs) 0) (length vs) refl)

pub near_fifteen : (B C : List ℕ) → OnlyNear B C → length (values_of C) ≡ 15
near_fifteen B C o = values_length C (valid_length C o.is_valid)

-- ---- a broken state is handed back, with its number

abbrev unbroken : Event → Receiver → Stepped
unbroken (byte b) r = by_phase r.phase r b
unbroken on r = silent (emptied 0 Collecting)
unbroken off r = silent (emptied 0 Off)
unbroken ask r = again_by r.phase r

obeys : (e : Event) (r : Receiver) → obey e r ≡ cond (in_range r) (unbroken e r) (refused r)
obeys (byte b) r = refl
obeys on r = refl
obeys off r = refl
obeys ask r = refl

pub refuses : (e : Event) (r : Receiver) → in_range r ≡ false → obey e r ≡ refused r
refuses e r f = obeys e r ∙ ap (λ (t : Bool). cond t (unbroken e r) (refused r)) f

-- that state, 5, and nothing else
pub handed_back : (e : Event) (r : Receiver) → in_range r ≡ false
    → ((obey e r).next ≡ r) × (answer_number (obey e r).answer ≡ 5) × (sent_by (obey e r) ≡ nothing)
handed_back e r f =
    let p = refuses e r f in
    (ap (λ (s : Stepped). s.next) p, ap (λ (s : Stepped). answer_number s.answer) p, ap sent_by p)

-- the call is not refused
abbrev Taken : Stepped → Type 0
Taken s = s.answer ≡ Ok tt

byte_answer : (p : Phase) (r : Receiver) (b : ℕ) → Taken (by_phase p r b)
byte_answer Off r b = refl
byte_answer Collecting r b =
    chosen Taken (awaits_more r.count) (λ h. refl) (λ h. chosen Taken (accepts (verdict (whole r b))) (λ a. refl) (λ a. refl))
byte_answer (Waiting n) r b = refl

again_answer : (p : Phase) (r : Receiver) → Taken (again_by p r)
again_answer Off r = refl
again_answer Collecting r = refl
again_answer (Waiting n) r = refl

unbroken_answer : (e : Event) (r : Receiver) → Taken (unbroken e r)
unbroken_answer (byte b) r = byte_answer r.phase r b
unbroken_answer on r = refl
unbroken_answer off r = refl
unbroken_answer ask r = again_answer r.phase r

pub answers : (e : Event) (r : Receiver) → answer_number (obey e r).answer ≡ number_of (call_conditions r)
answers e r = ap (λ (s : Stepped). answer_number s.answer) (obeys e r) ∙ go (in_range r)
  where
    go : (t : Bool) → answer_number (cond t (unbroken e r) (refused r)).answer ≡ cond (not t) 5 0
    go true = ap answer_number (unbroken_answer e r)
    go false = refl

-- ---- answers, and values

-- the answer is 0, and no value passed on is above 127
abbrev pub Fits : Stepped → Type 0
Fits s = (answer_number s.answer ≡ 0) × Values (sent_by s).passed

none_fit : Values []
none_fit i h = omega (arith, h)

one_fits : (v : ℕ) → v < 128 → Values (v ∷ [])
one_fits v h zero k = h
one_fits v h (suc i) k = omega (arith, k)

byte_fits : (r : Receiver) (b : ℕ) {s : Stepped} → Shape r b s → Fits s
byte_fits r b (plain f) = (refl, one_fits (plainly b) (plain_lt b))
byte_fits r b (more f k) = (refl, none_fit)
byte_fits r b (took f k C o) =
    let e : (sent_by (accepted r.number (values_of C) (verdict (arrived r b)))).passed ≡ values_of C =
    ap (λ (s : Sent). s.passed) (sent_accepted r.number (values_of C) (verdict (arrived r b))) in
    (refl, subst⁻¹ Values e (values_low C))
byte_fits r b (none f k o) = (refl, none_fit)
byte_fits r b (listens n f) = (refl, none_fit)

again_fits : (r : Receiver) (p : Phase) → Fits (again_by p r)
again_fits r Off = (refl, none_fit)
again_fits r Collecting = (refl, none_fit)
again_fits r (Waiting n) = (refl, none_fit)

pub fits : (e : Event) (r : Receiver) → InReceiver r → Fits (obey e r)
fits (byte b) r g = byte_fits r b (shape r b g)
fits on r g = subst⁻¹ Fits (on_afresh r g) (refl, none_fit)
fits off r g = subst⁻¹ Fits (off_afresh r g) (refl, none_fit)
fits ask r g = subst⁻¹ Fits (again_as r g) (again_fits r r.phase)
