-- Requests name the block awaited, and asking again gives one in waiting alone. Assumes nothing.
use mathlib.Core.Path.{◌≡◌, refl, ap, ◌∙◌, subst⁻¹}
use mathlib.Core.List.{List, []}
use mathlib.Core.Logic.{◌⊎◌, inl, inr}
use Prim.Native.Nat.{ℕ, ◌%◌, ◌≤◌}
use native.Mathlib.Omega.{arith}
use lib.ListN.{length, take, length-map}
use Rattle.laws.proofs.Computed.{chosen}
use Rattle.block_maker.specs.Making.{values_of}
use Rattle.block_reader.specs.declared.Verdict.{Verdict}
use Rattle.block_reader.specs.Judging.{verdict, left}
use Rattle.line_codes.specs.Codes.{request}
use Rattle.line_phases.specs.Phases.{awaits_more}
use Rattle.line_phases.specs.declared.Phase.{Phase}
use Rattle.line_phases.specs.declared.Phase.TheVariants.{Off, Collecting, Waiting}
use Rattle.line_receiver.specs.declared.Receiver.{Receiver}
use Rattle.line_receiver.specs.declared.Stepped.{Stepped}
use Rattle.line_receiver.specs.States.{in_range, InReceiver}
use Rattle.line_receiver.specs.Calls.{whole, accepts, judged_as, by_phase, stepped, again_by, asked_again}
use Rattle.line_receiver.specs.Runs.{Event, byte, on, off, ask, obey, sent_by}
use Rattle.line_receiver.specs.Standing.{asked_in, IsWaiting}
use Rattle.line_receiver.proofs.Fifteens.{take_short}
use Rattle.line_receiver.proofs.Shape.{Shape, plain, more, took, none, listens, shape}
use Rattle.line_receiver.proofs.Kept.{on_afresh, off_afresh, again_as}

-- nothing is asked; or the block awaited is, its number stays, and the receiver waits
abbrev pub Asked : Receiver → Stepped → Type 0
Asked r s =
    ((sent_by s).asked ≡ [])
    ⊎ (((sent_by s).asked ≡ request r.number) × (s.next.number ≡ r.number) × IsWaiting s.next)

byte_asked : (r : Receiver) (b : ℕ) {s : Stepped} → Shape r b s → Asked r s
byte_asked r b (plain f) = inl refl
byte_asked r b (more f k) = inl refl
byte_asked r b (took f k C o) = inl refl
byte_asked r b (none f k o) = inr (refl, refl, (0, refl))
byte_asked r b (listens n f) = inl refl

again_asked : (r : Receiver) (p : Phase) → r.phase ≡ p → Asked r (again_by p r)
again_asked r Off f = inl refl
again_asked r Collecting f = inl refl
again_asked r (Waiting n) f = inr (refl, refl, (n, f))

pub requests : (e : Event) (r : Receiver) → InReceiver r → Asked r (obey e r)
requests (byte b) r g = byte_asked r b (shape r b g)
requests on r g = subst⁻¹ (Asked r) (on_afresh r g) (inl refl)
requests off r g = subst⁻¹ (Asked r) (off_afresh r g) (inl refl)
requests ask r g = subst⁻¹ (Asked r) (again_as r g) (again_asked r r.phase refl)

again_sends : (p : Phase) (r : Receiver) → sent_by (again_by p r) ≡ asked_in p r.number
again_sends Off r = refl
again_sends Collecting r = refl
again_sends (Waiting n) r = refl

pub again_gives : (r : Receiver) → InReceiver r → sent_by (asked_again r) ≡ asked_in r.phase r.number
again_gives r g = ap sent_by (again_as r g) ∙ again_sends r.phase r

-- ---- whatever the state

-- none or two bytes are asked, and so many are there
abbrev pub Counted : Stepped → Type 0
Counted s = (s.request.count ≤ 2) × (length (sent_by s).asked ≡ s.request.count)

judged_counted : (v : Verdict) (x : ℕ) (vs : List ℕ) → Counted (judged_as v x vs)
judged_counted v x vs = chosen Counted (accepts v) (λ a. (omega arith, refl)) (λ a. (omega arith, refl))

phase_counted : (p : Phase) (r : Receiver) (b : ℕ) → Counted (by_phase p r b)
phase_counted Off r b = (omega arith, refl)
phase_counted Collecting r b =
    chosen Counted (awaits_more r.count) (λ h. (omega arith, refl))
    (λ h. judged_counted (verdict (whole r b)) r.number (values_of (left (whole r b))))
phase_counted (Waiting n) r b = (omega arith, refl)

pub asked_counted : (r : Receiver) (b : ℕ) → Counted (stepped r b)
asked_counted r b =
    chosen Counted (in_range r) (λ i. phase_counted r.phase r b) (λ i. (omega arith, refl))

-- at most fifteen values pass

pub fifteen : (B : List ℕ) → length (values_of B) ≤ 15
fifteen B = let m = length-map (take 15 B) (λ (b : ℕ). b % 128) in omega (arith, m, take_short 15 B)

abbrev Few : Stepped → Type 0
Few s = s.values.count ≤ 15

phase_few : (p : Phase) (r : Receiver) (b : ℕ) → Few (by_phase p r b)
phase_few Off r b = omega arith
phase_few Collecting r b =
    chosen Few (awaits_more r.count) (λ h. omega arith)
    (λ h. chosen Few (accepts (verdict (whole r b))) (λ a. fifteen (left (whole r b))) (λ a. omega arith))
phase_few (Waiting n) r b = omega arith

pub passed_few : (r : Receiver) (b : ℕ) → (stepped r b).values.count ≤ 15
passed_few r b = chosen Few (in_range r) (λ i. phase_few r.phase r b) (λ i. omega arith)
