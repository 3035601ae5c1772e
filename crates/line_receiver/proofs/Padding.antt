-- Whatever the state and the call, the places past each count are 0. Assumes nothing.
use mathlib.Core.Path.{◌≡◌, refl}
use mathlib.Core.List.{List, [], ◌∷◌}
use Prim.Native.Nat.{ℕ, ◌-◌}
use lib.ListN.{length, drop, replicate}
use lib.Seq.{drop_at}
use Rattle.std.specs.Prelude.{Option, Some, None, Result, Ok, Err}
use Rattle.laws.proofs.Computed.{chosen}
use Rattle.block_maker.specs.Making.{values_of}
use Rattle.block_reader.specs.declared.Verdict.{Verdict}
use Rattle.block_reader.specs.Judging.{verdict, left}
use Rattle.line_codes.specs.Codes.{plainly, next, request, listened}
use Rattle.line_phases.specs.Phases.{awaits_more}
use Rattle.line_phases.specs.declared.Phase.{Phase}
use Rattle.line_phases.specs.declared.Phase.TheVariants.{Off, Collecting, Waiting}
use Rattle.line_receiver.specs.declared.Receiver.{Receiver}
use Rattle.line_receiver.specs.declared.Broken.{Broken}
use Rattle.line_receiver.specs.declared.Stepped.{Stepped}
use Rattle.line_receiver.specs.States.{in_range, emptied}
use Rattle.line_receiver.specs.Calls.{giving, refused, holding, whole, accepts, judged_as, listening}
use Rattle.line_receiver.specs.Calls.{by_phase, again_by}
use Rattle.line_receiver.specs.Runs.{Event, byte, on, off, ask, obey}

abbrev pub Cleared : Stepped → Type 0
Cleared s =
    (drop s.values.count s.values.codes ≡ replicate (15 - s.values.count) 0)
    × (drop s.request.count s.request.codes ≡ replicate (2 - s.request.count) 0)

given : (a : Result (Unit {0}) Broken) (r : Receiver) (vs qs : List ℕ) (j : Option Verdict) → Cleared (giving a r vs qs j)
given a r vs qs j = (
  drop_at vs (replicate (15 - length vs) 0) (length vs) refl,
  drop_at qs (replicate (2 - length qs) 0) (length qs) refl,
)

judged_given : (v : Verdict) (x : ℕ) (vs : List ℕ) → Cleared (judged_as v x vs)
judged_given v x vs =
    chosen Cleared (accepts v) (λ a. given (Ok tt) (emptied (next x) Collecting) vs [] (Some v))
    (λ a. given (Ok tt) (emptied x (Waiting 0)) [] (request x) (Some v))

phase_given : (p : Phase) (r : Receiver) (b : ℕ) → Cleared (by_phase p r b)
phase_given Off r b = given (Ok tt) r (plainly b ∷ []) [] None
phase_given Collecting r b =
    chosen Cleared (awaits_more r.count) (λ h. given (Ok tt) (holding r b) [] [] None)
    (λ h. judged_given (verdict (whole r b)) r.number (values_of (left (whole r b))))
phase_given (Waiting n) r b = given (Ok tt) (listening (listened r.number n b) r) [] [] None

again_given : (p : Phase) (r : Receiver) → Cleared (again_by p r)
again_given Off r = given (Ok tt) r [] [] None
again_given Collecting r = given (Ok tt) r [] [] None
again_given (Waiting n) r = given (Ok tt) r [] (request r.number) None

pub cleared : (e : Event) (r : Receiver) → Cleared (obey e r)
cleared e r = by e
  where
    handed : Cleared (refused r)
    handed = given (Err (record {})) r [] [] None

    by : (e : Event) → Cleared (obey e r)
    by (byte b) = chosen Cleared (in_range r) (λ i. phase_given r.phase r b) (λ i. handed)
    by on = chosen Cleared (in_range r) (λ i. given (Ok tt) (emptied 0 Collecting) [] [] None) (λ i. handed)
    by off = chosen Cleared (in_range r) (λ i. given (Ok tt) (emptied 0 Off) [] [] None) (λ i. handed)
    by ask = chosen Cleared (in_range r) (λ i. again_given r.phase r) (λ i. handed)
