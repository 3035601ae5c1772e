-- The places past the bytes held never matter. Assumes nothing.
use mathlib.Core.Path.{◌≡◌, refl, sym, ap, ◌∙◌, subst, subst⁻¹}
use mathlib.Core.Bool.{Bool, true, false, cond}
use mathlib.Core.List.{List, [], ◌∷◌, ◌++◌}
use Prim.Native.Nat.{ℕ, ◌<◌}
use native.Mathlib.Omega.{arith}
use lib.ListN.{take, length-set}
use Rattle.std.specs.Prelude.{Option, Some, None, Result, Ok, Err}
use Rattle.std.proofs.lemmas.List.{take_more_set}
use Rattle.block_maker.specs.Making.{values_of}
use Rattle.block_reader.specs.declared.Verdict.{Verdict}
use Rattle.block_reader.specs.Judging.{verdict, left}
use Rattle.line_codes.specs.declared.Listened.{Listened}
use Rattle.line_codes.specs.declared.Listened.TheVariants.{Seen, Resumed}
use Rattle.line_codes.specs.Codes.{plainly, request, listened}
use Rattle.line_phases.specs.Phases.{awaits_more}
use Rattle.line_phases.proofs.Seventeenth.{not_yet, the_last}
use Rattle.line_phases.specs.declared.Phase.{Phase}
use Rattle.line_phases.specs.declared.Phase.TheVariants.{Off, Collecting, Waiting}
use Rattle.line_receiver.specs.declared.Receiver.{Receiver}
use Rattle.line_receiver.specs.declared.Broken.{Broken}
use Rattle.line_receiver.specs.declared.Stepped.{Stepped}
use Rattle.line_receiver.specs.States.{in_range, emptied}
use Rattle.line_receiver.specs.Calls.{giving, silent, refused, holding, whole, accepted, repeated, accepts}
use Rattle.line_receiver.specs.Calls.{judged_as, judged_held, collecting, waiting, listening, by_phase, again_by}
use Rattle.line_receiver.specs.Runs.{Event, byte, on, off, ask, obey, run}
use Rattle.line_receiver.specs.Alike.{Alike, AlikeSteps}
use Rattle.line_receiver.proofs.Ranges.{count_in}
use Rattle.line_receiver.proofs.Shape.{whole_is}

-- ---- what does not look at the array

emptied_alike : (x : ℕ) (p : Phase) → Alike (emptied x p) (emptied x p)
emptied_alike x p = record { arrays = (refl, refl); count = refl; held = refl; number = refl; phase = refl }

giving_alike : (n : Result (Unit {0}) Broken) {r q : Receiver} (vs qs : List ℕ) (j : Option Verdict) → Alike r q
    → AlikeSteps (giving n r vs qs j) (giving n q vs qs j)
giving_alike n vs qs j a =
    record { next = a; answer = refl; values = refl; request = refl; judged = refl }

judged_alike : (v : Verdict) (x : ℕ) (vs : List ℕ) → AlikeSteps (judged_as v x vs) (judged_as v x vs)
judged_alike v x vs = go (accepts v)
  where
    go : (t : Bool) → AlikeSteps (cond t (accepted x vs v) (repeated x v)) (cond t (accepted x vs v) (repeated x v))
    go true = giving_alike (Ok tt) vs [] (Some v) (emptied_alike _ Collecting)
    go false = giving_alike (Ok tt) [] (request x) (Some v) (emptied_alike x (Waiting 0))

-- ---- the same state with another array

abbrev with_held : Receiver → List ℕ → Receiver
with_held r l = record { held = l; count = r.count; number = r.number; phase = r.phase }

module _ (r : Receiver) (l : List ℕ) (a : Alike r (with_held r l)) where
  abbrev q : Receiver
  q = with_held r l

  holding_alike : (b : ℕ) → r.count < 16 → Alike (holding r b) (holding q b)
  holding_alike b h =
      record {
        arrays = (length-set r.held r.count b ∙ a.arrays.0, length-set l r.count b ∙ a.arrays.1);
        count = refl;
        held =
            take_more_set r.held r.count b (omega (arith, h, a.arrays.0))
            ∙ ap (λ (k : List ℕ). k ++ (b ∷ [])) a.held
            ∙ sym (take_more_set l r.count b (omega (arith, h, a.arrays.1)));
        number = refl;
        phase = refl;
      }

  same_whole : (b : ℕ) → r.count ≡ 16 → whole r b ≡ whole q b
  same_whole b k =
      whole_is r b a.arrays.0
      ∙ ap (λ (h : List ℕ). h ++ (b ∷ []))
      (ap (λ (n : ℕ). take n r.held) (sym k) ∙ a.held ∙ ap (λ (n : ℕ). take n l) k)
      ∙ sym (whole_is q b a.arrays.1)

  collecting_alike : (b : ℕ) → r.count < 17 → AlikeSteps (collecting r b) (collecting q b)
  collecting_alike b h = go (awaits_more r.count) refl
    where
      go : (t : Bool) → awaits_more r.count ≡ t
          → AlikeSteps (cond t (silent (holding r b)) (judged_held r b))
          (cond t (silent (holding q b)) (judged_held q b))
      go true e = giving_alike (Ok tt) [] [] None (holding_alike b (not_yet r.count e))
      go false e =
          subst (λ (B : List ℕ). AlikeSteps (judged_held r b) (judged_as (verdict B) r.number (values_of (left B))))
          (same_whole b (the_last r.count h e))
          (judged_alike (verdict (whole r b)) r.number (values_of (left (whole r b))))

  waiting_alike : (n : ℕ) → Alike (waiting r n) (waiting q n)
  waiting_alike n = record { arrays = a.arrays; count = refl; held = a.held; number = refl; phase = refl }

  listening_alike : (h : Listened) → Alike (listening h r) (listening h q)
  listening_alike (Seen n) = waiting_alike n
  listening_alike Resumed = emptied_alike r.number Collecting

  byte_alike : (b : ℕ) (p : Phase) → r.count < 17 → AlikeSteps (by_phase p r b) (by_phase p q b)
  byte_alike b Off h = giving_alike (Ok tt) (plainly b ∷ []) [] None a
  byte_alike b Collecting h = collecting_alike b h
  byte_alike b (Waiting n) h = giving_alike (Ok tt) [] [] None (listening_alike (listened r.number n b))

  again_alike : (p : Phase) → AlikeSteps (again_by p r) (again_by p q)
  again_alike Off = giving_alike (Ok tt) [] [] None a
  again_alike Collecting = giving_alike (Ok tt) [] [] None a
  again_alike (Waiting n) = giving_alike (Ok tt) [] (request r.number) None a

  -- both are in range, or neither is
  either : (S U : Stepped) → (in_range r ≡ true → AlikeSteps S U)
      → AlikeSteps (cond (in_range r) S (refused r)) (cond (in_range r) U (refused q))
  either S U f = go (in_range r) refl
    where
      go : (t : Bool) → in_range r ≡ t → AlikeSteps (cond t S (refused r)) (cond t U (refused q))
      go true e = f e
      go false e = giving_alike (Err (record {})) [] [] None a

  with_alike : (e : Event) → AlikeSteps (obey e r) (obey e q)
  with_alike (byte b) =
      either (by_phase r.phase r b) (by_phase r.phase q b) (λ e. byte_alike b r.phase (count_in r e))
  with_alike on = either _ _ (λ e. giving_alike (Ok tt) [] [] None (emptied_alike 0 Collecting))
  with_alike off = either _ _ (λ e. giving_alike (Ok tt) [] [] None (emptied_alike 0 Off))
  with_alike ask = either (again_by r.phase r) (again_by r.phase q) (λ e. again_alike r.phase)

-- ---- any two states

is_with : {r q : Receiver} → Alike r q → with_held r q.held ≡ q
is_with {r} {q} a =
    ap (λ (n : ℕ). with_held (record { held = r.held; count = n; number = r.number; phase = r.phase }) q.held)
    a.count
    ∙ ap (λ (n : ℕ). with_held (record { held = r.held; count = q.count; number = n; phase = r.phase }) q.held)
    a.number
    ∙ ap
    (λ (p : Phase). with_held (record { held = r.held; count = q.count; number = q.number; phase = p }) q.held)
    a.phase

pub same_calls : (e : Event) (r q : Receiver) → Alike r q → AlikeSteps (obey e r) (obey e q)
same_calls e r q a =
    subst (λ (p : Receiver). AlikeSteps (obey e r) (obey e p)) (is_with a)
    (with_alike r q.held (subst⁻¹ (Alike r) (is_with a) a) e)

pub same_runs : (es : List Event) (r q : Receiver) → Alike r q → Alike (run r es) (run q es)
same_runs [] r q a = a
same_runs (e ∷ es) r q a = same_runs es (obey e r).next (obey e q).next (same_calls e r q a).next
