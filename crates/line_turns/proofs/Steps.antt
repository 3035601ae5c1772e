-- A turn comes to what its bytes come to one by one. Assumes nothing.
use mathlib.Core.Path.{◌≡◌, refl, sym, ap, ◌∙◌}
use mathlib.Core.Bool.{Bool, cond, ◌&&◌}
use mathlib.Core.List.{List, [], ◌∷◌, ◌++◌, map, map-append, append-nil}
use Prim.Native.Nat.{ℕ, zero, suc, ◌+◌, ◌-◌, ◌≤◌, ◌<◌}
use native.Mathlib.Numerals.{add-one}
use native.Mathlib.Omega.{arith}
use lib.Dec.{ltb}
use lib.ListN.{length, take, get_or, replicate}
use lib.Seq.{take-suc, length-take-le}
use borrow.Author.Tests.{ltb-true, ltb-false, lt-ltb}
use Rattle.laws.proofs.Computed.{chosen}
use Rattle.line_phases.specs.Phases.{awaits_more}
use Rattle.line_phases.specs.declared.Phase.TheVariants.{Collecting}
use Rattle.line_receiver.specs.declared.Receiver.{Receiver}
use Rattle.line_receiver.specs.States.{emptied}
use Rattle.line_receiver.specs.Calls.{stepped}
use Rattle.line_receiver.specs.Runs.{byte, run, Sent, sent_by, sent, all_passed, all_asked}
use Rattle.line_receiver.specs.Page.{nothing}
use Rattle.line_receiver.proofs.Asked.{asked_counted, passed_few}
use Rattle.line_receiver.proofs.Kept.{run_append, sent_append}
use Rattle.line_receiver.proofs.Ranges.{in_range_lem}
use Rattle.line_turns.specs.declared.Turn.{Turn}
use Rattle.line_turns.specs.Notes.{note_of, notes_of}
use Rattle.line_turns.specs.Turns.{only_held, behind, one_more, still, turn_of, TakenSingly}
use Rattle.line_turns.proofs.Held.{HeldOnly, one_copy, notes_append, counted, few_there, held_all}

no_values : (k : ℕ) (os : List Sent) → all_passed (replicate k nothing ++ os) ≡ all_passed os
no_values zero os = refl
no_values (suc k) os = no_values k os

no_requests : (k : ℕ) (os : List Sent) → all_asked (replicate k nothing ++ os) ≡ all_asked os
no_requests zero os = refl
no_requests (suc k) os = no_requests k os

module _ (r : Receiver) (xs : List ℕ) (k : ℕ) (held : HeldOnly r xs k) where
  -- the byte behind k that are only held
  one : k < length xs → TakenSingly r xs (one_more r xs k)
  one l =
      let x = get_or xs k 0 in
      let q = run r (map byte (take k xs)) in
      let cut : take (k + 1) xs ≡ take k xs ++ (x ∷ []) =
      ap (λ (n : ℕ). take n xs) (add-one k) ∙ take-suc xs k 0 l in
      let events : map byte (take (k + 1) xs) ≡ map byte (take k xs) ++ (byte x ∷ []) =
      ap (map byte) cut ∙ map-append byte (take k xs) (x ∷ []) in
      let out : sent r (map byte (take (k + 1) xs)) ≡ replicate k nothing ++ (sent_by (stepped q x) ∷ []) =
      ap (sent r) events ∙ sent_append (map byte (take k xs)) (byte x ∷ []) r
      ∙ ap (λ (os : List Sent). os ++ (sent_by (stepped q x) ∷ [])) held.1 in
      record {
        some = omega arith;
        within = omega (arith, l);
        singly =
            record {
              next = sym (ap (run r) events ∙ run_append (map byte (take k xs)) (byte x ∷ []) r);
              passed =
                  sym (ap all_passed out ∙ no_values k (sent_by (stepped q x) ∷ [])
                  ∙ append-nil (sent_by (stepped q x)).passed);
              asked =
                  sym (ap all_asked out ∙ no_requests k (sent_by (stepped q x) ∷ [])
                  ∙ append-nil (sent_by (stepped q x)).asked);
              notes =
                  let n : k + 1 - 1 ≡ k = omega arith in
                  ap (λ (j : ℕ). replicate j 0 ++ (note_of q x ∷ [])) n
                  ∙ sym (ap (notes_of r) cut ∙ notes_append (take k xs) (x ∷ []) r
                  ∙ ap (λ (ns : List ℕ). ns ++ (note_of q x ∷ [])) held.2);
            };
      }

  -- k bytes, and no more are there
  none : 0 < k → k ≤ length xs → TakenSingly r xs (still (run r (map byte (take k xs))) k)
  none some l =
      let out : sent r (map byte (take k xs)) ≡ replicate k nothing ++ [] =
      held.1 ∙ sym (append-nil (replicate k nothing)) in
      record {
        some = some;
        within = l;
        singly =
            record {
              next = refl;
              passed = sym (ap all_passed out ∙ no_values k []);
              asked = sym (ap all_asked out ∙ no_requests k []);
              notes =
                  let n : k - 1 + 1 ≡ k = omega (arith, some) in
                  one_copy (k - 1) 0 ∙ ap (λ (j : ℕ). replicate j 0) (sym (add-one (k - 1)) ∙ n) ∙ sym held.2;
            };
      }

-- whatever the receiver is, broken too
pub taken_singly : (r : Receiver) (xs : List ℕ) → length r.held ≡ 17 → 0 < length xs → TakenSingly r xs (turn_of r xs)
unfolding turn_of
taken_singly r xs array some =
    let k : ℕ = only_held r xs in
    let l : k ≤ length xs = few_there r xs in
    let held : HeldOnly r xs k = held_all r xs array in
    chosen (TakenSingly r xs) (ltb k (length xs)) (λ e. one r xs k held (ltb-true k (length xs) e))
    (λ e. let m = ltb-false k (length xs) e in none r xs k held (omega (arith, m, some)) l)

-- at most fifteen values pass, and two bytes are asked
pub few_sent : (r : Receiver) (xs : List ℕ)
    → ((turn_of r xs).stepped.values.count ≤ 15) × ((turn_of r xs).stepped.request.count ≤ 2)
unfolding turn_of
few_sent r xs =
    let k : ℕ = only_held r xs in
    let q = run r (map byte (take k xs)) in
    chosen (λ (t : Turn). (t.stepped.values.count ≤ 15) × (t.stepped.request.count ≤ 2)) (ltb k (length xs))
    (λ e. (passed_few q (get_or xs k 0), (asked_counted q (get_or xs k 0)).0)) (λ e. (omega arith, omega arith))

-- ---- how many a turn takes

-- a stretch whose bytes are all there
pub whole_stretch : (x : ℕ) (xs : List ℕ) → x < 16 → 17 ≤ length xs → (turn_of (emptied x Collecting) xs).took ≡ 17
unfolding turn_of
whole_stretch x xs l h =
    let r = emptied x Collecting in
    let sixteen : only_held r xs ≡ 16 =
    counted r xs (ap (λ (t : Bool). t && awaits_more 0) (in_range_lem r l (omega arith) refl))
    ∙ length-take-le 16 xs (omega (arith, h)) in
    ap (λ (k : ℕ). (cond (ltb k (length xs)) (one_more r xs k) (still (behind r xs k) k)).took) sixteen
    ∙ ap (λ (t : Bool). (cond t (one_more r xs 16) (still (behind r xs 16) 16)).took) (lt-ltb 16 (length xs) (omega (arith, h)))

-- no bytes
pub no_bytes : (r : Receiver) → ((turn_of r []).took ≡ 0) × ((turn_of r []).stepped.next ≡ r)
unfolding turn_of
no_bytes r =
    let none : only_held r [] ≡ 0 = omega (arith, few_there r []) in
    let by : (k : ℕ) → Turn = λ k. cond (ltb k 0) (one_more r [] k) (still (behind r [] k) k) in
    (ap (λ (k : ℕ). (by k).took) none, ap (λ (k : ℕ). (by k).stepped.next) none)

pub notes_many : (r : Receiver) (xs : List ℕ) → length (notes_of r xs) ≡ length xs
notes_many r [] = refl
notes_many r (x ∷ xs) = ap suc (notes_many (stepped r x).next xs)
