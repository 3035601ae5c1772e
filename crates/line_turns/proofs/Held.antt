-- Bytes that are only held bring nothing, and stand behind those there are. Assumes nothing.
use mathlib.Core.Path.{◌≡◌, refl, sym, ap, ap₂, ◌∙◌}
use mathlib.Core.Bool.{Bool, true, false, cond, ◌&&◌}
use mathlib.Core.List.{List, [], ◌∷◌, ◌++◌, map, map-append}
use Prim.Native.Nat.{ℕ, zero, suc, ◌+◌, ◌-◌, ◌≤◌, ◌<◌, min, zero-le}
use native.Mathlib.Numerals.{add-one}
use native.Mathlib.Omega.{arith}
use lib.Dec.{T, ltb}
use lib.ListN.{length, take, drop, get_or, replicate, length-take, replicate-append-replicate}
use lib.Seq.{paste-zero, paste-suc, take-suc, take-take, length-take-le}
use borrow.Author.Tests.{ltb-true, lt-ltb, le-ltb}
use Rattle.laws.proofs.Computed.{fails, holds, is_true, and_left, and_right, chosen}
use Rattle.line_phases.specs.Phases.{awaits_more, seen_in_range}
use Rattle.line_phases.specs.declared.Phase.{Phase}
use Rattle.line_phases.specs.declared.Phase.TheVariants.{Off, Collecting, Waiting}
use Rattle.line_receiver.specs.declared.Receiver.{Receiver}
use Rattle.line_receiver.specs.declared.Stepped.{Stepped}
use Rattle.line_receiver.specs.States.{in_range}
use Rattle.line_receiver.specs.Calls.{silent, refused, holding, judged_held, by_phase, stepped}
use Rattle.line_receiver.specs.Runs.{byte, run, Sent, sent_by, sent}
use Rattle.line_receiver.specs.Page.{nothing}
use Rattle.line_receiver.proofs.Kept.{run_append, sent_append}
use Rattle.line_receiver.proofs.Ranges.{in_range_lem, number_in}
use Rattle.line_turns.specs.Notes.{note_on, note_of, notes_of}
use Rattle.line_turns.specs.Turns.{holds_in, holds_more, only_held, behind, held_of, filled, one_more, still, turn_of}
use Rattle.line_turns.specs.declared.holding.Held.{Held}

-- ---- one byte

module _ (r : Receiver) where
  both : (p : Phase) → r.phase ≡ p → holds_in p r ≡ true
      → (in_range r ≡ true) × (awaits_more r.count ≡ true) × (r.phase ≡ Collecting)
  both Off e h = absurd (fails (sym h) tt)
  both Collecting e h =
      let t : T (in_range r && awaits_more r.count) = holds h in (
        is_true (in_range r) (and_left (in_range r) (awaits_more r.count) t),
        is_true (awaits_more r.count) (and_right (in_range r) (awaits_more r.count) t),
        e,
      )
  both (Waiting n) e h = absurd (fails (sym h) tt)

  module _ (h : holds_more r ≡ true) where
    pub held_range : in_range r ≡ true
    held_range = (both r.phase refl h).0

    pub held_few : r.count < 16
    held_few = ltb-true r.count 16 (both r.phase refl h).1

    pub held_phase : r.phase ≡ Collecting
    held_phase = (both r.phase refl h).2

  pub only_held_lem : in_range r ≡ true → r.phase ≡ Collecting → r.count < 16 → (x : ℕ)
      → stepped r x ≡ silent (holding r x)
  only_held_lem e p k x =
      ap (λ (t : Bool). cond t (by_phase r.phase r x) (refused r)) e
      ∙ ap (λ (q : Phase). by_phase q r x) p
      ∙ ap (λ (t : Bool). cond t (silent (holding r x)) (judged_held r x)) (lt-ltb r.count 16 k)

-- ---- some bytes

-- k bytes are held behind those there are, nothing goes out, and nothing is to be noted
abbrev pub HeldOnly : Receiver → List ℕ → ℕ → Type 0
HeldOnly r xs k =
    (behind r xs k ≡ filled r xs k) × (sent r (map byte (take k xs)) ≡ replicate k nothing)
    × (notes_of r (take k xs) ≡ replicate k 0)

pub notes_append : (xs ys : List ℕ) (r : Receiver) → notes_of r (xs ++ ys) ≡ notes_of r xs ++ notes_of (run r (map byte xs)) ys
notes_append [] ys r = refl
notes_append (x ∷ xs) ys r = ap (λ (ns : List ℕ). note_of r x ∷ ns) (notes_append xs ys (stepped r x).next)

-- one more copy at the end
pub one_copy : {A : Type 0} (k : ℕ) (a : A) → replicate k a ++ (a ∷ []) ≡ replicate (suc k) a
one_copy k a = replicate-append-replicate k 1 a ∙ ap (λ (n : ℕ). replicate n a) (add-one k)

none_held : (r : Receiver) (xs : List ℕ) → HeldOnly r xs 0
none_held r xs = (
  ap₂ (λ (h : List ℕ) (n : ℕ). record { held = h; count = n; number = r.number; phase = r.phase })
      (paste-zero r.held r.count xs) (omega arith),
  refl,
  refl,
)

module _ (r : Receiver) (xs : List ℕ) (i : in_range r ≡ true) (p : r.phase ≡ Collecting)
    (array : length r.held ≡ 17) where
  more : (k : ℕ) → r.count + suc k ≤ 16 → suc k ≤ length xs → HeldOnly r xs k → HeldOnly r xs (suc k)
  more k few l before =
      let q = filled r xs k in
      let x = get_or xs k 0 in
      let cut : take (suc k) xs ≡ take k xs ++ (x ∷ []) = take-suc xs k 0 (omega (arith, l)) in
      let events : map byte (take (suc k) xs) ≡ map byte (take k xs) ++ (byte x ∷ []) =
      ap (map byte) cut ∙ map-append byte (take k xs) (x ∷ []) in
      let range : in_range q ≡ true = in_range_lem q (number_in r i) (omega (arith, few)) (ap seen_in_range p) in
      let s : stepped q x ≡ silent (holding q x) = only_held_lem q range p (omega (arith, few)) x in
      let fill : holding q x ≡ filled r xs (suc k) =
      ap₂ (λ (h : List ℕ) (n : ℕ). record { held = h; count = n; number = r.number; phase = r.phase })
      (paste-suc r.held r.count xs k 0 (omega (arith, few, array)) (omega (arith, l))) (omega arith) in (
        ap (run r) events ∙ run_append (map byte (take k xs)) (byte x ∷ []) r
            ∙ ap (λ (w : Receiver). (stepped w x).next) before.0 ∙ ap (λ (w : Stepped). w.next) s ∙ fill,
        ap (sent r) events ∙ sent_append (map byte (take k xs)) (byte x ∷ []) r
            ∙ ap₂ (λ (os : List Sent) (w : Receiver). os ++ (sent_by (stepped w x) ∷ [])) before.1 before.0
            ∙ ap (λ (w : Stepped). replicate k nothing ++ (sent_by w ∷ [])) s ∙ one_copy k nothing,
        ap (notes_of r) cut ∙ notes_append (take k xs) (x ∷ []) r
            ∙ ap₂ (λ (ns : List ℕ) (w : Receiver). ns ++ (note_of w x ∷ [])) before.2 before.0
            ∙ ap₂ (λ (w : Stepped) (f : Phase). replicate k 0 ++ (note_on f w ∷ [])) s p ∙ one_copy k 0,
      )

  pub all_held : (k : ℕ) → r.count + k ≤ 16 → k ≤ length xs → HeldOnly r xs k
  all_held zero few l = none_held r xs
  all_held (suc k) few l = more k few l (all_held k (omega (arith, few)) (omega (arith, l)))

-- ---- as many as are only held

module _ (r : Receiver) (xs : List ℕ) where
  pub counted : holds_more r ≡ true → only_held r xs ≡ length (take (16 - r.count) xs)
  counted h = ap (λ (t : Bool). cond t (length (take (16 - r.count) xs)) 0) h

  pub uncounted : holds_more r ≡ false → only_held r xs ≡ 0
  uncounted h = ap (λ (t : Bool). cond t (length (take (16 - r.count) xs)) 0) h

  -- the first k of them are all that are held
  filled_first : (k : ℕ) → k ≤ length xs → filled r (take k xs) (length (take k xs)) ≡ filled r xs k
  filled_first k h =
      ap (filled r (take k xs)) (length-take-le k xs h)
      ∙ ap (λ (ys : List ℕ). filled_with ys k) (take-take k k xs (omega arith))
    where
      filled_with : List ℕ → ℕ → Receiver
      filled_with ys n =
          record {
            held = take r.count r.held ++ ys ++ drop (r.count + n) r.held;
            count = r.count + n;
            number = r.number;
            phase = r.phase;
          }

  -- k being as many
  pub holds_some : holds_more r ≡ true → length r.held ≡ 17 → (k : ℕ) → k ≡ min (length xs) (16 - r.count)
      → {q : Receiver} → q ≡ filled r (take k xs) (length (take k xs)) → record { receiver = q; count = k } ≡ held_of r xs
  unfolding held_of
  holds_some h array k e {q} f =
      let few = length-take (16 - r.count) xs in
      let held = all_held r xs (held_range r h) (held_phase r h) array k
      (omega (arith, e, held_few r h)) (omega (arith, e)) in
      ap (λ (p : Receiver). record { receiver = p; count = k }) (f ∙ filled_first k (omega (arith, e)) ∙ sym held.0)
      ∙ ap (λ (j : ℕ). record { receiver = behind r xs j; count = j }) (omega (arith, e, few) ∙ sym (counted h))

  pub few_there : only_held r xs ≤ length xs
  few_there =
      chosen (λ (k : ℕ). k ≤ length xs) (holds_more r) (λ h. omega (arith, length-take (16 - r.count) xs))
      (λ h. zero-le)

  pub held_all : length r.held ≡ 17 → HeldOnly r xs (only_held r xs)
  held_all array =
      let few = length-take (16 - r.count) xs in
      chosen (HeldOnly r xs) (holds_more r)
      (λ h. all_held r xs (held_range r h) (held_phase r h) array (length (take (16 - r.count) xs))
      (omega (arith, few, held_few r h)) (omega (arith, few)))
      (λ h. none_held r xs)

  pub holds_none : holds_more r ≡ false → record { receiver = r; count = 0 } ≡ held_of r xs
  unfolding held_of
  holds_none h = ap (λ (j : ℕ). record { receiver = behind r xs j; count = j }) (sym (uncounted h))

  -- ---- a turn

  module _ (h : Held) (e : h ≡ held_of r xs) where
    as_one : (t : Bool) → ltb h.count (length xs) ≡ t
        → cond t (one_more r xs h.count) (still (behind r xs h.count) h.count) ≡ turn_of r xs
    unfolding held_of turn_of
    as_one t l =
        ap (λ (u : Bool). cond u (one_more r xs h.count) (still (behind r xs h.count) h.count)) (sym l)
        ∙ ap
        (λ (k : ℕ). cond (ltb k (length xs)) (one_more r xs k) (still (behind r xs k) k)) (ap (λ (w : Held). w.count) e)

    reached : h.receiver ≡ behind r xs h.count
    unfolding held_of
    reached = ap (λ (w : Held). w.receiver) e ∙ ap (λ (k : ℕ). behind r xs k) (sym (ap (λ (w : Held). w.count) e))

    pub goes_on : h.count < length xs → {s : Stepped} → s ≡ stepped h.receiver (get_or xs h.count 0) → {n : ℕ}
        → n ≡ note_on h.receiver.phase s → record { stepped = s; note = n; took = h.count + 1 } ≡ turn_of r xs
    goes_on l {s} f {n} g =
        ap₂ (λ (w : Stepped) (m : ℕ). record { stepped = w; note = m; took = h.count + 1 }) f
        (g ∙ ap (λ (w : Stepped). note_on h.receiver.phase w) f)
        ∙ ap
        (λ (q : Receiver).
        record {
          stepped = stepped q (get_or xs h.count 0);
          note = note_of q (get_or xs h.count 0);
          took = h.count + 1;
        })
        reached
        ∙ as_one true (lt-ltb h.count (length xs) l)

    pub ends : length xs ≤ h.count → {s : Stepped} → s ≡ silent h.receiver
        → record { stepped = s; note = 0; took = h.count } ≡ turn_of r xs
    ends l {s} f =
        ap (λ (w : Stepped). record { stepped = w; note = 0; took = h.count }) f
        ∙ ap (λ (q : Receiver). still q h.count) reached ∙ as_one false (le-ltb h.count (length xs) l)
