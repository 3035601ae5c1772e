-- Seventeen bytes from where a stretch begins. Assumes nothing.
use mathlib.Core.Path.{◌≡◌, refl, sym, ap, ap₂, ◌∙◌, subst, subst⁻¹}
use mathlib.Core.List.{List, [], ◌∷◌, ◌++◌, map, map-append, append_assoc, append-nil}
use Prim.Native.Nat.{ℕ, ◌+◌, ◌%◌, ◌≤◌, ◌<◌}
use native.Mathlib.Omega.{arith}
use lib.ListN.{length, get_or, take, replicate, length-append}
use lib.Seq.{take-suc, take_all, length-take-le}
use Rattle.std.specs.Prelude.{Some}
use Rattle.block_maker.specs.Making.{values_of}
use Rattle.block_reader.specs.declared.Verdict.TheVariants.{Repeat}
use Rattle.block_reader.specs.Judging.{verdict}
use Rattle.block_reader.specs.Claims.{NoneNear, OnlyNear}
use Rattle.line_phases.specs.declared.Phase.TheVariants.{Collecting, Waiting}
use Rattle.line_receiver.specs.declared.Receiver.{Receiver}
use Rattle.line_receiver.specs.declared.Stepped.{Stepped}
use Rattle.line_receiver.specs.States.{InReceiver, emptied}
use Rattle.line_receiver.specs.Calls.{accepted, repeated, stepped}
use Rattle.line_receiver.specs.Runs.{byte, run, Sent, sent_by, sent}
use Rattle.line_receiver.specs.Page.{nothing, passes, asks, at_last, Stand, midway, Rule, held, taken, refused}
use Rattle.line_receiver.proofs.Shape as shapes
use Rattle.line_receiver.proofs.Shape.{Shape, shape, arrived}
use Rattle.line_receiver.proofs.Kept.{emptied_in, keeps, runs_keep, run_append, sent_append}
use Rattle.line_receiver.proofs.Outgoing.{sent_accepted}
use Rattle.line_receiver.proofs.Followed.{At, arrived_is, follows_one}
use Rattle.line_receiver.proofs.Once.{same_block, not_both}

-- ---- bytes before the seventeenth

only_held_lem : {x b : ℕ} (h : List ℕ) {o : Sent} {t : Stand} → length h < 16 → Rule (midway x h) (byte b) o t
    → (o ≡ nothing) × (t ≡ midway x (h ++ (b ∷ [])))
only_held_lem h l (held k) = (refl, refl)
only_held_lem h l (taken k c) = absurd (omega (arith, l, k))
only_held_lem h l (refused k c) = absurd (omega (arith, l, k))

gathers : (vs h : List ℕ) (x : ℕ) (r : Receiver) → length h + length vs ≤ 16 → InReceiver r → At r (midway x h)
    → At (run r (map byte vs)) (midway x (h ++ vs)) × (sent r (map byte vs) ≡ replicate (length vs) nothing)
gathers [] h x r k g a = (subst⁻¹ (λ (l : List ℕ). At r (midway x l)) (append-nil h) a, refl)
gathers (b ∷ vs) h x r k g a =
    let f = follows_one (byte b) r (midway x h) g a in
    let d = only_held_lem h (omega arith) f.1 in
    let n : length (h ++ (b ∷ [])) ≡ length h + 1 = length-append h (b ∷ []) in
    let i = gathers vs (h ++ (b ∷ [])) x (stepped r b).next (omega arith) (keeps (byte b) r g)
    (subst (At (stepped r b).next) d.1 f.2) in (
      subst (λ (l : List ℕ). At (run (stepped r b).next (map byte vs)) (midway x l)) (append_assoc h (b ∷ []) vs)
          i.0,
      ap₂ (λ (o : Sent) (os : List Sent). o ∷ os) d.0 i.1,
    )

-- ---- the seventeenth

module _ (r : Receiver) (b x : ℕ) (h : List ℕ) (a : At r (midway x h)) (k : length h ≡ 16) where
  takes : {c : Stepped} → Shape r b c → (C : List ℕ) → OnlyNear (h ++ (b ∷ [])) C
      → c ≡ accepted x (values_of C) (verdict (h ++ (b ∷ [])))
  takes (shapes.plain f) C o = absurd (cc)
  takes (shapes.more f c) C o = absurd (omega (arith, k, c, a.2))
  takes (shapes.took f c D p) C o =
      let e : arrived r b ≡ h ++ (b ∷ []) = arrived_is r b h a.3 c in
      ap₂ (λ (n : ℕ) (A : List ℕ). accepted n (values_of D) (verdict A)) a.1 e
      ∙ ap (λ (A : List ℕ). accepted x (values_of A) (verdict (h ++ (b ∷ []))))
      (same_block (subst (λ (A : List ℕ). OnlyNear A D) e p) o)
  takes (shapes.none f c n) C o = absurd (not_both o (subst NoneNear (arrived_is r b h a.3 c) n))
  takes (shapes.listens n f) C o = absurd (cc)

  asks_for : {c : Stepped} → Shape r b c → NoneNear (h ++ (b ∷ [])) → c ≡ repeated x Repeat
  asks_for (shapes.plain f) n = absurd (cc)
  asks_for (shapes.more f c) n = absurd (omega (arith, k, c, a.2))
  asks_for (shapes.took f c D p) n =
      absurd (not_both (subst (λ (A : List ℕ). OnlyNear A D) (arrived_is r b h a.3 c) p) n)
  asks_for (shapes.none f c o) n = ap (λ (m : ℕ). repeated m Repeat) a.1
  asks_for (shapes.listens m f) n = absurd (cc)

-- ---- seventeen

module _ (x : ℕ) (B : List ℕ) (lt : x < 16) (l : length B ≡ 17) where
  first : List ℕ
  first = take 16 B

  last : ℕ
  last = get_or B 16 0

  cut : B ≡ first ++ (last ∷ [])
  unfolding first last
  cut = sym (take_all 17 B (omega arith)) ∙ take-suc B 16 0 (omega arith)

  sixteen : length first ≡ 16
  unfolding first
  sixteen = length-take-le 16 B (omega arith)

  r : Receiver
  r = emptied x Collecting

  q : Receiver
  q = run r (map byte first)

  r_in : InReceiver r
  unfolding r
  r_in = emptied_in x Collecting lt refl

  held_all : At q (midway x first) × (sent r (map byte first) ≡ replicate (length first) nothing)
  unfolding r q
  held_all = gathers first [] x (emptied x Collecting) (omega (arith, sixteen)) r_in (refl, refl, refl, refl)

  bytes_cut : map byte B ≡ map byte first ++ (byte last ∷ [])
  bytes_cut = ap (map byte) cut ∙ map-append byte first (last ∷ [])

  -- the run over B in terms of its last call
  ended : (c : Stepped) → stepped q last ≡ c
      → (run (emptied x Collecting) (map byte B) ≡ c.next)
      × (sent (emptied x Collecting) (map byte B) ≡ at_last (sent_by c))
  unfolding r q
  ended c e = (
    ap (run r) bytes_cut ∙ run_append (map byte first) (byte last ∷ []) r ∙ ap (λ (t : Stepped). t.next) e,
    ap (sent r) bytes_cut ∙ sent_append (map byte first) (byte last ∷ []) r
        ∙ ap₂ (λ (os : List Sent) (t : Stepped). os ++ (sent_by t ∷ [])) held_all.1 e
        ∙ ap (λ (n : ℕ). replicate n nothing ++ (sent_by c ∷ [])) sixteen,
  )

  pub block_passes : (C : List ℕ) → OnlyNear B C
      → (run (emptied x Collecting) (map byte B) ≡ emptied ((x + 1) % 16) Collecting)
      × (sent (emptied x Collecting) (map byte B) ≡ at_last (passes (values_of C) (Some (verdict B))))
  unfolding r q
  block_passes C o =
      let i = ended (accepted x (values_of C) (verdict (first ++ (last ∷ []))))
      (takes q last x first held_all.0 sixteen (shape q last (runs_keep (map byte first) r r_in)) C
      (subst (λ (A : List ℕ). OnlyNear A C) cut o)) in (
        i.0,
        i.1 ∙ ap at_last (sent_accepted x (values_of C) (verdict (first ++ (last ∷ [])))
            ∙ ap (λ (A : List ℕ). passes (values_of C) (Some (verdict A))) (sym cut)),
      )

  pub block_asked : NoneNear B
      → (run (emptied x Collecting) (map byte B) ≡ emptied x (Waiting 0))
      × (sent (emptied x Collecting) (map byte B) ≡ at_last (asks x (Some Repeat)))
  unfolding r q
  block_asked n =
      ended (repeated x Repeat)
      (asks_for q last x first held_all.0 sixteen (shape q last (runs_keep (map byte first) r r_in))
      (subst NoneNear cut n))
