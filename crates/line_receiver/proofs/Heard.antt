-- What passes and is asked over bytes: made blocks, one that is refused, and whatever arrives before the sender begins
-- again. Assumes nothing.
use mathlib.Core.Path.{◌≡◌, refl, sym, ap, ap₂, ◌∙◌, subst, subst⁻¹}
use mathlib.Core.Bool.{true}
use mathlib.Core.List.{List, [], ◌∷◌, ◌++◌, map, map-append, append_assoc, append-nil}
use Prim.Native.Nat.{ℕ, ◌+◌, ◌%◌, ◌≤◌, ◌<◌}
use native.Mathlib.Nat.{mod-lt, zero-lt-suc}
use native.Mathlib.Omega.{arith}
use lib.ListN.{length}
use Rattle.values.specs.Large.{Values}
use Rattle.block_validity.specs.Changed.{Near, same, changed}
use Rattle.block_validity.specs.Block.{Valid}
use Rattle.block_validity.proofs.Flips.{flip_length}
use Rattle.block_validity.proofs.Validity.{valid_length}
use Rattle.block_maker.specs.Making.{block_of, values_of}
use Rattle.block_maker.proofs.Blocks.{made_valid, values_back}
use Rattle.block_reader.specs.Judging.{mendable}
use Rattle.block_reader.specs.Claims.{NoneNear}
use Rattle.block_reader.proofs.Verdicts.{near_only}
use Rattle.line_codes.specs.Codes.{syn, four, request, Nowhere}
use Rattle.line_codes.proofs.Numbered.{counted}
use Rattle.line_codes.proofs.Seen.{seen_syns, nowhere_syn}
use Rattle.line_phases.specs.declared.Phase.TheVariants.{Collecting, Waiting}
use Rattle.line_receiver.specs.declared.Receiver.{Receiver}
use Rattle.line_receiver.specs.declared.Stepped.{Stepped}
use Rattle.line_receiver.specs.States.{InReceiver, emptied}
use Rattle.line_receiver.specs.Calls.{silent, stepped}
use Rattle.line_receiver.specs.Runs.{byte, run, Sent, sent_by, sent, all_passed, all_asked, unswitched}
use Rattle.line_receiver.specs.Runs.{bytes_of}
use Rattle.line_receiver.specs.Page.{while_waiting, awaiting}
use Rattle.line_receiver.specs.Line.{Arrives, nothing_more}
use Rattle.line_receiver.specs.Line.{block_then}
use Rattle.line_receiver.proofs.Kept.{emptied_in, runs_keep, run_append, sent_append, asked_append}
use Rattle.line_receiver.proofs.Followed.{At}
use Rattle.line_receiver.proofs.Waits.{resumes, waits_on}
use Rattle.line_receiver.proofs.Seventeen.{block_passes, block_asked}
use Rattle.line_receiver.proofs.Fifteens.{Cut, padded, values}

-- ---- all that passes and is asked over bytes, and the state behind them

pub record Hears (r : Receiver) (bs vs qs : List ℕ) (q : Receiver) : Type 0 where
  pub passed : all_passed (sent r (map byte bs)) ≡ vs
  pub asked : all_asked (sent r (map byte bs)) ≡ qs
  pub after : run r (map byte bs) ≡ q

passed_append : (os ps : List Sent) → all_passed (os ++ ps) ≡ all_passed os ++ all_passed ps
passed_append [] ps = refl
passed_append (o ∷ os) ps =
    ap (λ (l : List ℕ). o.passed ++ l) (passed_append os ps)
    ∙ sym (append_assoc o.passed (all_passed os) (all_passed ps))

-- bytes behind bytes
pub behind : {r q p : Receiver} (bs cs : List ℕ) {vs us qs ps : List ℕ} → Hears r bs vs qs q → Hears q cs us ps p
    → Hears r (bs ++ cs) (vs ++ us) (qs ++ ps) p
behind {r} {q} {p} bs cs h k =
    let e : map byte (bs ++ cs) ≡ map byte bs ++ map byte cs = map-append byte bs cs in
    let s : sent r (map byte (bs ++ cs)) ≡ sent r (map byte bs) ++ sent q (map byte cs) =
    ap (sent r) e ∙ sent_append (map byte bs) (map byte cs) r
    ∙ ap (λ (t : Receiver). sent r (map byte bs) ++ sent t (map byte cs)) h.after in
    record {
      passed =
          ap all_passed s ∙ passed_append (sent r (map byte bs)) (sent q (map byte cs))
          ∙ ap₂ (λ (x y : List ℕ). x ++ y) h.passed k.passed;
      asked =
          ap all_asked s ∙ asked_append (sent r (map byte bs)) (sent q (map byte cs))
          ∙ ap₂ (λ (x y : List ℕ). x ++ y) h.asked k.asked;
      after =
          ap (run r) e ∙ run_append (map byte bs) (map byte cs) r
          ∙ ap (λ (t : Receiver). run t (map byte cs)) h.after ∙ k.after;
    }

-- ---- blocks

arrived_long : (W : List ℕ) {B : List ℕ} → length W ≡ 17 → Near mendable W B → length B ≡ 17
arrived_long W l same = l
arrived_long W l (changed k h) = flip_length k W ∙ l

block_heard : (us : List ℕ) {B : List ℕ} (x : ℕ) → length us ≤ 15 → Values us → x < 16 → Near mendable (block_of us) B
    → Hears (emptied x Collecting) B (padded us) [] (emptied ((x + 1) % 16) Collecting)
block_heard us {B} x l f h n =
    let v : Valid (block_of us) = made_valid us l in
    let p = block_passes x B h (arrived_long (block_of us) (valid_length (block_of us) v) n) (block_of us)
    (near_only (block_of us) v n) in
    record {
      passed = ap all_passed p.1 ∙ append-nil (values_of (block_of us)) ∙ values_back us l f;
      asked = ap all_asked p.1;
      after = p.0;
    }

pub blocks_heard : (uss : List (List ℕ)) {bs : List ℕ} (x : ℕ) → Cut uss → x < 16 → Arrives (map block_of uss) bs
    → Hears (emptied x Collecting) bs (values uss) [] (emptied ((x + length uss) % 16) Collecting)
blocks_heard [] x c h nothing_more =
    let e : x ≡ (x + 0) % 16 = omega arith in
    record { passed = refl; asked = refl; after = ap (λ (n : ℕ). emptied n Collecting) e }
blocks_heard (us ∷ uss) x c h (block_then {B = B} {bs = bs} n a) =
    let i = behind B bs (block_heard us x c.0 c.1 h n)
    (blocks_heard uss ((x + 1) % 16) c.2 (mod-lt (x + 1) (zero-lt-suc 15)) a) in
    subst (λ (m : ℕ). Hears (emptied x Collecting) (B ++ bs) (values (us ∷ uss)) [] (emptied m Collecting))
    (counted x (length uss)) i

-- ---- one that is refused

pub refused_heard : (B : List ℕ) (x : ℕ) → length B ≡ 17 → NoneNear B → x < 16
    → Hears (emptied x Collecting) B [] (request x) (emptied x (Waiting 0))
refused_heard B x l n h =
    let p = block_asked x B h l n in
    record { passed = ap all_passed p.1; asked = ap all_asked p.1; after = p.0 }

-- ---- bytes while waiting

unswitched_bytes : (bs : List ℕ) → unswitched (map byte bs) ≡ true
unswitched_bytes [] = refl
unswitched_bytes (b ∷ bs) = unswitched_bytes bs

bytes_of_lem : (bs : List ℕ) → bytes_of (map byte bs) ≡ bs
bytes_of_lem [] = refl
bytes_of_lem (b ∷ bs) = ap (λ (l : List ℕ). b ∷ l) (bytes_of_lem bs)

none_passed : (x : ℕ) (bs : List ℕ) → all_passed (map (while_waiting x) (map byte bs)) ≡ []
none_passed x [] = refl
none_passed x (b ∷ bs) = none_passed x bs

none_asked : (x : ℕ) (bs : List ℕ) → all_asked (map (while_waiting x) (map byte bs)) ≡ []
none_asked x [] = refl
none_asked x (b ∷ bs) = none_asked x bs

module _ (x : ℕ) (h : x < 16) where
  begun : InReceiver (emptied x (Waiting 0)) × At (emptied x (Waiting 0)) (awaiting x [])
  begun = (emptied_in x (Waiting 0) h refl, (ap Waiting (sym (seen_syns 0 (omega arith))), refl))

  dropped : (ws : List ℕ) → Nowhere x ws
      → At (run (emptied x (Waiting 0)) (map byte ws)) (awaiting x ws)
      × (sent (emptied x (Waiting 0)) (map byte ws) ≡ map (while_waiting x) (map byte ws))
  dropped ws n =
      let i = waits_on (map byte ws) (emptied x (Waiting 0)) x [] (unswitched_bytes ws) begun.0 begun.1
      (subst⁻¹ (Nowhere x) (bytes_of_lem ws) n) in
      let q : Receiver = run (emptied x (Waiting 0)) (map byte ws) in
      (subst (λ (l : List ℕ). At q (awaiting x l)) (bytes_of_lem ws) i.0, i.1)

  pub noise_heard : (ws : List ℕ) → Nowhere x ws
      → Hears (emptied x (Waiting 0)) ws [] [] (run (emptied x (Waiting 0)) (map byte ws))
  noise_heard ws n =
      let i = dropped ws n in
      record {
        passed = ap all_passed i.1 ∙ none_passed x ws;
        asked = ap all_asked i.1 ∙ none_asked x ws;
        after = refl;
      }

  -- SYN, SYN, 4/X behind it
  pub resumption_heard : (ws : List ℕ) → Nowhere x ws
      → Hears (emptied x (Waiting 0)) (ws ++ (syn ∷ []) ++ (syn ∷ []) ++ (four x ∷ [])) [] [] (emptied x Collecting)
  resumption_heard ws n =
      let us : List ℕ = ws ++ (syn ∷ []) ++ (syn ∷ []) in
      let m : Nowhere x us = nowhere_syn x (ws ++ (syn ∷ [])) (nowhere_syn x ws n) in
      let q : Receiver = run (emptied x (Waiting 0)) (map byte us) in
      let e : stepped q (four x) ≡ silent (emptied x Collecting) =
      resumes q (four x) x us (runs_keep (map byte us) (emptied x (Waiting 0)) begun.0) (dropped us m).0
      (ws, append_assoc (ws ++ (syn ∷ [])) (syn ∷ []) (four x ∷ []) ∙ append_assoc ws (syn ∷ []) (syn ∷ four x ∷ [])) in
      behind us (four x ∷ []) (noise_heard us m)
      (record {
        passed = ap (λ (c : Stepped). (sent_by c).passed ++ []) e;
        asked = ap (λ (c : Stepped). (sent_by c).asked ++ []) e;
        after = ap (λ (c : Stepped). c.next) e;
      })
