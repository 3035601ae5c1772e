-- The line whole: made blocks come through, and however often one is refused and sent again, each passes once.
-- Assumes nothing.
use mathlib.Core.Path.{◌≡◌, refl, sym, ap, ◌∙◌, subst, subst⁻¹}
use mathlib.Core.List.{List, [], ◌∷◌, ◌++◌, map, append_assoc, append-nil}
use Prim.Native.Nat.{ℕ, ◌+◌, ◌*◌, ◌%◌, ◌<◌}
use native.Mathlib.Nat.{mod-lt, zero-lt-suc}
use native.Mathlib.Omega.{arith}
use lib.ListN.{length, get_or, take, drop, length-map}
use lib.Seq.{length-take-le, take_at, drop_at, split_at, drop-cons}
use Rattle.std.proofs.lemmas.List.{take-map, drop-map}
use Rattle.values.specs.Large.{Values}
use Rattle.block_validity.specs.Changed.{same}
use Rattle.block_validity.specs.Block.{Valid}
use Rattle.block_maker.specs.Making.{block_of}
use Rattle.block_reader.specs.Claims.{NoneNear}
use Rattle.block_reader.proofs.Verdicts.{twice_none}
use Rattle.line_codes.specs.Codes.{syn, four, request, Nowhere}
use Rattle.line_phases.specs.declared.Phase.TheVariants.{Collecting, Waiting}
use Rattle.line_receiver.specs.declared.Receiver.{Receiver}
use Rattle.line_receiver.specs.declared.Stepped.{Stepped}
use Rattle.line_receiver.specs.States.{InReceiver, emptied}
use Rattle.line_receiver.specs.Runs.{byte, on, sent_by, sent, all_passed, all_asked}
use Rattle.line_receiver.specs.Line.{Twice, twice, Sending, through, resent}
use Rattle.line_receiver.specs.Line.{blocks_for, fifteens, made_of, filled, joined, Arrives, nothing_more}
use Rattle.line_receiver.specs.Line.{block_then}
use Rattle.line_receiver.proofs.Kept.{on_afresh}
use Rattle.line_receiver.proofs.Fifteens.{Cut, values, cut, cut_take, cut_drop, block_valid, fifteens_length}
use Rattle.line_receiver.proofs.Fifteens.{values_filled, first_values, both_values}
use Rattle.line_receiver.proofs.Heard.{Hears, behind, blocks_heard, refused_heard, noise_heard}
use Rattle.line_receiver.proofs.Heard.{resumption_heard}

-- heard by a receiver just switched on
module _ (r : Receiver) (g : InReceiver r) where
  on_heard : {bs vs qs : List ℕ} {q : Receiver} → Hears (emptied 0 Collecting) bs vs qs q
      → (all_passed (sent r (on ∷ map byte bs)) ≡ vs) × (all_asked (sent r (on ∷ map byte bs)) ≡ qs)
  on_heard {bs} k =
      let e : sent r (on ∷ map byte bs) ≡ sent (emptied 0 Collecting) (on ∷ map byte bs) =
      ap (λ (c : Stepped). sent_by c ∷ sent c.next (map byte bs)) (on_afresh r g) in
      (ap all_passed e ∙ k.passed, ap all_asked e ∙ k.asked)

-- ---- however often a block is refused

-- what the sender begins again with
abbrev again : ℕ → List ℕ → List ℕ
again x ws = ws ++ (syn ∷ []) ++ (syn ∷ []) ++ (four x ∷ [])

again_is : (x : ℕ) (ps ws bs : List ℕ) → ps ++ again x ws ++ bs ≡ ps ++ ws ++ (syn ∷ syn ∷ four x ∷ bs)
again_is x ps ws bs =
    append_assoc ps (again x ws) bs
    ∙ ap (λ (l : List ℕ). ps ++ l)
    (append_assoc (ws ++ (syn ∷ []) ++ (syn ∷ [])) (four x ∷ []) bs
    ∙ append_assoc (ws ++ (syn ∷ [])) (syn ∷ []) (four x ∷ bs) ∙ append_assoc ws (syn ∷ []) (syn ∷ four x ∷ bs))
    ∙ sym (append_assoc ps ws (syn ∷ syn ∷ four x ∷ bs))

recast : {r q : Receiver} {bs cs vs us qs : List ℕ} → bs ≡ cs → vs ≡ us → Hears r bs vs qs q → Hears r cs us qs q
recast {r} {q} {bs} {cs} {vs} {us} {qs} e f h =
    subst (λ (l : List ℕ). Hears r cs l qs q) f (subst (λ (l : List ℕ). Hears r l vs qs q) e h)

-- nothing passes between the two parts
all_values : (j : ℕ) (uss : List (List ℕ)) → values (take j uss) ++ [] ++ [] ++ values (drop j uss) ≡ values uss
all_values j uss =
    ap (λ (l : List ℕ). l ++ values (drop j uss))
    (append-nil (values (take j uss) ++ []) ∙ append-nil (values (take j uss)))
    ∙ both_values j uss

sending_heard : {x : ℕ} {Vs : List (List ℕ)} {bs qs : List ℕ} (uss : List (List ℕ)) → Cut uss → x < 16
    → Vs ≡ map block_of uss → Sending x Vs bs qs → (q : Receiver) × Hears (emptied x Collecting) bs (values uss) qs q
sending_heard {x} uss c h e (through {bs = bs} a) = (
  emptied ((x + length uss) % 16) Collecting,
  blocks_heard uss x c h (subst (λ (Ws : List (List ℕ)). Arrives Ws bs) e a),
)
sending_heard {x} uss c h e
    (resent {Us = Us} {Ws = Ws} {W = W} {B = B} {before = before} {noise = noise} {bs = bs} a l m n s) =
    let j : ℕ = length Us in
    let y : ℕ = (x + j) % 16 in
    let y-in : y < 16 = mod-lt (x + j) (zero-lt-suc 15) in
    let first : Us ≡ map block_of (take j uss) =
    sym (take_at Us (W ∷ Ws) j refl) ∙ ap (take j) e ∙ take-map block_of j uss in
    let others : W ∷ Ws ≡ map block_of (drop j uss) =
    sym (drop_at Us (W ∷ Ws) j refl) ∙ ap (drop j) e ∙ drop-map block_of j uss in
    let many : length (take j uss) ≡ j = sym (length-map (take j uss) block_of) ∙ ap length (sym first) in
    let came : Hears (emptied x Collecting) before (values (take j uss)) [] (emptied y Collecting) =
    subst (λ (m : ℕ). Hears (emptied x Collecting) before (values (take j uss)) [] (emptied ((x + m) % 16) Collecting))
    many
    (blocks_heard (take j uss) x (cut_take j uss c) h
    (subst (λ (Us : List (List ℕ)). Arrives Us before) first a)) in
    let went = sending_heard (drop j uss) (cut_drop j uss c) y-in others s in
    let all = behind (before ++ B ++ again y noise) bs
    (behind (before ++ B) (again y noise) (behind before B came (refused_heard B y l m y-in))
    (resumption_heard y y-in noise n))
    went.1 in
    (went.0, recast (again_is y (before ++ B) noise bs) (all_values j uss) all)

-- each block passes once, and what is asked is what the sender is asked for
pub sending : (r : Receiver) → InReceiver r → (vs bs qs : List ℕ) → Values vs → Sending 0 (made_of vs) bs qs
    → (all_passed (sent r (on ∷ map byte bs)) ≡ filled vs) × (all_asked (sent r (on ∷ map byte bs)) ≡ qs)
sending r g vs bs qs f s =
    let i = sending_heard (fifteens (blocks_for vs) vs) (cut (blocks_for vs) vs f) (omega arith) refl s in
    let p = on_heard r g i.1 in
    (p.0 ∙ values_filled vs, p.1)

-- all of them come through
pub line_whole : (r : Receiver) → InReceiver r → (vs bs : List ℕ) → Values vs → Arrives (made_of vs) bs
    → (all_passed (sent r (on ∷ map byte bs)) ≡ filled vs) × (all_asked (sent r (on ∷ map byte bs)) ≡ [])
line_whole r g vs bs f a = sending r g vs bs [] f (through a)

-- ---- block j is the first that is refused

module _ (vs : List ℕ) (j : ℕ) (hit : List ℕ) (f : Values vs) (jn : j < blocks_for vs) (long : length hit ≡ 17)
    (far : NoneNear hit) where
  abbrev uss : List (List ℕ)
  uss = fifteens (blocks_for vs) vs

  x_lt : j % 16 < 16
  x_lt = mod-lt j (zero-lt-suc 15)

  uss_cut : Cut uss
  uss_cut = cut (blocks_for vs) vs f

  uss_long : j < length uss
  uss_long = subst⁻¹ (λ (n : ℕ). j < n) (fifteens_length (blocks_for vs) vs) jn

  module _ (before noise : List ℕ) (ab : Arrives (take j (made_of vs)) before) (none : Nowhere (j % 16) noise) where
    first_heard : Hears (emptied 0 Collecting) before (values (take j uss)) [] (emptied (j % 16) Collecting)
    first_heard =
        let l : length (take j uss) ≡ j = length-take-le j uss (omega (arith, uss_long)) in
        subst (λ (n : ℕ). Hears (emptied 0 Collecting) before (values (take j uss)) [] (emptied n Collecting))
        (ap (λ (n : ℕ). (0 + n) % 16) l ∙ omega arith)
        (blocks_heard (take j uss) 0 (cut_take j uss uss_cut) (omega arith)
        (subst (λ (Ws : List (List ℕ)). Arrives Ws before) (take-map block_of j uss) ab))

    hit_heard :
        Hears (emptied 0 Collecting) (before ++ hit) (values (take j uss) ++ []) (request (j % 16))
        (emptied (j % 16) (Waiting 0))
    hit_heard = behind before hit first_heard (refused_heard hit (j % 16) long far x_lt)

    first_passed : values (take j uss) ++ [] ++ [] ≡ take (15 * j) (filled vs)
    first_passed =
        append-nil (values (take j uss) ++ []) ∙ append-nil (values (take j uss))
        ∙ first_values j uss uss_cut (omega (arith, uss_long)) ∙ ap (take (15 * j)) (values_filled vs)

    -- the blocks before it have passed and it is asked for, whatever else arrives before SYN, SYN, 4/j
    pub asked_once : (r : Receiver) → InReceiver r
        → (all_passed (sent r (on ∷ map byte (before ++ hit ++ noise))) ≡ take (15 * j) (filled vs))
        × (all_asked (sent r (on ∷ map byte (before ++ hit ++ noise))) ≡ request (j % 16))
    asked_once r g =
        let p = on_heard r g (behind (before ++ hit) noise hit_heard (noise_heard (j % 16) x_lt noise none)) in
        (p.0 ∙ first_passed, p.1)

    abbrev begun_again : ℕ → List ℕ → List ℕ
    begun_again x after = before ++ hit ++ noise ++ (syn ∷ syn ∷ four x ∷ after)

    -- then it and the blocks behind it pass, and nothing more is asked
    pub each_once : (r : Receiver) → InReceiver r → (after : List ℕ) → Arrives (drop j (made_of vs)) after
        → (all_passed (sent r (on ∷ map byte (begun_again (j % 16) after))) ≡ filled vs)
        × (all_asked (sent r (on ∷ map byte (begun_again (j % 16) after))) ≡ request (j % 16))
    each_once r g after aa =
        let Ws : List (List ℕ) = made_of vs in
        let h : j < length Ws = subst⁻¹ (λ (n : ℕ). j < n) (length-map uss block_of) uss_long in
        let y : ℕ = (0 + length (take j Ws)) % 16 in
        let e : y ≡ j % 16 = ap (λ (n : ℕ). (0 + n) % 16) (length-take-le j Ws (omega (arith, h))) ∙ omega arith in
        subst
        (λ (x : ℕ). (all_passed (sent r (on ∷ map byte (begun_again x after))) ≡ filled vs)
        × (all_asked (sent r (on ∷ map byte (begun_again x after))) ≡ request x)) e
        (sending r g vs (begun_again y after) (request y) f
        (subst⁻¹ (λ (Us : List (List ℕ)). Sending 0 Us (begun_again y after) (request y)) (split_at Ws j [] h)
        (resent ab long far (subst⁻¹ (λ (x : ℕ). Nowhere x noise) e none)
        (through (subst (λ (Us : List (List ℕ)). Arrives Us after) (drop-cons Ws j [] h) aa)))))

-- ---- such lines exist

-- every made block is valid
pub made_at : (vs : List ℕ) (j : ℕ) → Values vs → j < blocks_for vs → Valid (get_or (made_of vs) j [])
made_at vs j f h =
    block_valid j (fifteens (blocks_for vs) vs) (cut (blocks_for vs) vs f)
    (subst⁻¹ (λ (n : ℕ). j < n) (fifteens_length (blocks_for vs) vs) h)

-- and hit at two bits it is refused
pub twice_far : (W B : List ℕ) → Valid W → Twice W B → (length B ≡ 17) × NoneNear B
twice_far W B v (twice i k hi hk ne) = twice_none W i k v hi hk ne

-- blocks that are not hit
pub unhit : (Ws : List (List ℕ)) → Arrives Ws (joined Ws)
unhit [] = nothing_more
unhit (W ∷ Ws) = block_then same (unhit Ws)
