-- After any calls from a new sender the blocks kept are the last sixteen made, in order, and the next number is how
-- many were made, modulo 16. Assumes nothing.
use mathlib.Core.Path.{◌≡◌, refl, sym, ap, ap₂, ◌∙◌, subst, subst⁻¹}
use mathlib.Core.Bool.{Bool, true, cond, ◌&&◌}
use mathlib.Core.List.{List, [], ◌∷◌, ◌++◌, map, append_assoc, append-nil}
use mathlib.Core.Logic.{⊎_elim}
use Prim.Native.Nat.{ℕ, zero, suc, ◌+◌, ◌-◌, ◌*◌, ◌%◌, ◌≤◌, ◌<◌}
use native.Mathlib.Nat.{mod-lt, zero-lt-suc}
use native.Mathlib.Omega.{arith}
use lib.Dec.{eqb}
use lib.ListN.{length, drop, length-append, length-drop}
use lib.Seq.{take_all, take_at, drop-nil, drop-append-le, drop-append-add, drop-drop, length-take-le}
use borrow.Author.Tests.{lt-ltb, le-ltb, eqb-true}
use Rattle.std.specs.Prelude.{is_ok}
use Rattle.laws.proofs.Computed.{apart, chosen}
use Rattle.values.specs.Large.{Values}
use Rattle.values.proofs.Found.{none_large}
use Rattle.block_validity.proofs.Validity.{valid_length}
use Rattle.block_maker.specs.Making.{block_of}
use Rattle.block_maker.proofs.Blocks.{made_valid}
use Rattle.block_maker.proofs.Numbered.{room}
use Rattle.line_codes.specs.Codes.{next, nack}
use Rattle.line_receiver.specs.Line.{joined}
use Rattle.line_sender.specs.declared.Sender.{Sender}
use Rattle.line_sender.specs.declared.Sent.{Sent}
use Rattle.line_sender.specs.States.{in_range, new_sender, stored, added, moved_up, keeping}
use Rattle.line_sender.specs.Calls.{send_number, sent_as, sent_by, resent_by}
use Rattle.line_sender.specs.Runs.{Call, send, resend, hear, obey, after, made_by, made, last_sixteen}
use Rattle.line_sender.specs.Hearing.{holding, heard_by}
use Rattle.line_sender.proofs.Answers.{many, as_made}
use Rattle.line_sender.proofs.Listening.{heard_held}

-- ---- blocks one behind the other

-- each has seventeen bytes
abbrev pub Seventeens : List (List ℕ) → Type 0
Seventeens [] = Unit {0}
Seventeens (W ∷ Ws) = (length W ≡ 17) × Seventeens Ws

pub seventeens_append : (Us Ws : List (List ℕ)) → Seventeens Us → Seventeens Ws → Seventeens (Us ++ Ws)
seventeens_append [] Ws u w = w
seventeens_append (U ∷ Us) Ws u w = (u.0, seventeens_append Us Ws u.1 w)

pub seventeens_drop : (n : ℕ) (Ws : List (List ℕ)) → Seventeens Ws → Seventeens (drop n Ws)
seventeens_drop zero Ws w = w
seventeens_drop (suc n) [] w = tt
seventeens_drop (suc n) (W ∷ Ws) w = seventeens_drop n Ws w.1

pub joined_append : (Us Ws : List (List ℕ)) → joined (Us ++ Ws) ≡ joined Us ++ joined Ws
joined_append [] Ws = refl
joined_append (U ∷ Us) Ws =
    ap (λ (l : List ℕ). U ++ l) (joined_append Us Ws) ∙ sym (append_assoc U (joined Us) (joined Ws))

pub joined_length : (Ws : List (List ℕ)) → Seventeens Ws → length (joined Ws) ≡ 17 * length Ws
joined_length [] w = refl
joined_length (W ∷ Ws) w =
    let i : length (joined Ws) ≡ 17 * length Ws = joined_length Ws w.1 in
    length-append W (joined Ws) ∙ omega (arith, w.0, i)

pub joined_drop : (n : ℕ) (Ws : List (List ℕ)) → Seventeens Ws → drop (17 * n) (joined Ws) ≡ joined (drop n Ws)
joined_drop zero Ws w = refl
joined_drop (suc n) [] w = drop-nil (17 * suc n)
joined_drop (suc n) (W ∷ Ws) w =
    let e : 17 * suc n ≡ length W + 17 * n = omega (arith, w.0) in
    ap (λ (m : ℕ). drop m (W ++ joined Ws)) e ∙ drop-append-add W (joined Ws) (17 * n) ∙ joined_drop n Ws w.1

-- ---- a sender that has sent blocks

pub record Keeps (s : Sender) (Ws : List (List ℕ)) : Type 0 where
  pub array : length s.blocks ≡ 272
  pub many : s.kept ≡ length Ws - (length Ws - 16)
  pub number : s.next ≡ length Ws % 16
  pub bytes : stored s ≡ joined (last_sixteen Ws)
  pub sized : Seventeens Ws

pub keeps_in : (s : Sender) (Ws : List (List ℕ)) → Keeps s Ws → in_range s ≡ true
keeps_in s Ws k =
    ap₂ (λ (t u : Bool). t && u) (lt-ltb s.kept 17 (omega (arith, k.many)))
    (lt-ltb s.next 16 (subst⁻¹ (λ (n : ℕ). n < 16) k.number (mod-lt (length Ws) (zero-lt-suc 15))))

counted : (x n : ℕ) → x ≡ n % 16 → (x + 1) % 16 ≡ (n + 1) % 16
counted x n e = omega arith

-- how many of those made are kept, and which is the next: room is left
module _ (s : Sender) (Ws : List (List ℕ)) (W : List ℕ) (k : Keeps s Ws) (w : length W ≡ 17) where
  abbrev more : List (List ℕ)
  more = Ws ++ (W ∷ [])

  more_long : length more ≡ length Ws + 1
  more_long = length-append Ws (W ∷ [])

  sized_more : Seventeens more
  sized_more = seventeens_append Ws (W ∷ []) k.sized (w, tt)

  stored_long : length (stored s) ≡ 17 * s.kept
  stored_long = length-take-le (17 * s.kept) s.blocks (omega (arith, k.many, k.array))

  number_more : next s.next ≡ length more % 16
  number_more = counted s.next (length Ws) k.number ∙ ap (λ (a : ℕ). a % 16) (sym more_long)

  behind : joined (drop (length Ws - 16) more) ≡ stored s ++ W
  behind =
      ap joined (drop-append-le (length Ws - 16) Ws (W ∷ []) (omega arith))
      ∙ joined_append (last_sixteen Ws) (W ∷ [])
      ∙ ap₂ (λ (l m : List ℕ). l ++ m) (sym k.bytes) (append-nil W)

  keeps_added : s.kept < 16 → Keeps (added s W) more
  keeps_added h =
      let few : length Ws < 16 = omega (arith, k.many, h) in
      let lx : length (stored s ++ W) ≡ 17 * (s.kept + 1) = length-append (stored s) W ∙ omega (arith, stored_long, w) in
      let rest : List ℕ = drop (17 * s.kept + 17) s.blocks in
      let z : length Ws - 16 ≡ length more - 16 = omega (arith, more_long, few) in
      record {
        array =
            length-append (stored s ++ W) rest
            ∙ ap₂ (λ (a b : ℕ). a + b) lx (length-drop (17 * s.kept + 17) s.blocks)
            ∙ omega (arith, k.array, h);
        many = omega (arith, more_long, k.many, few);
        number = number_more;
        bytes =
            take_at (stored s ++ W) rest (17 * (s.kept + 1)) lx ∙ sym behind
            ∙ ap (λ (a : ℕ). joined (drop a more)) z;
        sized = sized_more;
      }

  -- sixteen are kept: the oldest goes
  keeps_moved : 16 ≤ s.kept → Keeps (moved_up s W) more
  keeps_moved h =
      let full : s.kept ≡ 16 = omega (arith, k.many, h) in
      let many : 16 ≤ length Ws = omega (arith, k.many, h) in
      let d : drop 17 (stored s) ++ W ≡ drop 17 (stored s ++ W) =
      sym (drop-append-le 17 (stored s) W (omega (arith, stored_long, h))) in
      let ld : length (drop 17 (stored s) ++ W) ≡ 272 =
      length-append (drop 17 (stored s)) W
      ∙ omega (arith, length-drop 17 (stored s), stored_long, full, w) in
      let z : length Ws - 16 + 1 ≡ length more - 16 = omega (arith, more_long, many) in
      record {
        array = ld;
        many = omega (arith, more_long, many);
        number = number_more;
        bytes =
            take_all 272 (drop 17 (stored s) ++ W) (omega (arith, ld)) ∙ d ∙ ap (drop 17) (sym behind)
            ∙ joined_drop 1 (drop (length Ws - 16) more) (seventeens_drop (length Ws - 16) more sized_more)
            ∙ ap joined (drop-drop 1 (length Ws - 16) more) ∙ ap (λ (a : ℕ). joined (drop a more)) z;
        sized = sized_more;
      }

  pub keeps_more : Keeps (keeping s W) more
  keeps_more =
      ⊎_elim
      (λ (h : s.kept < 16). subst⁻¹ (λ (t : Bool). Keeps (cond t (added s W) (moved_up s W)) more)
      (lt-ltb _ _ h) (keeps_added h))
      (λ (h : 16 ≤ s.kept). subst⁻¹ (λ (t : Bool). Keeps (cond t (added s W) (moved_up s W)) more)
      (le-ltb _ _ h) (keeps_moved h)) (apart s.kept 16)

pub keeps_none : Keeps new_sender []
keeps_none = record { array = refl; many = refl; number = refl; bytes = refl; sized = tt }

-- ---- any calls

block_long : (vs : List ℕ) → length vs ≤ 15 → length (block_of vs) ≡ 17
block_long vs h = valid_length (block_of vs) (made_valid vs h)

module _ (s : Sender) (vs O : List ℕ) where
  few : send_number s vs O ≡ 0 → length vs ≤ 15
  few z =
      ⊎_elim
      (λ (h : 15 < length vs). absurd (omega (arith, z, many s vs O (λ (e : length vs ≡ 0). omega (arith, e, h)) h)))
      (λ (h : length vs ≤ 15). h) (apart 15 (length vs))

  keeps_sent : (Ws : List (List ℕ)) (n : ℕ) → send_number s vs O ≡ n → Keeps s Ws
      → Keeps (sent_as n s vs).sender (Ws ++ cond (is_ok (sent_as n s vs).answer) (block_of vs ∷ []) [])
  keeps_sent Ws n e k =
      chosen (λ (t : Sent). Keeps t.sender (Ws ++ cond (is_ok t.answer) (block_of vs ∷ []) [])) (eqb n 0)
      (λ z. keeps_more s Ws (block_of vs) k (block_long vs (few (e ∙ eqb-true n 0 z))))
      (λ z. subst⁻¹ (Keeps s) (append-nil Ws) k)

-- "A repeated request changes no stored block and no next number"
pub resend_same : (s : Sender) (qs O : List ℕ) → (resent_by s qs O).sender ≡ s
resend_same s qs O = refl

-- a byte heard changes nothing of what is kept
keeps_held : (s : Sender) (Ws : List (List ℕ)) (t : Bool) → Keeps s Ws → Keeps (holding s t) Ws
keeps_held s Ws t k =
    record { array = k.array; many = k.many; number = k.number; bytes = k.bytes; sized = k.sized }

keeps_heard : (s : Sender) (Ws : List (List ℕ)) (b : ℕ) → Keeps s Ws → Keeps (heard_by s b).sender Ws
keeps_heard s Ws b k =
    subst⁻¹ (λ (t : Sender). Keeps t Ws) (heard_held s b (keeps_in s Ws k))
    (keeps_held s Ws (eqb b nack) k)

keeps_call : (c : Call) (s : Sender) (Ws : List (List ℕ)) → Keeps s Ws → Keeps (obey c s) (Ws ++ made_by c s)
keeps_call (send vs O) s Ws k = keeps_sent s vs O Ws (send_number s vs O) refl k
keeps_call (resend qs O) s Ws k =
    subst⁻¹ (λ (Us : List (List ℕ)). Keeps (resent_by s qs O).sender Us) (append-nil Ws)
    k
keeps_call (hear b) s Ws k =
    subst⁻¹ (Keeps (heard_by s b).sender) (append-nil Ws) (keeps_heard s Ws b k)

keeps_after : (cs : List Call) (s : Sender) (Ws : List (List ℕ)) → Keeps s Ws → Keeps (after s cs) (Ws ++ made s cs)
keeps_after [] s Ws k = subst⁻¹ (Keeps s) (append-nil Ws) k
keeps_after (c ∷ cs) s Ws k =
    subst (Keeps (after (obey c s) cs)) (append_assoc Ws (made_by c s) (made (obey c s) cs))
    (keeps_after cs (obey c s) (Ws ++ made_by c s) (keeps_call c s Ws k))

pub keeps_all : (cs : List Call) → Keeps (after new_sender cs) (made new_sender cs)
keeps_all cs = keeps_after cs new_sender [] keeps_none

-- ---- values sent, a fifteen after the other

-- each can be sent
abbrev pub Sendable : List (List ℕ) → Type 0
Sendable [] = Unit {0}
Sendable (us ∷ uss) = (0 < length us) × (length us ≤ 15) × Values us × Sendable uss

taken : (s : Sender) (us O : List ℕ) → in_range s ≡ true → 0 < length us → length us ≤ 15 → Values us → 17 ≤ length O
    → send_number s us O ≡ 0
taken s us O g some less v h =
    let n = none_large us v in
    as_made s us O g
    ∙ room us O (λ (e : length us ≡ 0). omega (arith, e, some)) less (omega (arith, n)) h

pub keeps_sends : (O : List ℕ) → 17 ≤ length O → (uss : List (List ℕ)) (s : Sender) (Ws : List (List ℕ)) → Sendable uss
    → Keeps s Ws → Keeps (after s (map (λ (us : List ℕ). send us O) uss)) (Ws ++ map block_of uss)
keeps_sends O h [] s Ws a k = subst⁻¹ (Keeps s) (append-nil Ws) k
keeps_sends O h (us ∷ uss) s Ws a k =
    let t = taken s us O (keeps_in s Ws k) a.0 a.1 a.2 h in
    let W : List ℕ = block_of us in
    let one : Keeps (sent_by s us O).sender (Ws ++ (W ∷ [])) =
    subst⁻¹ (λ (n : ℕ). Keeps (sent_as n s us).sender (Ws ++ (W ∷ []))) t (keeps_more s Ws W k (block_long us a.1)) in
    subst (Keeps (after (sent_by s us O).sender (map (λ (us : List ℕ). send us O) uss)))
    (append_assoc Ws (W ∷ []) (map block_of uss))
    (keeps_sends O h uss (sent_by s us O).sender (Ws ++ (W ∷ [])) a.3 one)
