-- What a call of the sender that is not refused hands back and leaves, and the number of one that is. Assumes nothing.
use mathlib.Core.Path.{◌≡◌, sym, ap, ap₂, ◌∙◌, subst}
use mathlib.Core.Bool.{Bool, true, cond, ◌&&◌, ◌||◌, not}
use mathlib.Core.List.{List, ◌∷◌, ◌++◌}
use Prim.Native.Nat.{ℕ, ◌+◌, ◌-◌, ◌*◌, ◌≤◌, ◌<◌}
use native.Mathlib.Omega.{arith}
use lib.Dec.{eqb, ltb}
use lib.ListN.{length, get_or, take, drop, length-drop}
use lib.Seq.{length-take-le}
use borrow.Author.Tests.{lt-ltb, le-ltb, eq-eqb, ne_eqb, ltb-true}
use Rattle.laws.proofs.Computed.{and_left, is_true, holds}
use Rattle.std.specs.Prelude.{Ok, slice_range}
use Rattle.std.proofs.lemmas.List.{drop-take}
use Rattle.values.specs.Large.{first_large}
use Rattle.block_maker.specs.Making.{block_of, make_number}
use Rattle.line_codes.specs.Codes.{syn, nack, four}
use Rattle.line_sender.specs.declared.Sender.{Sender}
use Rattle.line_sender.specs.declared.Reply.{Reply}
use Rattle.line_sender.specs.declared.Reply.TheVariants.{Again, NotKept, NoRequest}
use Rattle.line_sender.specs.States.{in_range, stored, keeping}
use Rattle.line_sender.specs.Calls.{send_number, sent_as, sent_by, sent_left, wanted, before, is_kept}
use Rattle.line_sender.specs.Calls.{from_on, reply_to, bytes_for, bytes_to, resend_number, reply_as, resent_by}
use Rattle.line_sender.specs.Calls.{resent_left}

pub kept_in : (s : Sender) → in_range s ≡ true → s.kept < 17
kept_in s g =
    ltb-true s.kept 17 (is_true (ltb s.kept 17) (and_left (ltb s.kept 17) (ltb s.next 16) (holds g)))

-- ---- send

module _ (s : Sender) (vs O : List ℕ) where
  pub many : (length vs ≡ 0 → ⊥) → 15 < length vs → send_number s vs O ≡ 1
  many some h = simp (ne_eqb _ _ some, lt-ltb _ _ h)

  -- in range the number is the maker's
  pub as_made : in_range s ≡ true → send_number s vs O ≡ make_number vs O
  as_made g =
      ap (λ (t : Bool). cond (eqb (length vs) 0 || ltb 15 (length vs)) 1 (cond (not t) 5
      (cond (ltb (first_large vs) (length vs)) 2 (cond (ltb (length O) 17) 4 0)))) g

  pub taken_sent : send_number s vs O ≡ 0
      → record { sender = keeping s (block_of vs); answer = Ok tt } ≡ sent_by s vs O
  taken_sent e = ap (λ (n : ℕ). sent_as n s vs) (sym e)

  pub taken_left : send_number s vs O ≡ 0 → block_of vs ++ drop 17 O ≡ sent_left s vs O
  taken_left e = ap (λ (n : ℕ). cond (eqb n 0) (block_of vs ++ drop 17 O) O) (sym e)

-- ---- resend

module _ (s : Sender) (qs O : List ℕ) where
  module _ (two : length qs ≡ 2) (g : in_range s ≡ true) where
    by_room : resend_number s qs O ≡ cond (ltb (length O) (length (bytes_to s qs))) 4 0
    by_room =
        ap₂ (λ (t u : Bool). cond (not t) 1 (cond (not u) 5 (cond (ltb (length O) (length (bytes_to s qs))) 4 0)))
        (eq-eqb (length qs) 2 two) g

    module _ (p : Reply) (e : reply_to s qs ≡ p) where
      replied : resend_number s qs O ≡ cond (ltb (length O) (length (bytes_for p s (wanted qs)))) 4 0
      replied =
          by_room ∙ ap (λ (q : Reply). cond (ltb (length O) (length (bytes_for q s (wanted qs)))) 4 0) e

      pub gives : length (bytes_for p s (wanted qs)) ≤ length O
          → (record { sender = s; reply = Ok p } ≡ resent_by s qs O)
          × (bytes_for p s (wanted qs) ++ drop (length (bytes_for p s (wanted qs))) O ≡ resent_left s qs O)
      gives h =
          let z : resend_number s qs O ≡ 0 = replied ∙ ap (λ (t : Bool). cond t 4 0) (le-ltb _ _ h) in (
            ap (λ (q : Reply). record { sender = s; reply = Ok q }) (sym e)
                ∙ ap (λ (n : ℕ). record { sender = s; reply = reply_as n s qs }) (sym z),
            ap (λ (q : Reply). bytes_for q s (wanted qs) ++ drop (length (bytes_for q s (wanted qs))) O) (sym e)
                ∙ ap (λ (n : ℕ). cond (eqb n 0) (bytes_to s qs ++ drop (length (bytes_to s qs)) O) O) (sym z),
          )

  -- ---- which reply

  abbrev choice : Bool → Bool → Reply
  choice t u = cond t (cond u (Again (length (from_on s (wanted qs)))) NotKept) NoRequest

  module _ (a : get_or qs 0 0 ≡ nack) (b : get_or qs 1 0 ≡ four (wanted qs)) where
    kept_or_not : reply_to s qs ≡ choice true (is_kept s (wanted qs))
    kept_or_not = ap₂ (λ (t u : Bool). choice (t && u) (is_kept s (wanted qs))) (eq-eqb _ _ a) (eq-eqb _ _ b)

    pub not_kept : s.kept ≤ before s (wanted qs) → reply_to s qs ≡ NotKept
    not_kept h = kept_or_not ∙ ap (choice true) (le-ltb _ _ h)

    pub is_kept_lem : before s (wanted qs) < s.kept
        → reply_to s qs ≡ Again (length (from_on s (wanted qs)))
    is_kept_lem h = kept_or_not ∙ ap (choice true) (lt-ltb _ _ h)

-- ---- the bytes

-- SYN, SYN, the code, and seventeen for each block from the one named on
pub from_length : (s : Sender) (x : ℕ) → s.kept < 17 → length s.blocks ≡ 272 → before s x < s.kept
    → length (from_on s x) ≡ 3 + 17 * (s.kept - before s x)
from_length s x k l h =
    let b : ℕ = before s x in
    let t : length (stored s) ≡ 17 * s.kept = length-take-le (17 * s.kept) s.blocks (omega (arith, k, l)) in
    omega (arith, length-drop (17 * b) (stored s), t, h)

module _ (s : Sender) (qs O : List ℕ) (two : length qs ≡ 2) (g : in_range s ≡ true) where
  -- the blocks from the one named on, where they stand in the array
  abbrev from_there : List ℕ
  from_there = slice_range s.blocks (17 * before s (wanted qs)) (17 * s.kept)

  -- a request for them is answered with these
  pub again : get_or qs 0 0 ≡ nack → get_or qs 1 0 ≡ four (wanted qs) → before s (wanted qs) < s.kept
      → 3 + length from_there ≤ length O
      → (syn ∷ syn ∷ get_or qs 1 0 ∷ from_there) ++ drop (3 + length from_there) O ≡ resent_left s qs O
  again a b h room =
      let x : ℕ = wanted qs in
      let found : reply_to s qs ≡ Again (length (from_on s x)) = is_kept_lem s qs O a b h in
      let k : ℕ = before s x in
      let n : 17 * k + (17 * s.kept - 17 * k) ≡ 17 * s.kept = omega (arith, h) in
      let rest : from_there ≡ drop (17 * k) (stored s) =
      sym (drop-take (17 * k) (17 * s.kept - 17 * k) s.blocks) ∙ ap (λ (m : ℕ). drop (17 * k) (take m s.blocks)) n in
      let bytes : List ℕ = syn ∷ syn ∷ get_or qs 1 0 ∷ from_there in
      let long : 3 + length from_there ≡ length bytes = omega arith in
      let whole : bytes ≡ from_on s x = ap₂ (λ (c : ℕ) (bs : List ℕ). syn ∷ syn ∷ c ∷ bs) b rest in
      ap (λ (n : ℕ). bytes ++ drop n O) long ∙ ap (λ (bs : List ℕ). bs ++ drop (length bs) O) whole
      ∙ (gives s qs O two g (Again (length (from_on s x))) found
      (subst (λ (bs : List ℕ). length bs ≤ length O) whole (subst (λ (n : ℕ). n ≤ length O) long room))).1
