-- What a sender that has sent blocks answers to a request: SYN, SYN, 4/X and exactly the blocks from that one on.
-- Assumes nothing.
use mathlib.Core.Path.{◌≡◌, refl, sym, ap, ap₂, ◌∙◌, subst⁻¹}
use mathlib.Core.Bool.{Bool, true}
use mathlib.Core.List.{List, [], ◌∷◌, ◌++◌}
use mathlib.Core.Logic.{⊎_elim}
use Prim.Native.Nat.{ℕ, ◌+◌, ◌-◌, ◌*◌, ◌%◌, ◌≤◌, ◌<◌}
use native.Mathlib.Nat.{mod-lt, zero-lt-suc}
use native.Mathlib.Omega.{arith}
use lib.Dec.{T, eqb}
use lib.ListN.{length, take, drop}
use lib.Seq.{take_at, drop-drop}
use borrow.Author.Tests.{eqb-true, lt-ltb}
use Rattle.std.specs.Prelude.{Ok}
use Rattle.laws.proofs.Computed.{apart, is_true, below, at}
use Rattle.block_division.specs.Division.{low_bits}
use Rattle.block_parity.specs.Parity.{ones, with_parity}
use Rattle.line_codes.specs.Codes.{syn, four, request}
use Rattle.line_receiver.specs.Line.{joined}
use Rattle.line_sender.specs.declared.Sender.{Sender}
use Rattle.line_sender.specs.declared.Resent.{Resent}
use Rattle.line_sender.specs.declared.Reply.TheVariants.{Again, NotKept}
use Rattle.line_sender.specs.Calls.{wanted, before, is_kept, from_on, reply_to, written, resent_by, resent_left}
use Rattle.line_sender.specs.Runs.{last_sixteen, answer_to}
use Rattle.line_sender.proofs.Answers.{gives, is_kept_lem, not_kept}
use Rattle.line_sender.proofs.Kept.{Keeps, keeps_in, seventeens_drop, joined_drop, joined_length}

-- ---- 4/X names X

names : ℕ → Bool
names x = eqb (with_parity (64 + x) % 16) x

all_names : T (below names 16)
unfolding names with_parity ones low_bits
all_names = tt

pub four_last : (x : ℕ) → four x % 16 ≡ x % 16
unfolding names
four_last x =
    let t : T (names (x % 16)) = at names 16 all_names (x % 16) (mod-lt x (zero-lt-suc 15)) in
    eqb-true (four x % 16) (x % 16) (is_true (names (x % 16)) t)

-- the number that it names
pub wanted_is : (x : ℕ) → x < 16 → wanted (request x) ≡ x
wanted_is x h = four_last x ∙ omega arith

again_four : (x : ℕ) → four x ≡ four (wanted (request x))
again_four x =
    let e : x % 16 ≡ wanted (request x) % 16 = omega (arith, four_last x) in
    ap (λ (r : ℕ). with_parity (64 + r)) e

-- ---- block m of those sent is among the last sixteen

apart_by : (n t m : ℕ) → n + t ≡ m + 16 → (n % 16 + t) % 16 ≡ m % 16
apart_by n t m e = omega arith

back_to : (x y t : ℕ) → x < 16 → y < 16 → t < 16 → (y + t) % 16 ≡ x → (x + 16 + 16 - y) % 16 ≡ t
back_to x y t hx hy ht e =
    ⊎_elim (λ (h : y + t < 16). let z : x ≡ y + t = omega (arith, e, h) in subst⁻¹ (λ (a : ℕ). (a + 16 + 16 - y) % 16 ≡ t) z (low h))
    (λ (h : 16 ≤ y + t). let z : x ≡ y + t - 16 = omega (arith, e, h) in subst⁻¹ (λ (a : ℕ). (a + 16 + 16 - y) % 16 ≡ t) z (high h))
    (apart (y + t) 16)
  where
    low : y + t < 16 → (y + t + 16 + 16 - y) % 16 ≡ t
    low h = let z : y + t + 16 + 16 - y ≡ t + 32 = omega arith in ap (λ (a : ℕ). a % 16) z ∙ omega (arith, ht)

    high : 16 ≤ y + t → (y + t - 16 + 16 + 16 - y) % 16 ≡ t
    high h = let z : y + t - 16 + 16 + 16 - y ≡ t + 16 = omega arith in ap (λ (a : ℕ). a % 16) z ∙ omega (arith, ht)

where_is : (m n x k y : ℕ) → m < n → n ≤ m + 16 → x ≡ m % 16 → k ≡ n - (n - 16) → y ≡ n % 16
    → (x + k + 16 - y) % 16 ≡ m - (n - 16)
where_is m n x k y h l e f g =
    ⊎_elim
    (λ (c : n < 16). let zx : x ≡ m = omega (arith, e, h, c) in
    let zk : k ≡ n = omega (arith, f, c) in
    let zy : y ≡ n = omega (arith, g, c) in
    let z : x + k + 16 - y ≡ m + 16 = omega (arith, zx, zk, zy) in
    ap (λ (a : ℕ). a % 16) z ∙ few c)
    (λ (c : 16 ≤ n). let zk : k ≡ 16 = omega (arith, f, c) in
    let t : ℕ = m + 16 - n in
    let q : (y + t) % 16 ≡ x =
    ap (λ (a : ℕ). (a + t) % 16) g ∙ apart_by n t m (sum c) ∙ sym e in
    ap (λ (a : ℕ). (x + a + 16 - y) % 16) zk
    ∙ back_to x y t (subst⁻¹ (λ (a : ℕ). a < 16) e (mod-lt m (zero-lt-suc 15)))
    (subst⁻¹ (λ (a : ℕ). a < 16) g (mod-lt n (zero-lt-suc 15))) (below_sixteen c) q ∙ same_place c)
    (apart n 16)
  where
    few : n < 16 → (m + 16) % 16 ≡ m - (n - 16)
    few c = let z : m - (n - 16) ≡ m = omega (arith, c) in omega (arith, z, h, c)

    sum : 16 ≤ n → n + (m + 16 - n) ≡ m + 16
    sum c = omega (arith, l)

    below_sixteen : 16 ≤ n → m + 16 - n < 16
    below_sixteen c = omega (arith, l, h)

    same_place : 16 ≤ n → m + 16 - n ≡ m - (n - 16)
    same_place c = omega (arith, l, h, c)

module _ (s : Sender) (Ws : List (List ℕ)) (k : Keeps s Ws) (m : ℕ) (h : m < length Ws) (l : length Ws ≤ m + 16) where
  before_is : before s (wanted (request (m % 16))) ≡ m - (length Ws - 16)
  before_is =
      where_is m (length Ws) (wanted (request (m % 16))) s.kept s.next h l
      (wanted_is (m % 16) (mod-lt m (zero-lt-suc 15))) k.many k.number

  pub from_it : from_on s (wanted (request (m % 16))) ≡ syn ∷ syn ∷ four (m % 16) ∷ joined (drop m Ws)
  from_it =
      let n : ℕ = length Ws in
      let e : n - 16 + (m - (n - 16)) ≡ m = omega (arith, h, l) in
      ap₂ (λ (c : ℕ) (bs : List ℕ). syn ∷ syn ∷ c ∷ bs) (sym (again_four (m % 16)))
      (ap₂ (λ (b : ℕ) (bs : List ℕ). drop (17 * b) bs) before_is k.bytes
      ∙ joined_drop (m - (n - 16)) (last_sixteen Ws) (seventeens_drop (n - 16) Ws k.sized)
      ∙ ap joined (drop-drop (m - (n - 16)) (n - 16) Ws ∙ ap (λ (a : ℕ). drop a Ws) e))

  abbrev answer : List ℕ
  answer = syn ∷ syn ∷ four (m % 16) ∷ joined (drop m Ws)

  found : reply_to s (request (m % 16)) ≡ Again (length (from_on s (wanted (request (m % 16)))))
  found =
      is_kept_lem s (request (m % 16)) [] refl (again_four (m % 16))
      (subst⁻¹ (λ (b : ℕ). b < s.kept) before_is (omega (arith, h, l, k.many)))

  -- the answer, whole
  pub answered : (O : List ℕ) → length answer ≤ length O
      → (resent_by s (request (m % 16)) O
      ≡ record { sender = s; reply = Ok (Again (length answer)) })
      × (resent_left s (request (m % 16)) O ≡ answer ++ drop (length answer) O)
  answered O r =
      let g = gives s (request (m % 16)) O refl (keeps_in s Ws k)
      (Again (length (from_on s (wanted (request (m % 16)))))) found
      (subst⁻¹ (λ (bs : List ℕ). length bs ≤ length O) from_it r) in (
        sym g.0 ∙ ap (λ (bs : List ℕ). record { sender = s; reply = Ok (Again (length bs)) }) from_it,
        sym g.1 ∙ ap (λ (bs : List ℕ). bs ++ drop (length bs) O) from_it,
      )

  pub answer_is : (O : List ℕ) → length answer ≤ length O → answer_to s (request (m % 16)) O ≡ answer
  answer_is O r =
      let g = answered O r in
      ap₂ (λ (c : Resent) (bs : List ℕ). take (written c.reply) bs) g.0 g.1
      ∙ take_at answer (drop (length answer) O) (length answer) refl

  -- 3 bytes and 17 for each block: sixteen at most
  pub answer_long : length answer ≡ 3 + 17 * length (drop m Ws)
  answer_long = omega (arith, joined_length (drop m Ws) (seventeens_drop m Ws k.sized))

-- ---- a number not kept: before the sixteenth block

module _ (s : Sender) (Ws : List (List ℕ)) (k : Keeps s Ws) (x : ℕ) (h : length Ws ≤ x) (l : x < 16) where
  past_is : (w a b : ℕ) → w ≡ x → a ≡ length Ws - (length Ws - 16) → b ≡ length Ws % 16 → a ≤ (w + a + 16 - b) % 16
  past_is w a b e f g =
      let n : ℕ = length Ws in
      let za : a ≡ n = omega (arith, f, h, l) in
      let zb : b ≡ n = omega (arith, g, h, l) in
      let z : w + a + 16 - b ≡ x + 16 = omega (arith, e, za, zb) in
      subst⁻¹ (λ (c : ℕ). a ≤ c % 16) z (omega (arith, za, h, l))

  pub none_kept : (O : List ℕ)
      → (resent_by s (request x) O ≡ record { sender = s; reply = Ok NotKept })
      × (resent_left s (request x) O ≡ O)
  none_kept O =
      let e : reply_to s (request x) ≡ NotKept =
      not_kept s (request x) [] refl (again_four x)
      (past_is (wanted (request x)) s.kept s.next (wanted_is x l) k.many k.number) in
      let g = gives s (request x) O refl (keeps_in s Ws k) NotKept e (omega arith) in
      (sym g.0, sym g.1)

-- once sixteen are made every number is kept
pub every_kept : (s : Sender) (Ws : List (List ℕ)) → Keeps s Ws → 16 ≤ length Ws → (x : ℕ) → is_kept s x ≡ true
every_kept s Ws k h x =
    lt-ltb (before s x) s.kept
    (subst⁻¹ (λ (n : ℕ). before s x < n) (full s.kept k.many) (mod-lt (x + s.kept + 16 - s.next) (zero-lt-suc 15)))
  where
    full : (n : ℕ) → n ≡ length Ws - (length Ws - 16) → n ≡ 16
    full n e = omega (arith, e, h)
