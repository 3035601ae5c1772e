-- The codes carry parity, and counting the synchronising ones to two is looking at the last three bytes. Assumes
-- nothing.
use mathlib.Core.Path.{◌≡◌, refl, sym, ap, ap₂, ◌∙◌, subst, subst⁻¹}
use mathlib.Core.Bool.{Bool, true, false, cond, not}
use mathlib.Core.List.{List, [], ◌∷◌, ◌++◌, append_assoc, append-nil}
use mathlib.Core.Logic.{◌⊎◌, inl, inr}
use Prim.Native.Nat.{ℕ, zero, suc, ◌+◌, ◌%◌, ◌<◌}
use native.Mathlib.Nat.{mod-lt, zero-lt-suc}
use native.Mathlib.Omega.{arith}
use lib.Dec.{T, ltb, eqb}
use lib.ListN.{replicate}
use borrow.Author.Tests.{le-ltb, ltb-true, eq-eqb, ne_eqb, eqb-true, eqb-false}
use Rattle.laws.proofs.Computed.{below, at}
use Rattle.laws.proofs.Lists.{nil_cons, snoc_inj, beginning}
use Rattle.block_division.specs.Division.{low_bits}
use Rattle.block_parity.specs.Parity.{ones, with_parity}
use Rattle.line_codes.specs.declared.Listened.{Listened}
use Rattle.line_codes.specs.declared.Listened.TheVariants.{Seen, Resumed}
use Rattle.line_codes.specs.Codes.{syn, nack, four, one_more, listened, Ends, Nowhere}

-- ---- the codes

pub codes_carry_parity : (syn ≡ with_parity 22) × (nack ≡ with_parity 21)
unfolding with_parity ones low_bits
codes_carry_parity = (refl, refl)

other : ℕ → Bool
other x = not (eqb syn (four x))

all_other : T (below other 16)
unfolding other with_parity ones low_bits
all_other = tt

four_row : (x : ℕ) → four x ≡ four (x % 16)
four_row x = let e : x % 16 ≡ x % 16 % 16 = omega arith in ap (λ (r : ℕ). with_parity (64 + r)) e

-- SYN is no 4/X
syn_four : (x : ℕ) → syn ≡ four x → ⊥
unfolding other
syn_four x e =
    subst (λ (t : Bool). T (not t)) (eq-eqb syn (four (x % 16)) (e ∙ four_row x))
    (at other 16 all_other (x % 16) (mod-lt x (zero-lt-suc 15)))

-- ---- a byte while a block is awaited

-- a SYN behind two leaves two
two_more : (m : ℕ) → one_more (one_more m) ≡ 2
two_more zero = refl
two_more (suc zero) = refl
two_more (suc (suc m)) =
    ap one_more (ap (λ (t : Bool). cond t (suc (suc m) + 1) 2) (le-ltb (suc (suc m)) 2 (omega arith)))

-- a SYN counts
after_syn : (x n : ℕ) → listened x n syn ≡ Seen (one_more n)
after_syn x n = refl

-- behind two of them 4/X of the awaited number resumes, whichever it is
after_two : (x : ℕ) → listened x 2 (four x) ≡ Resumed
after_two x = simp (ne_eqb (four x) syn (λ e. syn_four x (sym e)), eq-eqb (four x) (four x) refl)

-- and anything else is as though nothing had been seen
after_other : (x n b : ℕ) → (b ≡ syn → ⊥) → (n ≡ 2 → b ≡ four x → ⊥) → listened x n b ≡ Seen 0
after_other x n b ns nr = go (eqb n 2) refl
  where
    go : (t : Bool) → eqb n 2 ≡ t → listened x n b ≡ Seen 0
    go true e = simp (ne_eqb b syn ns, e, ne_eqb b (four x) (nr (eqb-true n 2 e)))
    go false e = simp (ne_eqb b syn ns, e)

data Listens (x n b : ℕ) : Listened → Type 0 where
  synchronises : b ≡ syn → Listens x n b (Seen (one_more n))
  names : n ≡ 2 → b ≡ four x → Listens x n b Resumed
  elsewise : (b ≡ syn → ⊥) → (n ≡ 2 → b ≡ four x → ⊥) → Listens x n b (Seen 0)

listens : (x n b : ℕ) → Listens x n b (listened x n b)
listens x n b = first (eqb b syn) refl
  where
    otherwise : (b ≡ syn → ⊥) → (n ≡ 2 → b ≡ four x → ⊥) → Listens x n b (listened x n b)
    otherwise ns nr = subst⁻¹ (Listens x n b) (after_other x n b ns nr) (elsewise ns nr)

    last : (t u : Bool) → eqb n 2 ≡ t → eqb b (four x) ≡ u → (b ≡ syn → ⊥) → Listens x n b (listened x n b)
    last true true e f ns =
        let p : n ≡ 2 = eqb-true n 2 e in
        let q : b ≡ four x = eqb-true b (four x) f in
        subst⁻¹ (Listens x n b) (ap₂ (listened x) p q ∙ after_two x) (names p q)
    last true false e f ns = otherwise ns (λ p q. eqb-false b (four x) f q)
    last false u e f ns = otherwise ns (λ p q. eqb-false n 2 e p)

    first : (t : Bool) → eqb b syn ≡ t → Listens x n b (listened x n b)
    first true e =
        let p : b ≡ syn = eqb-true b syn e in
        subst⁻¹ (Listens x n b) (ap (listened x n) p ∙ after_syn x n) (synchronises p)
    first false e = last (eqb n 2) (eqb b (four x)) refl refl (eqb-false b syn e)

-- ---- the codes seen at the end of bytes

-- after one byte more
abbrev seen_after : ℕ → ℕ → ℕ
seen_after n b = cond (eqb b syn) (one_more n) 0

from : ℕ → List ℕ → ℕ
from n [] = n
from n (b ∷ bs) = from (seen_after n b) bs

pub seen_in : List ℕ → ℕ
seen_in ws = from 0 ws

from_append : (n : ℕ) (us vs : List ℕ) → from n (us ++ vs) ≡ from (from n us) vs
unfolding from
from_append n [] vs = refl
from_append n (u ∷ us) vs = from_append (seen_after n u) us vs

seen_snoc : (ws : List ℕ) (b : ℕ) → seen_in (ws ++ (b ∷ [])) ≡ seen_after (seen_in ws) b
unfolding seen_in from
seen_snoc ws b = from_append 0 ws (b ∷ [])

-- n of them, and nothing else
pub seen_syns : (n : ℕ) → n < 3 → seen_in (replicate n syn) ≡ n
unfolding seen_in from
seen_syns zero h = refl
seen_syns (suc zero) h = refl
seen_syns (suc (suc zero)) h = refl
seen_syns (suc (suc (suc n))) h = absurd (omega (arith, h))

-- ---- two are seen exactly where the bytes end in SYN, SYN

-- the bytes end in so many
Tail : ℕ → List ℕ → Type 0
Tail zero ws = Unit {0}
Tail (suc zero) ws = (us : List ℕ) × (ws ≡ us ++ (syn ∷ []))
Tail (suc (suc zero)) ws = (us : List ℕ) × (ws ≡ us ++ (syn ∷ syn ∷ []))
Tail (suc (suc (suc n))) ws = ⊥

tail_more : (n : ℕ) (ws : List ℕ) → Tail n ws → Tail (one_more n) (ws ++ (syn ∷ []))
unfolding Tail
tail_more zero ws t = (ws, refl)
tail_more (suc zero) ws t =
    (t.0, ap (λ (l : List ℕ). l ++ (syn ∷ [])) t.1 ∙ append_assoc t.0 (syn ∷ []) (syn ∷ []))
tail_more (suc (suc zero)) ws t = (
  t.0 ++ (syn ∷ []),
  ap (λ (l : List ℕ). l ++ (syn ∷ [])) t.1 ∙ append_assoc t.0 (syn ∷ syn ∷ []) (syn ∷ [])
      ∙ sym (append_assoc t.0 (syn ∷ []) (syn ∷ syn ∷ [])),
)
tail_more (suc (suc (suc n))) ws t = absurd t

tail_after : (n b : ℕ) (ws : List ℕ) → Tail n ws → Tail (seen_after n b) (ws ++ (b ∷ []))
unfolding Tail
tail_after n b ws t = go (eqb b syn) refl
  where
    go : (u : Bool) → eqb b syn ≡ u → Tail (cond u (one_more n) 0) (ws ++ (b ∷ []))
    go true e = subst⁻¹ (λ (c : ℕ). Tail (one_more n) (ws ++ (c ∷ []))) (eqb-true b syn e) (tail_more n ws t)
    go false e = tt

tail_from : (n : ℕ) (us ws : List ℕ) → Tail n us → Tail (from n ws) (us ++ ws)
unfolding from
tail_from n us [] t = subst⁻¹ (Tail n) (append-nil us) t
tail_from n us (b ∷ ws) t =
    subst (Tail (from (seen_after n b) ws)) (append_assoc us (b ∷ []) ws)
    (tail_from (seen_after n b) (us ++ (b ∷ [])) ws (tail_after n b us t))

tail_seen : (ws : List ℕ) → Tail (seen_in ws) ws
unfolding seen_in Tail
tail_seen ws = tail_from 0 [] ws tt

two_at : (n : ℕ) (ws : List ℕ) → n ≡ 2 → Tail n ws → (us : List ℕ) × (ws ≡ us ++ (syn ∷ syn ∷ []))
unfolding Tail
two_at n ws e t = subst (λ (m : ℕ). Tail m ws) e t

two_seen : (us : List ℕ) → seen_in (us ++ (syn ∷ syn ∷ [])) ≡ 2
unfolding seen_in from
two_seen us = from_append 0 us (syn ∷ syn ∷ []) ∙ two_more (from 0 us)

-- ---- the last three

ends_last : (x : ℕ) (ws : List ℕ) (b : ℕ) → Ends x (ws ++ (b ∷ [])) → (seen_in ws ≡ 2) × (b ≡ four x)
ends_last x ws b e =
    let p = snoc_inj ws (e.0 ++ (syn ∷ syn ∷ [])) b (four x)
    (e.1 ∙ sym (append_assoc e.0 (syn ∷ syn ∷ []) (four x ∷ []))) in
    (ap seen_in p.0 ∙ two_seen e.0, p.1)

last_ends : (x : ℕ) (ws : List ℕ) (b : ℕ) → seen_in ws ≡ 2 → b ≡ four x → Ends x (ws ++ (b ∷ []))
last_ends x ws b s e =
    let p = two_at (seen_in ws) ws s (tail_seen ws) in (
      p.0,
      ap₂ (λ (l : List ℕ) (c : ℕ). l ++ (c ∷ [])) p.1 e ∙ append_assoc p.0 (syn ∷ syn ∷ []) (four x ∷ []),
    )

-- a byte ends the waiting exactly where the last three are SYN, SYN, 4/X; else the codes at the end are counted on
abbrev pub Heard : ℕ → List ℕ → ℕ → Listened → Type 0
Heard x ws b l =
    (Ends x (ws ++ (b ∷ [])) × (l ≡ Resumed))
    ⊎ ((Ends x (ws ++ (b ∷ [])) → ⊥) × (l ≡ Seen (seen_in (ws ++ (b ∷ [])))))

pub heard : (x : ℕ) (ws : List ℕ) (b : ℕ) → Heard x ws b (listened x (seen_in ws) b)
heard x ws b = go (listens x (seen_in ws) b)
  where
    counted : {t : Bool} → eqb b syn ≡ t → Seen (cond t (one_more (seen_in ws)) 0) ≡ Seen (seen_in (ws ++ (b ∷ [])))
    counted e =
        ap Seen (ap (λ (t : Bool). cond t (one_more (seen_in ws)) 0) (sym e) ∙ sym (seen_snoc ws b))

    go : {l : Listened} → Listens x (seen_in ws) b l → Heard x ws b l
    go (synchronises e) = inr (λ d. syn_four x (sym e ∙ (ends_last x ws b d).1), counted (eq-eqb b syn e))
    go (names p q) = inl (last_ends x ws b p q, refl)
    go (elsewise ns nr) =
        inr (λ d. let p = ends_last x ws b d in nr p.0 p.1, counted (ne_eqb b syn ns))

pub ended : (x : ℕ) (ws : List ℕ) (b : ℕ) → Ends x (ws ++ (b ∷ [])) → listened x (seen_in ws) b ≡ Resumed
ended x ws b d = by (heard x ws b)
  where
    by : Heard x ws b (listened x (seen_in ws) b) → listened x (seen_in ws) b ≡ Resumed
    by (inl p) = p.1
    by (inr p) = absurd (p.0 d)

-- ---- where they stand nowhere

-- no beginning of the bytes ends in them
pub never : (x : ℕ) (ws vs us : List ℕ) → Nowhere x ws → ws ≡ vs ++ us → Ends x vs → ⊥
never x ws vs us n e d =
    n d.0 us (e ∙ ap (λ (l : List ℕ). l ++ us) d.1 ∙ append_assoc d.0 (syn ∷ syn ∷ four x ∷ []) us)

-- a SYN more does not bring them
pub nowhere_syn : (x : ℕ) (ws : List ℕ) → Nowhere x ws → Nowhere x (ws ++ (syn ∷ []))
nowhere_syn x ws n us vs e =
    go (beginning ws syn (us ++ (syn ∷ syn ∷ four x ∷ [])) vs (e ∙ sym (append_assoc us (syn ∷ syn ∷ four x ∷ []) vs)))
  where
    go : (vs ≡ []) ⊎ ((ts : List ℕ) × (ws ≡ us ++ (syn ∷ syn ∷ four x ∷ []) ++ ts)) → ⊥
    go (inl z) = syn_four x (ends_last x ws syn (us, e ∙ ap (λ (l : List ℕ). us ++ (syn ∷ syn ∷ four x ∷ l)) z)).1
    go (inr p) = n us p.0 (p.1 ∙ append_assoc us (syn ∷ syn ∷ four x ∷ []) p.0)

pub nowhere_none : (x : ℕ) → Nowhere x []
nowhere_none x [] vs e = nil_cons e
nowhere_none x (u ∷ us) vs e = nil_cons e

-- ---- what is seen is below three

abbrev pub SeenBelow : ℕ → Listened → Type 0
SeenBelow m (Seen n) = n < m
SeenBelow m Resumed = Unit {0}

pub listened_lt : (x n b : ℕ) → SeenBelow 3 (listened x n b)
listened_lt x n b = go (listens x n b)
  where
    more : (t : Bool) → ltb n 2 ≡ t → cond t (n + 1) 2 < 3
    more true e = let h : n < 2 = ltb-true n 2 e in omega arith
    more false e = omega arith

    go : {l : Listened} → Listens x n b l → SeenBelow 3 l
    go (synchronises e) = more (ltb n 2) refl
    go (names p q) = tt
    go (elsewise ns nr) = omega arith
