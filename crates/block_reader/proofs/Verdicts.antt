-- The one door for every judge: the verdict that is right is the judged one. With it demand 3: what is handed on is
-- the only valid block near, and a repeat is asked exactly when there is none. Each law holds for any number of
-- mendable bits up to 136. Assumes nothing.
use mathlib.Core.Path.{◌≡◌, refl, sym, ap, ◌∙◌, subst, subst⁻¹}
use mathlib.Core.Bool.{Bool, true, false, cond, ◌&&◌, ◌||◌, not, and-false}
use mathlib.Core.List.{List, ◌∷◌}
use mathlib.Core.Logic.{⊎_elim, ◌↔◌}
use Prim.Native.Nat.{ℕ, zero, suc, ◌+◌, ◌%◌, ◌≤◌, ◌<◌}
use native.Mathlib.Nat.{eq-or-lt_of_le}
use native.Mathlib.Omega.{arith}
use lib.Dec.{T, eqb}
use lib.ListN.{length}
use borrow.Author.Tests.{eqb-true, eqb-false, eq-eqb, ne_eqb}
use Rattle.laws.proofs.Computed.{holds, fails, is_true}
use Rattle.numbers.specs.Numbers.{number_of}
use Rattle.block_validity.specs.Block.{valid, Valid}
use Rattle.block_validity.specs.Changed.{flip, hits, Places, Near, same, changed}
use Rattle.block_validity.proofs.Flips.{flip_length, flip_flip}
use Rattle.block_validity.proofs.Validity.{valid_length}
use Rattle.block_validity.proofs.Alone.{flipped_length, hit_once, hit_twice, hit_thrice, hit_odd, one_place}
use Rattle.block_reader.specs.declared.Verdict.{Verdict}
use Rattle.block_reader.specs.declared.Verdict.TheVariants.{Clean, Mended, Repeat, WrongLength}
use Rattle.block_reader.specs.Judging.{mendable, try_from, verdict, told, judged, left_by, left}
use Rattle.block_reader.specs.Judging.{one_mends, judge_conditions}
use Rattle.block_reader.specs.Claims.{NoneNear, Right, OnlyNear}

-- ---- the search finds the first bit that mends, if there is one

Found : ℕ → ℕ → List ℕ → Verdict → Type 0
Found k n B Clean = ⊥
Found k n B (Mended j) = (k ≤ j) × (j < k + n) × Valid (flip j B)
Found k n B Repeat = (j : ℕ) → k ≤ j → j < k + n → Valid (flip j B) → ⊥
Found k n B WrongLength = ⊥

found : (k n : ℕ) (B : List ℕ) → Found k n B (try_from k n B)
unfolding try_from Found
found k zero B = λ j h l v. omega arith
found k (suc n) B = go (valid (flip k B)) refl (try_from (suc k) n B) (found (suc k) n B)
  where
    later : (w : Verdict) → (Valid (flip k B) → ⊥) → Found (suc k) n B w → Found k (suc n) B w
    later Clean ne f = f
    later WrongLength ne f = f
    later (Mended j) ne f = (omega (arith, f.0), omega (arith, f.1), f.2)
    later Repeat ne f =
        λ j h l v. ⊎_elim (λ (e : k ≡ j). ne (subst⁻¹ (λ (i : ℕ). Valid (flip i B)) e v))
        (λ (g : k < j). f j g (omega (arith, l)) v) (eq-or-lt_of_le h)

    go : (t : Bool) → valid (flip k B) ≡ t → (w : Verdict) → Found (suc k) n B w
        → Found k (suc n) B (cond t (Mended k) w)
    go true e w f = (omega arith, omega arith, holds e)
    go false e w f = later w (fails e) f

-- ---- the verdict is right

pub is_right : (B : List ℕ) → Right B (verdict B)
unfolding verdict Found
is_right B = long (eqb (length B) 17) refl
  where
    none : (Valid B → ⊥) → ((j : ℕ) → 0 ≤ j → j < 0 + mendable → Valid (flip j B) → ⊥)
        → {C : List ℕ} → Near mendable B C → Valid C → ⊥
    none ne f same v = ne v
    none ne f (changed k h) v = f k (omega arith) (omega (arith, h)) v

    turn : length B ≡ 17 → (Valid B → ⊥) → (w : Verdict) → Found 0 mendable B w → Right B w
    turn e ne Clean f = absurd f
    turn e ne WrongLength f = absurd f
    turn e ne (Mended j) f = (omega (arith, f.1), f.2)
    turn e ne Repeat f = (e, λ C n v. none ne f n v)

    go : length B ≡ 17 → (t : Bool) → valid B ≡ t → Right B (cond t Clean (try_from 0 mendable B))
    go l true e = holds e
    go l false e = turn l (fails e) (try_from 0 mendable B) (found 0 mendable B)

    long : (t : Bool) → eqb (length B) 17 ≡ t
        → Right B (cond t (cond (valid B) Clean (try_from 0 mendable B)) WrongLength)
    long true e = go (eqb-true (length B) 17 e) (valid B) refl
    long false e = eqb-false (length B) 17 e

-- and no other is
one_right : (B : List ℕ) (v w : Verdict) → Right B v → Right B w → v ≡ w
one_right B Clean Clean p q = refl
one_right B Clean (Mended j) p q = absurd (hit_once j B (omega (arith, q.0)) p q.1)
one_right B Clean Repeat p q = absurd (q.1 B same p)
one_right B Clean WrongLength p q = absurd (q (valid_length B p))
one_right B (Mended i) Clean p q = absurd (hit_once i B (omega (arith, p.0)) q p.1)
one_right B (Mended i) (Mended j) p q =
    ap Mended (one_place i j B (omega (arith, p.0)) (omega (arith, q.0)) p.1 q.1)
one_right B (Mended i) Repeat p q = absurd (q.1 (flip i B) (changed i p.0) p.1)
one_right B (Mended i) WrongLength p q = absurd (q (flipped_length i B p.1))
one_right B Repeat Clean p q = absurd (p.1 B same q)
one_right B Repeat (Mended j) p q = absurd (p.1 (flip j B) (changed j q.0) q.1)
one_right B Repeat Repeat p q = refl
one_right B Repeat WrongLength p q = absurd (q p.0)
one_right B WrongLength Clean p q = absurd (p (valid_length B q))
one_right B WrongLength (Mended j) p q = absurd (p (flipped_length j B q.1))
one_right B WrongLength Repeat p q = absurd (p q.0)
one_right B WrongLength WrongLength p q = refl

pub right_is : (B : List ℕ) (v : Verdict) → Right B v → verdict B ≡ v
right_is B v p = one_right B (verdict B) v (is_right B) p

-- what a right verdict tells and leaves
pub settled : (B : List ℕ) (v : Verdict) {C : List ℕ} → Right B v → C ≡ left_by v B → (told v ≡ judged B) × (C ≡ left B)
unfolding judged left
settled B v r e =
    let j : v ≡ verdict B = sym (right_is B v r) in (ap told j, e ∙ ap (λ (w : Verdict). left_by w B) j)

-- ---- demand 3

only_left : (B : List ℕ) (w : Verdict) → length B ≡ 17 → Right B w → (w ≡ Repeat → ⊥) → OnlyNear B (left_by w B)
only_left B Clean l p ne = record { is_valid = p; near = same; only = λ D n v. go n v }
  where
    go : {D : List ℕ} → Near mendable B D → Valid D → D ≡ B
    go same v = refl
    go (changed k h) v = absurd (hit_once k B (omega (arith, h)) p v)
only_left B (Mended j) l p ne = record { is_valid = p.1; near = changed j p.0; only = λ D n v. go n v }
  where
    go : {D : List ℕ} → Near mendable B D → Valid D → D ≡ flip j B
    go same v = absurd (hit_once j B (omega (arith, p.0)) v p.1)
    go (changed k h) v =
        ap (λ (i : ℕ). flip i B) (one_place k j B (omega (arith, h)) (omega (arith, p.0)) v p.1)
only_left B Repeat l p ne = absurd (ne refl)
only_left B WrongLength l p ne = absurd (p l)

pub handed_on : (B : List ℕ) → length B ≡ 17 → (verdict B ≡ Repeat → ⊥) → OnlyNear B (left B)
unfolding left
handed_on B l ne = only_left B (verdict B) l (is_right B) ne

pub asked_when_none : (B : List ℕ) → length B ≡ 17 → verdict B ≡ Repeat ↔ NoneNear B
asked_when_none B l = (λ e. (subst (Right B) e (is_right B)).1, λ f. right_is B Repeat (l, f))

-- a valid block hit once among the mendable bits comes back whole
pub once_whole : (W : List ℕ) (k : ℕ) → Valid W → k < mendable
    → (verdict (flip k W) ≡ Mended k) × (left (flip k W) ≡ W)
unfolding left
once_whole W k v h =
    let back : flip k (flip k W) ≡ W = flip_flip k W (omega (arith, h)) (valid_length W v) in
    let e : verdict (flip k W) ≡ Mended k = right_is (flip k W) (Mended k) (h, subst⁻¹ Valid back v) in
    (e, ap (λ (w : Verdict). left_by w (flip k W)) e ∙ back)

-- and it is the only valid block near what arrives of it: hit at no bit, or at one mendable bit
pub near_only : (W : List ℕ) {B : List ℕ} → Valid W → Near mendable W B → OnlyNear B W
near_only W v same =
    only_left W Clean (valid_length W v) v (λ e. omega (arith, ap (λ (w : Verdict). (told w).number) e))
near_only W v (changed k h) =
    let o = once_whole W k v h in
    subst (OnlyNear (flip k W)) o.1
    (handed_on (flip k W) (flip_length k W ∙ valid_length W v)
    (λ e. omega (arith, ap (λ (w : Verdict). (told w).number) (sym o.0 ∙ e))))

-- what no valid block is near is refused, and left as it came
refused_left : (B : List ℕ) → (length B ≡ 17) × NoneNear B → (verdict B ≡ Repeat) × (left B ≡ B)
unfolding left
refused_left B n =
    let e : verdict B ≡ Repeat = (asked_when_none B n.0).1 n.1 in (e, ap (λ (w : Verdict). left_by w B) e)

-- none is near one hit at any two different bits of all 136
pub twice_none : (W : List ℕ) (i j : ℕ) → Valid W → i < 136 → j < 136 → (i ≡ j → ⊥)
    → (length (flip i (flip j W)) ≡ 17) × NoneNear (flip i (flip j W))
twice_none W i j v hi hj ne = (flip_length i (flip j W) ∙ flip_length j W ∙ valid_length W v, λ C n w. go n w)
  where
    go : {C : List ℕ} → Near mendable (flip i (flip j W)) C → Valid C → ⊥
    go same w = hit_twice i j W hi hj ne v w
    go (changed k h) w = hit_thrice k i j W (omega (arith, h)) hi hj v w

pub twice_refused : (W : List ℕ) (i j : ℕ) → Valid W → i < 136 → j < 136 → (i ≡ j → ⊥)
    → (verdict (flip i (flip j W)) ≡ Repeat) × (left (flip i (flip j W)) ≡ flip i (flip j W))
twice_refused W i j v hi hj ne = refused_left (flip i (flip j W)) (twice_none W i j v hi hj ne)

-- nor one hit once at a bit that is not mendable
pub once_none : (W : List ℕ) (k : ℕ) → Valid W → mendable ≤ k → k < 136
    → (length (flip k W) ≡ 17) × NoneNear (flip k W)
once_none W k v g hk = (flip_length k W ∙ valid_length W v, λ C n w. go n w)
  where
    go : {C : List ℕ} → Near mendable (flip k W) C → Valid C → ⊥
    go same w = hit_once k W hk v w
    go (changed j h) w = hit_twice j k W (omega (arith, h)) hk (λ (q : j ≡ k). omega (arith, q, h, g)) v w

pub once_refused : (W : List ℕ) (k : ℕ) → Valid W → mendable ≤ k → k < 136
    → (verdict (flip k W) ≡ Repeat) × (left (flip k W) ≡ flip k W)
once_refused W k v g hk = refused_left (flip k W) (once_none W k v g hk)

-- hit an odd number of times it is never clean, and hit an even number of times never mended
pub odd_not_clean : (W ks : List ℕ) → Valid W → Places ks → length ks % 2 ≡ 1 → verdict (hits ks W) ≡ Clean → ⊥
odd_not_clean W ks v p o e = hit_odd ks W p o v (subst (Right (hits ks W)) e (is_right (hits ks W)))

pub even_not_mended : (W ks : List ℕ) → Valid W → Places ks → length ks % 2 ≡ 0
    → (k : ℕ) → verdict (hits ks W) ≡ Mended k → ⊥
unfolding hits
even_not_mended W ks v p o k e =
    let r : Right (hits ks W) (Mended k) = subst (Right (hits ks W)) e (is_right (hits ks W)) in
    hit_odd (k ∷ ks) W (omega (arith, r.0), p) (omega arith) v r.1

-- ---- the number is the paper's

mends_some : (n k : ℕ) (B : List ℕ) → k < n → Valid (flip k B) → T (one_mends n B)
unfolding one_mends
mends_some zero k B h v = absurd (omega (arith, h))
mends_some (suc n) k B h v =
    ⊎_elim (λ (e : suc k ≡ suc n). first (subst (λ (i : ℕ). Valid (flip i B)) (omega (arith, e)) v))
    (λ (l : suc k < suc n). later (valid (flip n B)) (mends_some n k B (omega (arith, l)) v)) (eq-or-lt_of_le h)
  where
    first : Valid (flip n B) → T (valid (flip n B) || one_mends n B)
    first w = subst⁻¹ (λ (t : Bool). T (t || one_mends n B)) (is_true (valid (flip n B)) w) tt

    later : (t : Bool) → T (one_mends n B) → T (t || one_mends n B)
    later true m = tt
    later false m = m

some_mends : (n : ℕ) (B : List ℕ) → T (one_mends n B) → (k : ℕ) × (k < n) × Valid (flip k B)
unfolding one_mends
some_mends zero B t = absurd t
some_mends (suc n) B t = go (valid (flip n B)) refl t (some_mends n B)
  where
    go : (u : Bool) → valid (flip n B) ≡ u → T (u || one_mends n B)
        → (T (one_mends n B) → (k : ℕ) × (k < n) × Valid (flip k B))
        → (k : ℕ) × (k < suc n) × Valid (flip k B)
    go true e s f = (n, omega arith, holds e)
    go false e s f = let m = f s in (m.0, omega (arith, m.1), m.2)

pub told_number : (B : List ℕ) → (judged B).number ≡ number_of (judge_conditions B)
unfolding judged
told_number B = by (verdict B) refl (is_right B)
  where
    long : length B ≡ 17 → (v : Bool) (m : Bool) → valid B ≡ v → one_mends mendable B ≡ m
        → number_of (judge_conditions B) ≡ cond (not v && not m) 3 0
    long l v m p q = simp (eq-eqb (length B) 17 l, p, q)

    by : (w : Verdict) → verdict B ≡ w → Right B w → (told (verdict B)).number ≡ number_of (judge_conditions B)
    by Clean e r =
        ap (λ (w : Verdict). (told w).number) e
        ∙ sym (long (valid_length B r) true (one_mends mendable B) (is_true (valid B) r) refl)
    by (Mended k) e r =
        ap (λ (w : Verdict). (told w).number) e
        ∙ sym (long (flipped_length k B r.1) (valid B) true refl
        (is_true (one_mends mendable B) (mends_some mendable k B r.0 r.1))
        ∙ ap (λ (t : Bool). cond t 3 0) (and-false (not (valid B))))
    by Repeat e r =
        ap (λ (w : Verdict). (told w).number) e
        ∙ sym (long r.0 false false (not_valid (valid B) refl) (not_mends (one_mends mendable B) refl))
      where
        not_valid : (t : Bool) → valid B ≡ t → valid B ≡ false
        not_valid true p = absurd (r.1 B same (holds p))
        not_valid false p = p

        not_mends : (t : Bool) → one_mends mendable B ≡ t → one_mends mendable B ≡ false
        not_mends true p =
            let m = some_mends mendable B (holds p) in absurd (r.1 (flip m.0 B) (changed m.0 m.1) m.2)
        not_mends false p = p
    by WrongLength e r = ap (λ (w : Verdict). (told w).number) e ∙ simp (ne_eqb (length B) 17 r)
