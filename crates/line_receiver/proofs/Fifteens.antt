-- Values cut into fifteens: each can be made into a block, and filled up and joined they are the values filled up.
-- Assumes nothing.
use mathlib.Core.Path.{◌≡◌, refl, sym, ap, ap₂, ◌∙◌}
use mathlib.Core.List.{List, [], ◌∷◌, ◌++◌, map, append_assoc}
use mathlib.Core.Logic.{◌⊎◌, inl, inr}
use Prim.Native.Nat.{ℕ, zero, suc, ◌+◌, ◌-◌, ◌*◌, ◌≤◌, ◌<◌, suc-le-suc}
use native.Mathlib.Nat.{zero-lt-suc, not-suc-le-zero, le_of_suc-le-suc}
use native.Mathlib.Omega.{arith}
use lib.ListN.{length, get_or, take, drop, replicate, length-append, length-replicate, length-take, length-drop}
use lib.ListN.{take-append-drop, drop_of_length-le, replicate-append-replicate}
use lib.Seq.{take_all, length-take-le, take-append-add}
use Rattle.laws.proofs.Computed.{apart}
use Rattle.few.specs.Bytes.{few}
use Rattle.values.specs.Large.{Values}
use Rattle.block_validity.specs.Block.{Valid}
use Rattle.block_maker.specs.Making.{block_of}
use Rattle.block_maker.proofs.Blocks.{made_valid}
use Rattle.line_receiver.specs.Line.{blocks_for, fifteens, filled, joined}
use Rattle.line_receiver.proofs.Cases.{full}

-- each can be made into a block
abbrev pub Cut : List (List ℕ) → Type 0
Cut [] = Unit {0}
Cut (us ∷ uss) = (length us ≤ 15) × Values us × Cut uss

-- ---- the fifteens can be made into blocks

values_take : (n : ℕ) (vs : List ℕ) → Values vs → Values (take n vs)
values_take zero vs f i h = absurd (not-suc-le-zero h)
values_take (suc n) [] f i h = absurd (not-suc-le-zero h)
values_take (suc n) (v ∷ vs) f zero h = f 0 (zero-lt-suc (length vs))
values_take (suc n) (v ∷ vs) f (suc i) h =
    values_take n vs (λ j k. f (suc j) (suc-le-suc k)) i (le_of_suc-le-suc h)

values_drop : (n : ℕ) (vs : List ℕ) → Values vs → Values (drop n vs)
values_drop zero vs f = f
values_drop (suc n) [] f = f
values_drop (suc n) (v ∷ vs) f = values_drop n vs (λ j k. f (suc j) (suc-le-suc k))

-- there are at most as many as are taken
pub take_short : (n : ℕ) (vs : List ℕ) → length (take n vs) ≤ n
take_short n vs = omega (arith, length-take n vs)

pub cut : (n : ℕ) (vs : List ℕ) → Values vs → Cut (fifteens n vs)
unfolding fifteens
cut zero vs f = tt
cut (suc n) vs f = (take_short 15 vs, values_take 15 vs f, cut n (drop 15 vs) (values_drop 15 vs f))

pub cut_take : (j : ℕ) (uss : List (List ℕ)) → Cut uss → Cut (take j uss)
cut_take zero uss c = tt
cut_take (suc j) [] c = tt
cut_take (suc j) (us ∷ uss) c = (c.0, c.1, cut_take j uss c.2)

pub cut_drop : (j : ℕ) (uss : List (List ℕ)) → Cut uss → Cut (drop j uss)
cut_drop zero uss c = c
cut_drop (suc j) [] c = tt
cut_drop (suc j) (us ∷ uss) c = cut_drop j uss c.2

pub block_valid : (j : ℕ) (uss : List (List ℕ)) → Cut uss → j < length uss → Valid (get_or (map block_of uss) j [])
block_valid j [] c h = absurd (not-suc-le-zero h)
block_valid zero (us ∷ uss) c h = made_valid us c.0
block_valid (suc j) (us ∷ uss) c h = block_valid j uss c.2 (le_of_suc-le-suc h)

pub fifteens_length : (n : ℕ) (vs : List ℕ) → length (fifteens n vs) ≡ n
unfolding fifteens
fifteens_length zero vs = refl
fifteens_length (suc n) vs = ap suc (fifteens_length n (drop 15 vs))

-- filled up to fifteen
abbrev pub padded : List ℕ → List ℕ
padded us = (few 15 us).codes

padded_length : (us : List ℕ) → length us ≤ 15 → length (padded us) ≡ 15
padded_length us h =
    length-append us (replicate (15 - length us) 0)
    ∙ ap (λ (n : ℕ). length us + n) (length-replicate (15 - length us) 0) ∙ omega arith

-- ---- joined again

-- filled up, one behind the other
abbrev pub values : List (List ℕ) → List ℕ
values uss = joined (map padded uss)

more_zeros : (vs : List ℕ) (a b c : ℕ) → a + b ≡ c → vs ++ replicate a 0 ++ replicate b 0 ≡ vs ++ replicate c 0
more_zeros vs a b c e =
    append_assoc vs (replicate a 0) (replicate b 0)
    ∙ ap (λ (l : List ℕ). vs ++ l) (replicate-append-replicate a b 0 ∙ ap (λ (n : ℕ). replicate n 0) e)

joins : (n : ℕ) (vs : List ℕ) → length vs ≤ 15 * n → values (fifteens n vs) ≡ vs ++ replicate (15 * n - length vs) 0
unfolding fifteens
joins zero [] h = refl
joins zero (v ∷ vs) h = absurd (omega (arith, h))
joins (suc n) vs h =
    let d : length (drop 15 vs) ≡ length vs - 15 = length-drop 15 vs in
    go (joins n (drop 15 vs) (omega arith)) (apart (length vs) 15)
  where
    go : values (fifteens n (drop 15 vs)) ≡ drop 15 vs ++ replicate (15 * n - length (drop 15 vs)) 0
        → (length vs < 15) ⊎ (15 ≤ length vs)
        → padded (take 15 vs) ++ values (fifteens n (drop 15 vs)) ≡ vs ++ replicate (15 * suc n - length vs) 0
    go rest (inl l) =
        let z : drop 15 vs ≡ [] = drop_of_length-le vs {i = 15} (omega arith) in
        ap₂ (λ (us ws : List ℕ). padded us ++ ws) (take_all 15 vs (omega arith))
        (rest ∙ ap (λ (us : List ℕ). us ++ replicate (15 * n - length us) 0) z)
        ∙ more_zeros vs (15 - length vs) (15 * n - 0) (15 * suc n - length vs) (omega arith)
    go rest (inr g) =
        let d : length (drop 15 vs) ≡ length vs - 15 = length-drop 15 vs in
        let k : 15 * n - length (drop 15 vs) ≡ 15 * suc n - length vs = omega arith in
        ap₂ (λ (us ws : List ℕ). us ++ ws)
        (sym (full 15 (take 15 vs) (length-take-le 15 vs g)))
        (rest ∙ ap (λ (m : ℕ). drop 15 vs ++ replicate m 0) k)
        ∙ sym (append_assoc (take 15 vs) (drop 15 vs) (replicate (15 * suc n - length vs) 0))
        ∙ ap (λ (us : List ℕ). us ++ replicate (15 * suc n - length vs) 0) (take-append-drop 15 vs)

pub values_filled : (vs : List ℕ) → values (fifteens (blocks_for vs) vs) ≡ filled vs
values_filled vs = joins (blocks_for vs) vs (omega arith)

-- ---- the first j of them, and the others

pub first_values : (j : ℕ) (uss : List (List ℕ)) → Cut uss → j ≤ length uss
    → values (take j uss) ≡ take (15 * j) (values uss)
first_values zero uss c h = refl
first_values (suc j) [] c h = absurd (not-suc-le-zero h)
first_values (suc j) (us ∷ uss) c h =
    let k : 15 * suc j ≡ 15 + 15 * j = omega arith in
    ap (λ (l : List ℕ). padded us ++ l) (first_values j uss c.2 (le_of_suc-le-suc h))
    ∙ sym (take-append-add (padded us) (values uss) (15 * j))
    ∙ ap (λ (n : ℕ). take n (padded us ++ values uss))
    (ap (λ (n : ℕ). n + 15 * j) (padded_length us c.0) ∙ sym k)

pub both_values : (j : ℕ) (uss : List (List ℕ)) → values (take j uss) ++ values (drop j uss) ≡ values uss
both_values zero uss = refl
both_values (suc j) [] = refl
both_values (suc j) (us ∷ uss) =
    append_assoc (padded us) (values (take j uss)) (values (drop j uss))
    ∙ ap (λ (l : List ℕ). padded us ++ l) (both_values j uss)
