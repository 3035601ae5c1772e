-- What the maker's stores do, in the terms of its definition. Assumes nothing.
use mathlib.Core.Path.{◌≡◌, refl, sym, ap, ap₂, ◌∙◌}
use mathlib.Core.List.{List, [], ◌∷◌, ◌++◌, map}
use Prim.Native.Nat.{ℕ, zero, suc, ◌-◌, ◌≤◌, ◌<◌}
use native.Mathlib.Nat.{not-suc-le-zero, le_of_suc-le-suc}
use lib.ListN.{length, get_or, take, drop, set, replicate}
use lib.Seq.{sets-eq, take_at, drop_at, drop-drop}
use Rattle.block_division.specs.Division.{check_bits}
use Rattle.block_parity.specs.Parity.{with_parity}
use Rattle.block_maker.specs.Making.{useful, sealed, block_of}
use Rattle.block_maker.proofs.Blocks.{useful_length}

-- ---- the useful bytes, one by one

zeros_at : (n i : ℕ) → ◌≡◌ {A = ℕ} (get_or (replicate n 0) i 0) 0
zeros_at zero i = refl
zeros_at (suc n) zero = refl
zeros_at (suc n) (suc i) = zeros_at n i

map_at : (vs Z : List ℕ) (i : ℕ) → i < length vs → get_or (map with_parity vs ++ Z) i 0 ≡ with_parity (get_or vs i 0)
map_at [] Z i h = absurd (not-suc-le-zero h)
map_at (v ∷ vs) Z zero h = refl
map_at (v ∷ vs) Z (suc i) h = map_at vs Z i (le_of_suc-le-suc h)

map_past : (vs : List ℕ) (n i : ℕ) → length vs ≤ i → get_or (map with_parity vs ++ replicate n 0) i 0 ≡ 0
map_past [] n i h = zeros_at n i
map_past (v ∷ vs) n zero h = absurd (not-suc-le-zero h)
map_past (v ∷ vs) n (suc i) h = map_past vs n i (le_of_suc-le-suc h)

pub useful_in : (vs : List ℕ) (i : ℕ) → i < length vs → get_or (useful vs) i 0 ≡ with_parity (get_or vs i 0)
unfolding useful
useful_in vs i h = map_at vs (replicate (15 - length vs) 0) i h

pub useful_past : (vs : List ℕ) (i : ℕ) → length vs ≤ i → get_or (useful vs) i 0 ≡ 0
unfolding useful
useful_past vs i h = map_past vs (15 - length vs) i h

-- ---- stores

pub seal_stores : (O : List ℕ) → 17 ≤ length O
    → set (set O 15 (with_parity (check_bits (take 15 O)))) 16 0 ≡ sealed (take 15 O) ++ drop 17 O
unfolding sealed
seal_stores O h = sets-eq (with_parity (check_bits (take 15 O)) ∷ 0 ∷ []) O 15 h

pub both_written : (vs O P : List ℕ) → length vs ≤ 15 → P ≡ useful vs ++ drop 15 O
    → sealed (take 15 P) ++ drop 17 P ≡ block_of vs ++ drop 17 O
unfolding block_of
both_written vs O P h e =
    let l : length (useful vs) ≡ 15 = useful_length vs h in
    ap₂ (λ (a b : List ℕ). sealed a ++ b) (ap (take 15) e ∙ take_at (useful vs) (drop 15 O) 15 l)
    (sym (drop-drop 2 15 P)
    ∙ ap (λ (a : List ℕ). drop 2 a) (ap (drop 15) e ∙ drop_at (useful vs) (drop 15 O) 15 l) ∙ drop-drop 2 15 O)
