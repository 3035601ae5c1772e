-- Byte 17 of a valid block is zero: so a bit of it that is zero never mends a block, and none of its bits is among
-- different hits that lead from a valid block to a valid one. Assumes nothing.
use mathlib.Core.Path.{◌≡◌, refl, ap, ◌∙◌}
use mathlib.Core.List.{List, [], ◌∷◌, ◌++◌}
use Prim.Native.Nat.{ℕ, ◌+◌, ◌-◌, ◌*◌, ◌≤◌, ◌<◌}
use native.Mathlib.Omega.{arith}
use lib.ListN.{length, get_or, take, replicate, get_or-replicate}
use lib.Seq.{length-take-le, get_or-append-add, get_or-set_same, get_or-set_other}
use Rattle.block_division.specs.Division.{low_bits, bits}
use Rattle.block_division.proofs.Bytes.{bits_append, bits_length}
use Rattle.block_validity.specs.Block.{Valid}
use Rattle.block_validity.specs.Changed.{flip, hits, Places, NoneOf}
use Rattle.block_validity.proofs.Flips.{hits_length, flip_bits}
use Rattle.block_validity.proofs.Validity.{valid_length, valid_last}
use Rattle.block_validity.proofs.Alone.{seventeen, flipped_length}

-- ---- single bits of block order

same_bit : (k : ℕ) (B : List ℕ) → k < 136 → length B ≡ 17 → get_or (bits (flip k B)) k 0 ≡ 1 - get_or (bits B) k 0
same_bit k B h e =
    ap (λ (l : List ℕ). get_or l k 0) (flip_bits k B h e)
    ∙ get_or-set_same (bits B) k (1 - get_or (bits B) k 0) 0 (omega (arith, bits_length B))

other_bit : (k j : ℕ) (B : List ℕ) → j < 136 → length B ≡ 17 → (k ≡ j → ⊥)
    → get_or (bits (flip j B)) k 0 ≡ get_or (bits B) k 0
other_bit k j B h e ne =
    ap (λ (l : List ℕ). get_or l k 0) (flip_bits j B h e)
    ∙ get_or-set_other (bits B) j k (1 - get_or (bits B) j 0) 0 ne

untouched : (k : ℕ) (ks B : List ℕ) → Places ks → NoneOf k ks → length B ≡ 17
    → get_or (bits (hits ks B)) k 0 ≡ get_or (bits B) k 0
unfolding hits
untouched k [] B p n e = refl
untouched k (j ∷ js) B p n e =
    other_bit k j (hits js B) p.0 (hits_length js B ∙ e) n.0 ∙ untouched k js B p.1 n.1 e

-- ---- those of byte 17

zero_bits : bits (0 ∷ []) ≡ replicate 8 0
unfolding bits low_bits
zero_bits = refl

last_bits : (B : List ℕ) → length B ≡ 17 → get_or B 16 0 ≡ 0 → (k : ℕ) → 128 ≤ k → k < 136 → get_or (bits B) k 0 ≡ 0
last_bits B e z k g h =
    let l : length (bits (take 16 B)) ≡ 128
    = bits_length (take 16 B) ∙ ap (λ (n : ℕ). n * 8) (length-take-le 16 B (omega arith)) in
    let i : ℕ = k - 128 in
    let p : k ≡ length (bits (take 16 B)) + i = omega (arith, l, g) in
    ap (λ (C : List ℕ). get_or (bits C) k 0) (seventeen B e ∙ ap (λ (x : ℕ). take 16 B ++ (x ∷ [])) z)
    ∙ ap (λ (r : List ℕ). get_or r k 0) (bits_append (take 16 B) (0 ∷ []))
    ∙ ap (λ (n : ℕ). get_or (bits (take 16 B) ++ bits (0 ∷ [])) n 0) p
    ∙ get_or-append-add (bits (take 16 B)) (bits (0 ∷ [])) i 0 ∙ ap (λ (r : List ℕ). get_or r i 0) zero_bits
    ∙ get_or-replicate 8 i 0 0 (omega (arith, h, g))

-- one that is zero never mends
unset_never_mends : (k : ℕ) (B : List ℕ) → 128 ≤ k → k < 136 → get_or (bits B) k 0 ≡ 0 → Valid (flip k B) → ⊥
unset_never_mends k B g h z v =
    let e : length B ≡ 17 = flipped_length k B v in
    omega (arith, same_bit k B h e, z, last_bits (flip k B) (valid_length (flip k B) v) (valid_last (flip k B) v) k g h)

pub last_never_mends : (k : ℕ) (B : List ℕ) → 128 ≤ k → k < 136 → length B ≡ 17 → get_or B 16 0 ≡ 0 → Valid (flip k B) → ⊥
last_never_mends k B g h e z v = unset_never_mends k B g h (last_bits B e z k g h) v

-- nor is one among different hits on a valid block that are valid again
pub hit_last : (k : ℕ) (ks B : List ℕ) → 128 ≤ k → Places (k ∷ ks) → NoneOf k ks → Valid B → Valid (hits (k ∷ ks) B) → ⊥
unfolding hits
hit_last k ks B g p n v w =
    unset_never_mends k (hits ks B) g p.0
    (untouched k ks B p.1 n (valid_length B v) ∙ last_bits B (valid_length B v) (valid_last B v) k g p.0) w
