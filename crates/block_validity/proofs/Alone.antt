-- A valid block is alone: no other lies within three changed bits of it, of all 136. So at most one lies within one
-- changed bit of any block. Assumes nothing.
use mathlib.Core.Path.{◌≡◌, refl, sym, ap, ap₂, ◌∙◌}
use mathlib.Core.List.{List, [], ◌∷◌, ◌++◌}
use Prim.Native.Nat.{ℕ, ◌+◌, ◌*◌, ◌%◌, ◌<◌}
use native.Mathlib.Nat.{add-mod}
use native.Mathlib.Omega.{arith}
use lib.ListN.{length, get_or, take}
use lib.Seq.{take-suc, take_all}
use lib.Bits.{bit_xor}
use Rattle.laws.proofs.Xor.{xor_zero_eq}
use Rattle.block_division.specs.Division.{low_bits, bits}
use Rattle.block_division.proofs.Bytes.{bits_append, bits_digits}
use Rattle.block_division.proofs.Linear.{bits_sum}
use Rattle.block_parity.specs.Parity.{ones}
use Rattle.block_parity.proofs.Parities.{ones_sum, ones_append, even_ones}
use Rattle.block_validity.specs.Block.{Valid}
use Rattle.block_validity.specs.Changed.{flip, hits, Places}
use Rattle.block_validity.specs.Units.{unit}
use Rattle.block_validity.proofs.Flips.{flip_sum, flip_length, hits_length}
use Rattle.block_validity.proofs.Marks.{mark, mark_sum, mark_inj, unit_odd}
use Rattle.block_validity.proofs.Validity.{valid_length, valid_even, valid_remainder, valid_last}

-- ---- a valid block's mark is zero, and so is the parity of all its bits

pub valid_mark : (B : List ℕ) → Valid B → mark B ≡ 0
unfolding mark
valid_mark B v = ap₂ (λ (x y : ℕ). x * 128 + y) (valid_last B v) (valid_remainder B v)

pub seventeen : (B : List ℕ) → length B ≡ 17 → B ≡ take 16 B ++ (get_or B 16 0 ∷ [])
seventeen B e = sym (take_all 17 B (omega arith)) ∙ take-suc B 16 0 (omega arith)

last_ones : ones (bits (0 ∷ [])) ≡ 0
unfolding ones bits low_bits
last_ones = refl

pub valid_ones : (B : List ℕ) → Valid B → ones (bits B) % 2 ≡ 0
valid_ones B v =
    ap (λ (l : List ℕ). ones (bits l) % 2)
    (seventeen B (valid_length B v) ∙ ap (λ (x : ℕ). take 16 B ++ (x ∷ [])) (valid_last B v))
    ∙ ap (λ (l : List ℕ). ones l % 2) (bits_append (take 16 B) (0 ∷ []))
    ∙ ap (λ (x : ℕ). x % 2) (ones_append (bits (take 16 B)) (bits (0 ∷ [])))
    ∙ add-mod (ones (bits (take 16 B))) (ones (bits (0 ∷ []))) 2
    ∙ ap₂ (λ (x y : ℕ). (x + y % 2) % 2) (even_ones (take 16 B) (valid_even B v)) last_ones

-- ---- what a changed bit does to them

pub flip_mark : (k : ℕ) (B : List ℕ) → length B ≡ 17 → mark (flip k B) ≡ bit_xor (mark B) (mark (unit k))
flip_mark k B e = mark_sum (flip_sum k B e)

pub flip_ones : (k : ℕ) (B : List ℕ) → k < 136 → length B ≡ 17 → ones (bits (flip k B)) % 2 ≡ (ones (bits B) + 1) % 2
flip_ones k B h e =
    ones_sum (bits_sum (flip_sum k B e)) (bits_digits B) (bits_digits (unit k))
    ∙ add-mod (ones (bits B)) (ones (bits (unit k))) 2
    ∙ ap (λ (x : ℕ). (ones (bits B) % 2 + x) % 2) (unit_odd k h) ∙ sym (add-mod (ones (bits B)) 1 2)

-- ---- blocks that are hit

pub flipped_length : (k : ℕ) (B : List ℕ) → Valid (flip k B) → length B ≡ 17
flipped_length k B v = sym (flip_length k B) ∙ valid_length (flip k B) v

-- the mark of what arrived is that of the bit to mend
pub mend_mark : (k : ℕ) (B : List ℕ) → Valid (flip k B) → mark B ≡ mark (unit k)
mend_mark k B v =
    xor_zero_eq (mark B) (mark (unit k)) (sym (flip_mark k B (flipped_length k B v)) ∙ valid_mark (flip k B) v)

-- each hit turns the parity of all bits
hits_ones : (ks B : List ℕ) → Places ks → length B ≡ 17
    → ones (bits (hits ks B)) % 2 ≡ (ones (bits B) + length ks) % 2
unfolding hits
hits_ones [] B p e = omega arith
hits_ones (k ∷ ks) B p e =
    let m = hits_ones ks B p.1 e in
    let o = flip_ones k (hits ks B) p.0 (hits_length ks B ∙ e) in omega arith

-- a valid block hit an odd number of times is not valid
pub hit_odd : (ks B : List ℕ) → Places ks → length ks % 2 ≡ 1 → Valid B → Valid (hits ks B) → ⊥
hit_odd ks B p o v w = omega (arith, hits_ones ks B p (valid_length B v), valid_ones B v, valid_ones (hits ks B) w)

pub hit_once : (k : ℕ) (B : List ℕ) → k < 136 → Valid B → Valid (flip k B) → ⊥
unfolding hits
hit_once k B h v w = hit_odd (k ∷ []) B (h, tt) refl v w

-- hit at two different bits it is not valid
pub hit_twice : (i j : ℕ) (B : List ℕ) → i < 136 → j < 136 → (i ≡ j → ⊥) → Valid B → Valid (flip i (flip j B)) → ⊥
hit_twice i j B h k ne v w =
    ne (mark_inj i j h k
    (sym (mend_mark i (flip j B) w) ∙ flip_mark j B (valid_length B v)
    ∙ ap (λ (x : ℕ). bit_xor x (mark (unit j))) (valid_mark B v)))

-- nor at any three
pub hit_thrice : (h i j : ℕ) (B : List ℕ) → h < 136 → i < 136 → j < 136 → Valid B
    → Valid (flip h (flip i (flip j B))) → ⊥
unfolding hits
hit_thrice h i j B lh li lj v w = hit_odd (h ∷ i ∷ j ∷ []) B (lh, (li, (lj, tt))) refl v w

-- two valid blocks within one changed bit of the same block
pub one_place : (i j : ℕ) (B : List ℕ) → i < 136 → j < 136 → Valid (flip i B) → Valid (flip j B) → i ≡ j
one_place i j B h k v w = mark_inj i j h k (sym (mend_mark i B v) ∙ mend_mark j B w)
