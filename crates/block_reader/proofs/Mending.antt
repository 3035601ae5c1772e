-- The quick way to a verdict: one byte alone is odd, and the remainder points to a bit in it. It is what `mend` does,
-- and exactly where a bit is mended. Assumes nothing.
use mathlib.Core.Path.{◌≡◌, refl, sym, ◌∙◌, subst, subst⁻¹}
use mathlib.Core.Bool.{Bool, true, false, not}
use mathlib.Core.List.{List}
use mathlib.Core.Logic.{◌↔◌}
use Prim.Native.Nat.{ℕ, ◌/◌}
use native.Mathlib.Omega.{arith}
use lib.Dec.{T, eqb}
use lib.ListN.{length, get_or, take}
use borrow.Author.Tests.{eqb-true}
use Rattle.laws.proofs.Computed.{and_left, and_right, is_true, fails, holds}
use Rattle.block_parity.specs.Parity.{even, all_even, odds}
use Rattle.block_validity.specs.Block.{remainder, Valid}
use Rattle.block_validity.specs.Changed.{Near, same, changed}
use Rattle.block_validity.specs.Mending.{PointsTo, Mends}
use Rattle.block_validity.proofs.Validity.{valid_even, valid_remainder, valid_last, is_valid}
use Rattle.block_validity.proofs.Odd.{one_bit, mends_only, mends_where}
use Rattle.block_validity.proofs.ParityBit.{leaves_nothing}
use Rattle.block_reader.specs.declared.Verdict.TheVariants.{Clean, Mended, Repeat}
use Rattle.block_reader.specs.Judging.{mendable, verdict}
use Rattle.block_reader.specs.Claims.{Right}
use Rattle.block_reader.specs.Quick.{the_odd_one}
use Rattle.block_reader.proofs.Verdicts.{is_right, right_is}

-- ---- the byte that alone is odd

is_one : (n b : ℕ) → n ≡ 1 → even b ≡ false → the_odd_one n b ≡ true
is_one n b e f = simp (e, f)

the_one : (n b : ℕ) → the_odd_one n b ≡ true → (n ≡ 1) × (even b ≡ false)
the_one n b e = (
  eqb-true n 1 (is_true (eqb n 1) (and_left (eqb n 1) (not (even b)) (holds e))),
  odd_byte (even b) (and_right (eqb n 1) (not (even b)) (holds e)),
)
  where
    odd_byte : (t : Bool) → T (not t) → t ≡ false
    odd_byte true h = absurd h
    odd_byte false h = refl

-- ---- verdicts

module _ (B : List ℕ) (l : length B ≡ 17) where
  -- not valid as it stands, and no bit mends it
  repeated : (Valid B → ⊥) → ((j : ℕ) → Mends j B → ⊥) → Right B Repeat
  repeated ne f = (l, λ C n v. go n v)
    where
      go : {C : List ℕ} → Near mendable B C → Valid C → ⊥
      go same v = ne v
      go (changed j h) v = f j (mends_only j B h l v)

  -- byte 17 is not zero
  pub not_zero : (get_or B 16 0 ≡ 0 → ⊥) → Right B Repeat
  not_zero z = repeated (λ v. z (valid_last B v)) (λ j m. z m.validation)

  -- all even and nothing left
  pub clean : get_or B 16 0 ≡ 0 → T (all_even (take 16 B)) → remainder B ≡ 0 → Right B Clean
  clean z e r = is_valid B l e r z

  -- not clean, and the remainder points to bit k
  module _ (ne : T (all_even (take 16 B)) → remainder B ≡ 0 → ⊥) (k : ℕ) (p : PointsTo (remainder B) k) where
    not_valid : Valid B → ⊥
    not_valid v = ne (valid_even B v) (valid_remainder B v)

    -- the only bit that could mend is the one pointed to
    only_there : (j : ℕ) → Mends j B → k ≡ j
    only_there j m = one_bit (remainder B) k j p m.pointed

    -- it does not lie in a byte that alone is odd
    pub elsewhere : the_odd_one (odds (take 16 B)) (get_or B (k / 8) 0) ≡ false → Right B Repeat
    elsewhere e =
        repeated not_valid
        (λ j m.
        fails e
        (holds (is_one (odds (take 16 B)) (get_or B (k / 8) 0) m.alone
        (subst⁻¹ (λ (n : ℕ). even (get_or B (n / 8) 0) ≡ false) (only_there j m) m.inside))))

    -- it does
    pub mended : get_or B 16 0 ≡ 0 → the_odd_one (odds (take 16 B)) (get_or B (k / 8) 0) ≡ true → Right B (Mended k)
    mended z e =
        let o = the_one (odds (take 16 B)) (get_or B (k / 8) 0) e in
        (p.0, mends_where k B p.0 l (record { validation = z; alone = o.0; inside = o.1; pointed = p }))

-- ---- so a bit is mended exactly where the remainder points to it and it lies in the one odd byte

pub mended_where : (B : List ℕ) (k : ℕ) → length B ≡ 17 → verdict B ≡ Mended k ↔ Mends k B
mended_where B k l = (
  λ e. let r = subst (Right B) e (is_right B) in mends_only k B r.0 l r.1,
  λ m. let h = m.pointed.0 in right_is B (Mended k) (h, mends_where k B h l m),
)

-- the parity bit of byte 16, where byte 16 is the odd one and the remainder is zero
pub parity_mended_where : (B : List ℕ) → length B ≡ 17
    → verdict B ≡ Mended 127
    ↔ (get_or B 16 0 ≡ 0) × (odds (take 16 B) ≡ 1) × (even (get_or B 15 0) ≡ false) × (remainder B ≡ 0)
parity_mended_where B l = (
  λ e.
      let m = (mended_where B 127 l).0 e in
      (m.validation, m.alone, m.inside, sym m.pointed.1 ∙ leaves_nothing),
  λ s.
      (mended_where B 127 l).1
      (record { validation = s.0; alone = s.1; inside = s.2; pointed = (omega arith, leaves_nothing ∙ sym s.3) }),
)
