-- What the maker tells for any values and any output, case by case, and what it leaves where it takes the values:
-- the page's conditions in plain words, of which one holds. Assumes nothing.
use mathlib.Core.Path.{◌≡◌, sym, ap, ◌∙◌, subst⁻¹}
use mathlib.Core.List.{List, [], ◌∷◌}
use mathlib.Core.Logic.{◌⊎◌, ⊎_elim}
use Prim.Native.Nat.{ℕ, ◌≤◌, ◌<◌}
use native.Mathlib.Omega.{arith}
use lib.ListN.{length, get_or, take, drop}
use lib.Seq.{take_at, drop_at}
use Rattle.laws.proofs.Computed.{apart}
use Rattle.values.specs.Large.{Values, first_large}
use Rattle.values.proofs.Found.{none_large, lowest}
use Rattle.block_validity.proofs.Validity.{valid_length}
use Rattle.block_maker.specs.Making.{block_of, make_number, make_told, make_left}
use Rattle.block_maker.proofs.Numbered.{none, many, large, short, room, written, names_none, names_place}
use Rattle.block_maker.proofs.Blocks.{made_valid}

module _ (vs O : List ℕ) where
  -- ---- what is told

  -- "maker input 0 or above 15"
  pub told_long : (length vs ≡ 0) ⊎ (15 < length vs) → make_told vs O ≡ record { number = 1; named = [] }
  told_long h = sym (names_none vs O 1 (⊎_elim (none vs O) over h) (omega arith))
    where
      over : 15 < length vs → make_number vs O ≡ 1
      over l = many vs O (λ (e : length vs ≡ 0). omega (arith, e, l)) l

  module _ (some : 0 < length vs) (few : length vs ≤ 15) where
    some_there : length vs ≡ 0 → ⊥
    some_there e = omega (arith, e, some)

    -- "a value .. is above 127 (lowest place named ..)"
    pub told_large : (p : ℕ) → p < length vs → 127 < get_or vs p 0 → ((i : ℕ) → i < p → get_or vs i 0 < 128)
        → make_told vs O ≡ record { number = 2; named = p ∷ [] }
    told_large p h l s =
        let e : first_large vs ≡ p = lowest vs p h l s in
        sym (names_place vs O p (sym e)
        (large vs O some_there few (subst⁻¹ (λ (n : ℕ). n < length vs) e h)))

    module _ (small : Values vs) where
      none_over : length vs ≤ first_large vs
      none_over = let n : first_large vs ≡ length vs = none_large vs small in omega (arith, n)

      -- "maker's output shorter than 17"
      pub told_short : length O < 17 → make_told vs O ≡ record { number = 4; named = [] }
      told_short h = sym (names_none vs O 4 (short vs O some_there few none_over h) (omega arith))

      -- "none of the others holds"
      pub told_taken : 17 ≤ length O → make_told vs O ≡ record { number = 0; named = [] }
      told_taken h = sym (names_none vs O 0 (room vs O some_there few none_over h) (omega arith))

  -- ---- what is left

  few_taken : make_number vs O ≡ 0 → length vs ≤ 15
  few_taken z =
      ⊎_elim
      (λ (h : 15 < length vs).
      absurd (omega (arith, z, many vs O (λ (e : length vs ≡ 0). omega (arith, e, h)) h)))
      (λ (h : length vs ≤ 15). h) (apart 15 (length vs))

  -- "The maker writes the first 17 bytes of its output and no others"
  pub left_block : make_number vs O ≡ 0 → (take 17 (make_left vs O) ≡ block_of vs) × (drop 17 (make_left vs O) ≡ drop 17 O)
  left_block z =
      let l : length (block_of vs) ≡ 17 = valid_length (block_of vs) (made_valid vs (few_taken z)) in (
        ap (take 17) (sym (written vs O z)) ∙ take_at (block_of vs) (drop 17 O) 17 l,
        ap (drop 17) (sym (written vs O z)) ∙ drop_at (block_of vs) (drop 17 O) 17 l,
      )
