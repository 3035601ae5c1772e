-- The maker's number in each case, what it tells and leaves by its number, and that it is told in one way. Assumes
-- nothing.
use mathlib.Core.Path.{◌≡◌, refl, sym, ap, ◌∙◌}
use mathlib.Core.Bool.{cond}
use mathlib.Core.List.{List, [], ◌∷◌, ◌++◌}
use Prim.Native.Nat.{ℕ, ◌≤◌, ◌<◌}
use lib.Dec.{eqb}
use lib.ListN.{length, drop}
use borrow.Author.Tests.{lt-ltb, le-ltb, eq-eqb, ne_eqb}
use Rattle.numbers.specs.Numbers.{Told}
use Rattle.values.specs.Large.{first_large}
use Rattle.std.specs.Prelude.{Result, Ok, Err}
use Rattle.block_maker.specs.declared.Unmade.{Unmade}
use Rattle.block_maker.specs.declared.Unmade.TheVariants.{WrongLength, TooLarge, NoRoom}
use Rattle.block_maker.specs.Making.{block_of, told, make_number, make_told, make_left}

module _ (vs O : List ℕ) where
  -- ---- the number: taken first, then each refusal from the last to the first

  pub room : (length vs ≡ 0 → ⊥) → length vs ≤ 15 → length vs ≤ first_large vs → 17 ≤ length O → make_number vs O ≡ 0
  room some few small h = simp (ne_eqb _ _ some, le-ltb _ _ few, le-ltb _ _ small, le-ltb _ _ h)

  pub short : (length vs ≡ 0 → ⊥) → length vs ≤ 15 → length vs ≤ first_large vs → length O < 17 → make_number vs O ≡ 4
  short some few small h = simp (ne_eqb _ _ some, le-ltb _ _ few, le-ltb _ _ small, lt-ltb _ _ h)

  pub large : (length vs ≡ 0 → ⊥) → length vs ≤ 15 → first_large vs < length vs → make_number vs O ≡ 2
  large some few h = simp (ne_eqb _ _ some, le-ltb _ _ few, lt-ltb _ _ h)

  pub many : (length vs ≡ 0 → ⊥) → 15 < length vs → make_number vs O ≡ 1
  many some h = simp (ne_eqb _ _ some, lt-ltb _ _ h)

  pub none : length vs ≡ 0 → make_number vs O ≡ 1
  none h = simp (eq-eqb _ _ h)

  -- ---- what is left

  pub refused : (make_number vs O ≡ 0 → ⊥) → O ≡ make_left vs O
  refused ne = simp (ne_eqb _ _ ne)

  pub written : make_number vs O ≡ 0 → block_of vs ++ drop 17 O ≡ make_left vs O
  written e = simp e

  -- ---- what is told

  pub names_none : (n : ℕ) → make_number vs O ≡ n → (n ≡ 2 → ⊥) → record { number = n; named = [] } ≡ make_told vs O
  names_none n e ne = simp (e, ne_eqb n 2 ne)

  pub names_place : (p : ℕ) → p ≡ first_large vs → make_number vs O ≡ 2 → told (Err (TooLarge p)) ≡ make_told vs O
  names_place p q e = simp (q, e)

-- ---- two answers that tell the same are the same: only one fits the promise

by_place : List ℕ → Result (Unit {0}) Unmade
by_place [] = Ok tt
by_place (p ∷ ps) = Err (TooLarge p)

retold : Told → Result (Unit {0}) Unmade
retold t = cond (eqb t.number 1) (Err WrongLength) (cond (eqb t.number 4) (Err NoRoom) (by_place t.named))

retold_told : (m : Result (Unit {0}) Unmade) → retold (told m) ≡ m
unfolding retold by_place
retold_told (Ok made) = refl
retold_told (Err WrongLength) = refl
retold_told (Err (TooLarge p)) = refl
retold_told (Err NoRoom) = refl

pub told_one : (m n : Result (Unit {0}) Unmade) → told m ≡ told n → m ≡ n
told_one m n e = sym (retold_told m) ∙ ap retold e ∙ retold_told n
