-- What the test of the thousand says, and what stays in range. Assumes nothing.
use mathlib.Core.Path.{◌≡◌, refl}
use mathlib.Core.Bool.{true, false}
use mathlib.Core.List.{List, [], ◌∷◌, ◌++◌}
use Prim.Native.Nat.{ℕ, zero, suc}
use lib.ListN.{take, set, replicate}
use Rattle.laws.proofs.Computed.{each}
use Rattle.screen_cells.specs.declared.Cell.{Cell}
use Rattle.screen_cells.specs.Cells.{blank_of, good_cell, InCell}
use Rattle.screen_cells.proofs.Tested.{cell_true, true_cell, blank_in}
use Rattle.screen_sheet.specs.Clearing.{cleared}
use Rattle.screen_sheet.specs.Within.{all_good, AllIn, none, also}

-- what would be read past the end of the cells
abbrev pub no_cell : Cell
no_cell = record { character = record { set = 0; code = 0 }; ink = 0; ground = 0; flash = false; inverse = false }

-- ---- the tests are the ranges

pub all_true : {cs : List Cell} → AllIn cs → all_good cs ≡ true
unfolding all_good
all_true none = refl
all_true (also h k) = simp (cell_true h, all_true k)

pub true_all : (cs : List Cell) → all_good cs ≡ true → AllIn cs
unfolding all_good
true_all [] e = none
true_all (c ∷ cs) e = let t = each (good_cell c ∷ all_good cs ∷ []) e in also (true_cell c t.0) (true_all cs t.1)

-- ---- what stays in range

pub all_set : {cs : List Cell} (i : ℕ) {c : Cell} → InCell c → AllIn cs → AllIn (set cs i c)
all_set i k none = none
all_set zero k (also h t) = also k t
all_set (suc i) k (also h t) = also h (all_set i k t)

all_take : (n : ℕ) {cs : List Cell} → AllIn cs → AllIn (take n cs)
all_take zero h = none
all_take (suc n) none = none
all_take (suc n) (also h t) = also h (all_take n t)

all_append : {cs ds : List Cell} → AllIn cs → AllIn ds → AllIn (cs ++ ds)
all_append none k = k
all_append (also h t) k = also h (all_append t k)

pub blanks_in : (n : ℕ) → AllIn (replicate n blank_of)
blanks_in zero = none
blanks_in (suc n) = also blank_in (blanks_in n)

pub cleared_in : {cs : List Cell} → AllIn cs → AllIn (cleared cs)
unfolding cleared
cleared_in h = all_append (all_take 40 h) (blanks_in 960)
