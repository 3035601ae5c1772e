-- No move by one enters row 0 or leaves it: row 24 joins row 1. Assumes nothing.
use mathlib.Core.Path.{◌≡◌}
use Prim.Native.Nat.{ℕ, ◌≤◌}
use native.Mathlib.Omega.{arith}
use lib.Dec.{ltb, eqb, lit≤}
use borrow.Author.Tests.{ltb-true, eq-eqb, le-ltb}
use Rattle.laws.proofs.Computed.{chosen}
use Rattle.screen_cursor.specs.declared.Place.{Place}
use Rattle.screen_motion.specs.Moves.{row_below, row_above, left_of, right_of, up_of, down_of, first_of}
use Rattle.screen_motion.specs.Rows.{SameSide}

below_one : (r : ℕ) → 1 ≤ row_below r
below_one r = chosen (λ (x : ℕ). 1 ≤ x) (ltb r 24) (λ e. omega arith) (λ e. lit≤ tt)

above_one : (r : ℕ) → 1 ≤ row_above r
above_one r = chosen (λ (x : ℕ). 1 ≤ x) (ltb 1 r) (λ e. omega (arith, ltb-true 1 r e)) (λ e. lit≤ tt)

-- ---- in row 0

left_zero : (p : Place) → p.row ≡ 0 → (left_of p).row ≡ 0
left_zero p h = chosen (λ (x : Place). x.row ≡ 0) (ltb 1 p.column) (λ e. h) (λ e. simp (eq-eqb p.row 0 h) h)

right_zero : (p : Place) → p.row ≡ 0 → (right_of p).row ≡ 0
right_zero p h =
    chosen (λ (x : Place). x.row ≡ 0) (ltb p.column 40) (λ e. h) (λ e. simp (eq-eqb p.row 0 h) h)

up_zero : (p : Place) → p.row ≡ 0 → (up_of p).row ≡ 0
up_zero p h = simp (le-ltb 0 p.row (omega (arith, h))) h

-- ---- below it

left_one : (p : Place) → 1 ≤ p.row → 1 ≤ (left_of p).row
left_one p h =
    chosen (λ (x : Place). 1 ≤ x.row) (ltb 1 p.column) (λ e. h)
    (λ e. chosen (λ (x : Place). 1 ≤ x.row) (eqb p.row 0) (λ f. h) (λ f. above_one p.row))

right_one : (p : Place) → 1 ≤ p.row → 1 ≤ (right_of p).row
right_one p h =
    chosen (λ (x : Place). 1 ≤ x.row) (ltb p.column 40) (λ e. h)
    (λ e. chosen (λ (x : Place). 1 ≤ x.row) (eqb p.row 0) (λ f. h) (λ f. below_one p.row))

up_one : (p : Place) → 1 ≤ p.row → 1 ≤ (up_of p).row
up_one p h = chosen (λ (x : Place). 1 ≤ x.row) (ltb 0 p.row) (λ f. above_one p.row) (λ f. h)

-- ---- each move

pub left_side : (p : Place) → SameSide p (left_of p)
left_side p = record { inside = left_zero p; outside = left_one p }

pub right_side : (p : Place) → SameSide p (right_of p)
right_side p = record { inside = right_zero p; outside = right_one p }

pub up_side : (p : Place) → SameSide p (up_of p)
up_side p = record { inside = up_zero p; outside = up_one p }

pub first_side : (p : Place) → SameSide p (first_of p)
first_side p = record { inside = λ h. h; outside = λ h. h }

-- LF is a move by one below row 0 only
pub down_side : (p : Place) → 1 ≤ (down_of p).row
down_side p = below_one p.row
