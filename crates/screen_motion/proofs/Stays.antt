-- No move leaves the screen. Assumes nothing.
use Prim.Native.Nat.{ℕ, ◌≤◌}
use native.Mathlib.Omega.{arith}
use lib.Dec.{ltb, eqb, lit≤}
use borrow.Author.Tests.{ltb-true}
use Rattle.laws.proofs.Computed.{chosen}
use Rattle.screen_cursor.specs.declared.Place.{Place}
use Rattle.screen_cursor.specs.Places.{On}
use Rattle.screen_motion.specs.Moves.{row_below, row_above, left_of, right_of, up_of, down_of, first_of}

below_low : (r : ℕ) → row_below r ≤ 24
below_low r = chosen (λ (x : ℕ). x ≤ 24) (ltb r 24) (λ e. omega (arith, ltb-true r 24 e)) (λ e. lit≤ tt)

above_low : (r : ℕ) → r ≤ 24 → row_above r ≤ 24
above_low r h = chosen (λ (x : ℕ). x ≤ 24) (ltb 1 r) (λ e. omega (arith, h)) (λ e. lit≤ tt)

pub left_on : {p : Place} → On p → On (left_of p)
left_on {p} h =
    chosen On (ltb 1 p.column)
    (λ e. record { row = h.row; low = omega (arith, ltb-true 1 p.column e); high = omega (arith, h.high) })
    (λ e. chosen On (eqb p.row 0) (λ f. h)
    (λ f. record { row = above_low p.row h.row; low = lit≤ tt; high = lit≤ tt }))

pub right_on : {p : Place} → On p → On (right_of p)
right_on {p} h =
    chosen On (ltb p.column 40)
    (λ e. record { row = h.row; low = omega arith; high = omega (arith, ltb-true p.column 40 e) })
    (λ e. chosen On (eqb p.row 0) (λ f. h)
    (λ f. record { row = below_low p.row; low = lit≤ tt; high = lit≤ tt }))

pub up_on : {p : Place} → On p → On (up_of p)
up_on {p} h =
    chosen On (ltb 0 p.row)
    (λ e. record { row = above_low p.row h.row; low = h.low; high = h.high }) (λ e. h)

pub down_on : {p : Place} → On p → On (down_of p)
down_on {p} h = record { row = below_low p.row; low = h.low; high = h.high }

pub first_on : {p : Place} → On p → On (first_of p)
first_on h = record { row = h.row; low = lit≤ tt; high = lit≤ tt }
