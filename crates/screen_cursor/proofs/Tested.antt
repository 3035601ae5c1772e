-- What the test of a place says. Assumes nothing.
use mathlib.Core.Path.{◌≡◌}
use mathlib.Core.Bool.{true}
use mathlib.Core.List.{[], ◌∷◌}
use Prim.Native.Nat.{◌<◌}
use native.Mathlib.Omega.{arith}
use lib.Dec.{leb, lit≤}
use borrow.Author.Tests.{leb-true, le-leb}
use Rattle.laws.proofs.Computed.{each}
use Rattle.screen_cursor.specs.declared.Place.{Place}
use Rattle.screen_cursor.specs.Places.{home, On, on_screen, index_of}

pub on_true : (p : Place) → On p → on_screen p ≡ true
on_true p h = simp (le-leb _ _ h.row, le-leb _ _ h.low, le-leb _ _ h.high)

pub true_on : (p : Place) → on_screen p ≡ true → On p
true_on p e =
    let t = each (leb p.row 24 ∷ leb 1 p.column ∷ leb p.column 40 ∷ []) e in
    record { row = leb-true _ _ t.0; low = leb-true _ _ t.1.0; high = leb-true _ _ t.1.1 }

pub home_on : On home
home_on = record { row = lit≤ tt; low = lit≤ tt; high = lit≤ tt }

-- a place on the screen has its cell among the thousand
pub index_low : {x : Place} → On x → index_of x < 1000
index_low h = omega (arith, h.row, h.low, h.high)
