-- Where US leads is on the screen. Assumes nothing.
use mathlib.Core.Path.{◌≡◌}
use mathlib.Core.Bool.{true}
use mathlib.Core.List.{[], ◌∷◌}
use Prim.Native.Nat.{ℕ, ◌-◌}
use native.Mathlib.Omega.{arith}
use lib.Dec.{leb}
use borrow.Author.Tests.{leb-true}
use Rattle.std.specs.Prelude.{Option, Some, None}
use Rattle.screen_cursor.specs.declared.Place.{Place}
use Rattle.laws.proofs.Computed.{each, chosen}
use Rattle.screen_cursor.specs.Places.{at, On}
use Rattle.screen_addresses.specs.Addressing.{good, addressed}

abbrev pub Leads : Option Place → Type 0
Leads None = Unit {0}
Leads (Some p) = On p

pub address_on : (r c : ℕ) → Leads (addressed r c)
address_on r c = chosen Leads (good r c) there (λ e. tt)
  where
    there : good r c ≡ true → On (at (r - 64) (c - 64))
    there e =
        let t = each (leb 64 r ∷ leb r 88 ∷ leb 65 c ∷ leb c 104 ∷ []) e in
        record {
          row = omega (arith, leb-true r 88 t.1.0);
          low = omega (arith, leb-true 65 c t.1.1.0);
          high = omega (arith, leb-true c 104 t.1.1.1);
        }
