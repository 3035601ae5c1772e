-- Attributes in range stay so when a character is written, and its cell is in range. Assumes nothing.
use mathlib.Core.Path.{sym, subst}
use mathlib.Core.Bool.{Bool}
use native.Mathlib.Omega.{arith}
use Rattle.std.specs.Prelude.{Option, Some, None, ℕ}
use Rattle.laws.proofs.Computed.{chosen}
use Rattle.screen_cells.specs.declared.Character.{Character}
use Rattle.screen_cells.specs.Characters.{takes, InCharacter}
use Rattle.screen_cells.specs.Cells.{InCell}
use Rattle.screen_attributes.specs.declared.Zone.{Zone}
use Rattle.screen_attributes.specs.declared.Attributes.{Attributes}
use Rattle.screen_attributes.specs.Within.{InWaiting, InZone, InForce}
use Rattle.screen_writing.specs.Writing.{after_waiting, after_writing, cell_of}
use Rattle.screen_writing.proofs.Having.{cell_has}

waited_in : {z : Zone} (w : Option ℕ) (t : Bool) → InWaiting w → InZone z → InZone (after_waiting w z t)
waited_in None t k h = h
waited_in (Some g) t k h = chosen InZone t (λ e. record { ground = k; waiting = tt }) (λ e. h)

pub write_in : {a : Attributes} (x : Character) → InForce a → InForce (after_writing a x)
write_in {a} x h =
    record { set = h.set; ink = h.ink; zone = waited_in a.zone.waiting (takes x) h.zone.waiting h.zone }

pub cell_in : {a : Attributes} {x : Character} → InCharacter x → InForce a → InCell (cell_of a x)
cell_in {a} {x} k h =
    let c = cell_has a x in
    record {
      character = subst InCharacter (sym c.character) k;
      ink = omega (arith, h.ink, c.ink);
      ground = omega (arith, h.zone.ground, c.ground);
    }
