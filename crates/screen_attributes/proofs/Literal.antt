-- Attributes in so many words, for what is worked by hand: no word of specs/ stands in them. Assumes nothing.
use mathlib.Core.Bool.{true, false}
use Prim.Native.Nat.{ℕ}
use Rattle.std.specs.Prelude.{Some, None}
use Rattle.screen_attributes.specs.declared.Attributes.{Attributes}

-- set s, ink i, ground g; none waits, no flash, not inverse
abbrev pub those : ℕ → ℕ → ℕ → Attributes
those s i g =
    record { set = s; ink = i; zone = record { ground = g; waiting = None }; flash = false; inverse = false }

-- with ground x waiting
abbrev pub awaiting : ℕ → Attributes → Attributes
awaiting x a =
    record {
      set = a.set;
      ink = a.ink;
      zone = record { ground = a.zone.ground; waiting = Some x };
      flash = a.flash;
      inverse = a.inverse;
    }

abbrev pub flashing : Attributes → Attributes
flashing a = record { set = a.set; ink = a.ink; zone = a.zone; flash = true; inverse = a.inverse }

abbrev pub inverted : Attributes → Attributes
inverted a = record { set = a.set; ink = a.ink; zone = a.zone; flash = a.flash; inverse = true }
