-- The phase of a new receiver, and the ends of the ranges, written out (01, "The receiver"). Assumes nothing.
use mathlib.Core.Path.{◌≡◌, refl}
use mathlib.Core.Bool.{Bool, true, false}
use mathlib.Core.List.{List, [], ◌∷◌}
use Prim.Native.Nat.{ℕ}
use Rattle.line_phases.specs.declared.Phase.{Phase}
use Rattle.line_phases.specs.declared.Phase.TheVariants.{Off, Collecting, Waiting}
use Rattle.line_phases.specs.Phases.{at_start, in_range}

-- "A new receiver is off"
pub starts_off : at_start ≡ Off
starts_off = refl

-- a block's number, a count of bytes held and a phase lie within the ranges, or do not
abbrev Within : List (ℕ × ℕ × Phase × Bool) → Type 0
Within [] = Unit {0}
Within (e ∷ es) = (in_range e.0 e.1 e.2 ≡ e.3) × Within es

-- "block number 0 to 15; held bytes 0 to 16; phase off, collecting or waiting; in waiting, synchronising codes seen 0 to
-- 2"
abbrev ends : List (ℕ × ℕ × Phase × Bool)
ends =
    (0, 0, Off, true) ∷ (15, 16, Off, true) ∷ (15, 16, Collecting, true) ∷ (0, 0, Waiting 0, true)
    ∷ (15, 16, Waiting 2, true) ∷ (16, 0, Off, false) ∷ (16, 0, Collecting, false) ∷ (16, 0, Waiting 0, false)
    ∷ (0, 17, Off, false) ∷ (0, 17, Collecting, false) ∷ (0, 17, Waiting 0, false) ∷ (0, 0, Waiting 3, false) ∷ []

pub ranges_written : Within ends
ranges_written = (refl, (refl, (refl, (refl, (refl, (refl, (refl, (refl, (refl, (refl, (refl, (refl, tt))))))))))))
