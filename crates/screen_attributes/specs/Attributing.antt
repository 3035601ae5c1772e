-- The attributes in force, and SO and SI (01, "Screen cells"). Assumes nothing.
use Rattle.std.specs.Prelude.{None, ◌≡◌, ℕ, false}
use Rattle.screen_attributes.specs.declared.Zone.{Zone}
use Rattle.screen_attributes.specs.declared.Attributes.{Attributes}

-- "ground 0, none waiting"
abbrev pub start_zone : Zone
start_zone = let ground : ℕ = 0 in record { ground = ground; waiting = None }

-- "Current attributes at the start: set G0, ink 7, ground 0, none waiting, no flash, not inverse"
abbrev pub start_of : Attributes
start_of = record { set = 0; ink = 7; zone = start_zone; flash = false; inverse = false }

-- "SO: set G1, inverse off"
abbrev pub shifted_out : Attributes → Attributes
shifted_out a = record { set = 1; ink = a.ink; zone = a.zone; flash = a.flash; inverse = false }

-- "SI: set G0"
abbrev pub shifted_in : Attributes → Attributes
shifted_in a = record { set = 0; ink = a.ink; zone = a.zone; flash = a.flash; inverse = a.inverse }

-- ---- inverse

-- nothing is inverse while G1 is current
abbrev pub Upright : Attributes → Type 0
Upright a = a.set ≡ 1 → a.inverse ≡ false
