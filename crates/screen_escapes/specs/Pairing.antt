-- What ESC and a code do to the attributes in force (01, "Screen cells"). Assumes nothing.
use Rattle.std.specs.Prelude.{Some, Bool, true, false, cond, ◌&&◌, ℕ, ◌/◌, ◌%◌, ltb, eqb}
use Rattle.screen_attributes.specs.declared.Zone.{Zone}
use Rattle.screen_attributes.specs.declared.Attributes.{Attributes}

abbrev pub with_ink : Attributes → ℕ → Attributes
with_ink a n = record { set = a.set; ink = n; zone = a.zone; flash = a.flash; inverse = a.inverse }

abbrev pub with_zone : Attributes → Zone → Attributes
with_zone a z = record { set = a.set; ink = a.ink; zone = z; flash = a.flash; inverse = a.inverse }

abbrev pub waits_for : Attributes → (ground : ℕ) → Attributes
waits_for a n = with_zone a (record { ground = a.zone.ground; waiting = Some n })

abbrev pub with_flash : Attributes → Bool → Attributes
with_flash a on = record { set = a.set; ink = a.ink; zone = a.zone; flash = on; inverse = a.inverse }

abbrev pub with_inverse : Attributes → Bool → Attributes
with_inverse a on = record { set = a.set; ink = a.ink; zone = a.zone; flash = a.flash; inverse = on }

-- "5/D inverse (no action in G1)"
abbrev pub reversed : Attributes → Attributes
reversed a = cond (eqb a.set 1) a (with_inverse a true)

-- "ESC 4/0 to 4/7: ink"; "ESC 4/8 flash, 4/9 steady"
abbrev pub column_four : Attributes → ℕ → Attributes
column_four a n =
    cond (ltb n 8) (with_ink a n)
    (cond (eqb n 8) (with_flash a true)
    (cond (eqb n 9) (with_flash a false) a))

-- "ESC 5/0 to 5/7: ground; it waits"; "5/D inverse (no action in G1), 5/C normal"
abbrev pub column_five : Attributes → ℕ → Attributes
column_five a n =
    cond (ltb n 8) (waits_for a n)
    (cond (eqb n 12) (with_inverse a false)
    (cond (eqb n 13) (reversed a) a))

-- ESC and a code, by its column and row; "Other ESC pairs ..: no action"
abbrev pub paired : Attributes → ℕ → Attributes
paired a c = cond (eqb (c / 16) 4) (column_four a (c % 16)) (cond (eqb (c / 16) 5) (column_five a (c % 16)) a)

-- "ESC 5/0 to 5/7: ground"
abbrev pub names_ground : ℕ → Bool
names_ground c = eqb (c / 16) 5 && ltb (c % 16) 8
