-- What pairs of ESC do, written out (01, "Screen cells"). Assumes nothing.
use mathlib.Core.Path.{◌≡◌, refl}
use mathlib.Core.List.{List, [], ◌∷◌}
use Prim.Native.Nat.{ℕ}
use Rattle.screen_attributes.specs.declared.Attributes.{Attributes}
use Rattle.screen_attributes.proofs.Literal.{those, awaiting, flashing, inverted}
use Rattle.screen_escapes.specs.Pairing.{paired}

-- from these attributes, ESC and each code give those beside it
abbrev Give : Attributes → List (ℕ × Attributes) → Type 0
Give a [] = Unit {0}
Give a (e ∷ es) = (paired a e.0 ≡ e.1) × Give a es

-- "ESC 4/0 to 4/7: ink"; "ESC 5/0 to 5/7: ground; it waits"
abbrev colours : List (ℕ × Attributes)
colours =
    (64, inverted (flashing (awaiting 3 (those 0 0 2))))
    ∷ (71, inverted (flashing (awaiting 3 (those 0 7 2))))
    ∷ (80, inverted (flashing (awaiting 0 (those 0 1 2))))
    ∷ (87, inverted (flashing (awaiting 7 (those 0 1 2))))
    ∷ []

-- "ESC 4/8 flash, 4/9 steady; 5/D inverse .., 5/C normal": from steady and normal, and from flash and inverse
abbrev on : List (ℕ × Attributes)
on =
    (72, flashing (those 0 1 2))
    ∷ (73, those 0 1 2)
    ∷ (92, those 0 1 2)
    ∷ (93, inverted (those 0 1 2))
    ∷ []

abbrev off : List (ℕ × Attributes)
off =
    (72, inverted (flashing (awaiting 3 (those 0 1 2))))
    ∷ (73, inverted (awaiting 3 (those 0 1 2)))
    ∷ (92, flashing (awaiting 3 (those 0 1 2)))
    ∷ (93, inverted (flashing (awaiting 3 (those 0 1 2))))
    ∷ []

-- "(no action in G1)", and "Other ESC pairs ..: no action"
abbrev mosaics : List (ℕ × Attributes)
mosaics = (93, flashing (awaiting 3 (those 1 1 2))) ∷ (92, flashing (awaiting 3 (those 1 1 2))) ∷ []

abbrev others : List ℕ
others = 48 ∷ 63 ∷ 74 ∷ 79 ∷ 88 ∷ 89 ∷ 90 ∷ 91 ∷ 94 ∷ 95 ∷ 96 ∷ 111 ∷ 112 ∷ 127 ∷ []

abbrev Idle : Attributes → List ℕ → Type 0
Idle a [] = Unit {0}
Idle a (c ∷ cs) = (paired a c ≡ a) × Idle a cs

pub pairs_are : Give (inverted (flashing (awaiting 3 (those 0 1 2)))) colours
    × Give (those 0 1 2) on × Give (inverted (flashing (awaiting 3 (those 0 1 2)))) off
    × Give (flashing (awaiting 3 (those 1 1 2))) mosaics × Idle (inverted (flashing (awaiting 3 (those 0 1 2)))) others
pairs_are = (
  (refl, (refl, (refl, (refl, tt)))),
  (refl, (refl, (refl, (refl, tt)))),
  (refl, (refl, (refl, (refl, tt)))),
  (refl, (refl, tt)),
  (refl, (refl, (refl, (refl, (refl, (refl, (refl, (refl, (refl, (refl, (refl, (refl, (refl, (refl, tt)))))))))))))),
)
