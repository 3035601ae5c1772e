-- Cells are the same exactly where they are equal. Assumes nothing.
use mathlib.Core.Path.{◌≡◌, refl, sym, ap, ap₂, ◌∙◌}
use mathlib.Core.Bool.{Bool, true, beq}
use mathlib.Core.List.{[], ◌∷◌}
use Prim.Native.Nat.{ℕ}
use lib.Dec.{eqb}
use borrow.Author.Tests.{eqb-true, eq-eqb}
use Rattle.std.specs.Cmp.{booleans_Decides}
use Rattle.laws.proofs.Computed.{each}
use Rattle.screen_cells.specs.declared.Character.{Character}
use Rattle.screen_cells.specs.declared.Cell.{Cell}
use Rattle.screen_cells.specs.Characters.{character, same_character}
use Rattle.screen_cells.specs.Cells.{same_cell}

-- ---- cells

characters_equal : (c d : Character) → same_character c d ≡ true → c ≡ d
characters_equal c d e =
    let t = each (eqb c.set d.set ∷ eqb c.code d.code ∷ []) e in
    ap₂ character (eqb-true c.set d.set t.0) (eqb-true c.code d.code t.1)

pub same_equal : (c d : Cell) → same_cell c d ≡ true → c ≡ d
same_equal c d e =
    let t =
    each
    (same_character c.character d.character ∷ eqb c.ink d.ink ∷ eqb c.ground d.ground
    ∷ beq c.flash d.flash ∷ beq c.inverse d.inverse ∷ []) e in
    let k = characters_equal c.character d.character t.0 in
    let i = eqb-true c.ink d.ink t.1.0 in
    let g = eqb-true c.ground d.ground t.1.1.0 in
    let f = (booleans_Decides c.flash d.flash).0 t.1.1.1.0 in
    let v = (booleans_Decides c.inverse d.inverse).0 t.1.1.1.1 in
    ap₂ (λ (x : Character) (n : ℕ). record { character = x; ink = n; ground = c.ground; flash = c.flash; inverse = c.inverse }) k i
    ∙ ap₂ (λ (n : ℕ) (s : Bool). record { character = d.character; ink = d.ink; ground = n; flash = s; inverse = c.inverse }) g f
    ∙ ap (λ (s : Bool). record { character = d.character; ink = d.ink; ground = d.ground; flash = d.flash; inverse = s }) v

itself_same : (c : Cell) → same_cell c c ≡ true
itself_same c =
    simp (
      eq-eqb c.character.set c.character.set refl,
      eq-eqb c.character.code c.character.code refl,
      eq-eqb c.ink c.ink refl,
      eq-eqb c.ground c.ground refl,
      (booleans_Decides c.flash c.flash).1 refl,
      (booleans_Decides c.inverse c.inverse).1 refl,
    )

pub equal_same : (c d : Cell) → c ≡ d → same_cell c d ≡ true
equal_same c d e = ap (same_cell c) (sym e) ∙ itself_same c
