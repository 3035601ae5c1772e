-- What the tests of a character and of a cell say. Assumes nothing.
use mathlib.Core.Path.{◌≡◌}
use mathlib.Core.Bool.{true}
use mathlib.Core.List.{[], ◌∷◌}
use lib.Dec.{leb, lit≤}
use borrow.Author.Tests.{leb-true, le-leb}
use Rattle.laws.proofs.Computed.{each}
use Rattle.screen_cells.specs.declared.Character.{Character}
use Rattle.screen_cells.specs.declared.Cell.{Cell}
use Rattle.screen_cells.specs.Characters.{good_character, InCharacter}
use Rattle.screen_cells.specs.Cells.{blank_of, good_cell, InCell}

pub character_true : {c : Character} → InCharacter c → good_character c ≡ true
unfolding good_character
character_true h = simp (le-leb _ _ h.set, le-leb _ _ h.low, le-leb _ _ h.high)

pub true_character : (c : Character) → good_character c ≡ true → InCharacter c
unfolding good_character
true_character c e =
    let t = each (leb c.set 2 ∷ leb 32 c.code ∷ leb c.code 127 ∷ []) e in
    record { set = leb-true _ _ t.0; low = leb-true _ _ t.1.0; high = leb-true _ _ t.1.1 }

pub cell_true : {c : Cell} → InCell c → good_cell c ≡ true
cell_true h = simp (le-leb _ _ h.ink, le-leb _ _ h.ground, character_true h.character)

pub true_cell : (c : Cell) → good_cell c ≡ true → InCell c
true_cell c e =
    let t = each (leb c.ink 7 ∷ leb c.ground 7 ∷ good_character c.character ∷ []) e in
    record {
      character = true_character c.character t.1.1;
      ink = leb-true _ _ t.0;
      ground = leb-true _ _ t.1.0;
    }

pub blank_in : InCell blank_of
blank_in =
    record { character = record { set = lit≤ tt; low = lit≤ tt; high = lit≤ tt }; ink = lit≤ tt; ground = lit≤ tt }
