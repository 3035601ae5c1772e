-- A cell: blank, in range, the same as another (01, "Screen cells"). Assumes nothing.
use Rattle.std.specs.Prelude.{Bool, false, ◌&&◌, ◌≤◌, leb, eqb}
use Rattle.std.specs.Bool.{beq}
use Rattle.screen_cells.specs.declared.Cell.{Cell}
use Rattle.screen_cells.specs.Characters.{character, good_character, InCharacter, same_character}

-- "A blank cell has set G1, code 2/0, ink 7, ground 0, no flash, not inverse"
abbrev pub blank_of : Cell
blank_of = record { character = character 1 32; ink = 7; ground = 0; flash = false; inverse = false }

-- "colours 0 to 7", and a character in range: the test, and the range
abbrev pub good_cell : Cell → Bool
good_cell c = leb c.ink 7 && (leb c.ground 7 && good_character c.character)

pub record InCell (c : Cell) : Type 0 where
  pub character : InCharacter c.character
  pub ink : c.ink ≤ 7
  pub ground : c.ground ≤ 7

-- of one ink and one ground, both flashing or neither, both inverse or neither
abbrev pub same_looks : Cell → Cell → Bool
same_looks c d =
    eqb c.ink d.ink
    && (eqb c.ground d.ground && (beq c.flash d.flash && beq c.inverse d.inverse))

-- one character that looks the same
abbrev pub same_cell : Cell → Cell → Bool
same_cell c d = same_character c.character d.character && same_looks c d

abbrev pub is_blank : Cell → Bool
is_blank c = same_cell c blank_of
