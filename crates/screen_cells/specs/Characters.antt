-- A character: its range, and whether it takes a ground that waits (01, "Screen cells"). Assumes nothing.
use Rattle.std.specs.Prelude.{Bool, ◌&&◌, ◌||◌, ℕ, ◌≤◌, leb, eqb}
use Rattle.screen_cells.specs.declared.Character.{Character}

-- the character of set s and code d
abbrev pub character : ℕ → ℕ → Character
character s d = record { set = s; code = d }

-- "In range are: sets G0, G1, G2 for cells and the last character ..; codes 2/0 to 7/F": the test, and the range
unfoldable pub good_character : Character → Bool
good_character c = leb c.set 2 && (leb 32 c.code && leb c.code 127)

pub record InCharacter (c : Character) : Type 0 where
  pub set : c.set ≤ 2
  pub low : 32 ≤ c.code
  pub high : c.code ≤ 127

-- "it waits until a G0 space or any G1 character, which takes it": the one predicate
abbrev pub takes : Character → Bool
takes c = eqb c.set 1 || (eqb c.set 0 && eqb c.code 32)

-- of one set and one code
abbrev pub same_character : Character → Character → Bool
same_character c d = eqb c.set d.set && eqb c.code d.code
