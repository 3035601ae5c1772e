-- One page sent and shown, in bytes: FF, A, REP, J, which is eleven A in row 1. Assumes nothing.
use Rattle.std.specs.Prelude.{false, List, [], ◌∷◌, ◌++◌, ℕ, replicate}
use Rattle.screen_cells.specs.declared.Cell.{Cell}

-- the block arrives hit at two bits of its first byte; SYN, SYN, 4/1 is not what is awaited; the sender begins again
-- with SYN, SYN, 4/0, and the block arrives hit at one bit of its second byte
abbrev pub arrived : List ℕ
arrived =
    15 ∷ 65 ∷ 18 ∷ 202 ∷ 0 ∷ 0 ∷ 0 ∷ 0 ∷ 0 ∷ 0 ∷ 0 ∷ 0 ∷ 0 ∷ 0 ∷ 0 ∷ 166 ∷ 0
    ∷ 150 ∷ 150 ∷ 65
    ∷ 150 ∷ 150 ∷ 192
    ∷ 12 ∷ 193 ∷ 18 ∷ 202 ∷ 0 ∷ 0 ∷ 0 ∷ 0 ∷ 0 ∷ 0 ∷ 0 ∷ 0 ∷ 0 ∷ 0 ∷ 0 ∷ 166 ∷ 0
    ∷ []

-- the request for block 0: NACK, 4/0, with parity
abbrev pub wanted : List ℕ
wanted = 149 ∷ 192 ∷ []

-- this set and code, ink 7, ground 0, no flash, not inverse
abbrev pub white : ℕ → ℕ → Cell
white s d =
    let ground : ℕ = 0 in
    record { character = record { set = s; code = d }; ink = 7; ground = ground; flash = false; inverse = false }

-- row 0, eleven A at the beginning of row 1, and all the rest blank

abbrev pub shown : List Cell
shown =
    replicate 40 (white 1 32) ++ (replicate 11 (white 0 65) ++ replicate 949 (white 1 32))
