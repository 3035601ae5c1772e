-- The notes on a record, written out. Assumes nothing.
use Rattle.std.specs.Prelude.{List, [], ◌∷◌, ◌++◌, ℕ, replicate}

-- from collecting with number 0: W1, which is clean; W3, mended at bit 119; W5, mended at bit 127; W6, to be repeated; a
-- character; SYN, SYN and the number before the one awaited; SYN, SYN and the one awaited, 3; W1 again; and a byte more
abbrev pub recorded : List ℕ
recorded =
    replicate 17 0 ++ replicate 14 0 ++ (64 ∷ 27 ∷ 0 ∷ []) ++ replicate 15 0 ++ (128 ∷ 0 ∷ []) ++ replicate 16 0
    ++ (1 ∷ 65 ∷ 150 ∷ 150 ∷ 66 ∷ 150 ∷ 150 ∷ 195 ∷ []) ++ replicate 17 0 ++ (7 ∷ [])

abbrev pub noted_down : List ℕ
noted_down =
    replicate 16 0 ++ (1 ∷ []) ++ replicate 16 0 ++ (247 ∷ []) ++ replicate 16 0 ++ (255 ∷ []) ++ replicate 16 0
    ++ (2 ∷ 3 ∷ 3 ∷ 3 ∷ 3 ∷ 3 ∷ 3 ∷ 4 ∷ []) ++ replicate 16 0 ++ (1 ∷ 0 ∷ [])
