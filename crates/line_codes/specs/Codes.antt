-- The codes that pass between the hut and the sender (01, "The receiver"; 001, sections 5-3-5 and 5-3-6). Assumes
-- nothing.
use Rattle.std.specs.Prelude.{◌≡◌, cond, ◌&&◌, List, [], ◌∷◌, ◌++◌, ℕ, ◌+◌, ◌%◌, ltb, eqb}
use Rattle.block_parity.specs.Parity.{even, with_parity}
use Rattle.line_codes.specs.declared.Listened.{Listened}
use Rattle.line_codes.specs.declared.Listened.TheVariants.{Seen, Resumed}

-- "each byte is passed on with parity removed; a byte of odd parity passes as 7/F"
abbrev pub plainly : ℕ → ℕ
plainly b = cond (even b) (b % 128) 127

-- "block number 0 to 15"
abbrev pub numbers : List ℕ
numbers = 0 ∷ 1 ∷ 2 ∷ 3 ∷ 4 ∷ 5 ∷ 6 ∷ 7 ∷ 8 ∷ 9 ∷ 10 ∷ 11 ∷ 12 ∷ 13 ∷ 14 ∷ 15 ∷ []

-- "the number rises by one (15 becomes 0)"
abbrev pub next : ℕ → ℕ
next x = (x + 1) % 16

-- ---- codes with parity; that SYN and NACK carry it is a theorem

-- SYN (1/6)
abbrev pub syn : ℕ
syn = 150

-- NACK (1/5)
abbrev pub nack : ℕ
nack = 149

-- 4/X: column 4, row X of sixteen
abbrev pub four : ℕ → ℕ
four x = with_parity (64 + x % 16)

-- "the request NACK (1/5), 4/X .., both with parity"
abbrev pub request : ℕ → List ℕ
request x = nack ∷ four x ∷ []

-- ---- beginning again

-- a SYN more: two at most count
abbrev pub one_more : ℕ → ℕ
one_more n = cond (ltb n 2) (n + 1) 2

-- a byte b after n synchronising codes, block x being awaited
abbrev pub listened : ℕ → ℕ → ℕ → Listened
listened x n b = cond (eqb b syn) (Seen (one_more n)) (cond (eqb n 2 && eqb b (four x)) Resumed (Seen 0))

-- "the last three since entering this phase are SYN (1/6), SYN, 4/X with parity"
abbrev pub Ends : ℕ → List ℕ → Type 0
Ends x ws = (us : List ℕ) × (ws ≡ us ++ (syn ∷ syn ∷ four x ∷ []))

-- these three stand nowhere in the bytes
abbrev pub Nowhere : ℕ → List ℕ → Type 0
Nowhere x ws = (us vs : List ℕ) → ws ≡ us ++ (syn ∷ syn ∷ four x ∷ vs) → ⊥
