-- Which order a value gives after an unfinished sequence (01, "Screen cells"; code values: 001, part 2, chapter 2).
-- Assumes nothing.
use Rattle.std.specs.Prelude.{Bool, true, false, cond, ◌&&◌, List, [], ◌∷◌, ℕ, ◌-◌, ◌/◌, ltb, leb, eqb}
use Rattle.screen_sequences.specs.declared.Sequence.{Sequence}
use Rattle.screen_sequences.specs.declared.Sequence.TheVariants.{Free, Escape, Long, Control, Separator, Repeat}
use Rattle.screen_sequences.specs.declared.Sequence.TheVariants.{Single, Address, Row}
use Rattle.screen_sequences.specs.declared.Order.{Order}
use Rattle.screen_sequences.specs.declared.Order.TheVariants.{Skip, Left, Right, Up, Down, First, Clear, Home}
use Rattle.screen_sequences.specs.declared.Order.TheVariants.{ShiftOut, ShiftIn, Show, Hide, Pair, Go, Write}
use Rattle.screen_sequences.specs.declared.Order.TheVariants.{Second, Again}
use Rattle.screen_sequences.specs.declared.Heard.{Heard}

-- "In range are: .. an unfinished sequence that the rules below leave open": a row's code is 2/0 to 7/F
abbrev pub in_range : Sequence → Bool
in_range Free = true
in_range Escape = true
in_range Long = true
in_range Control = true
in_range Separator = true
in_range Repeat = true
in_range Single = true
in_range Address = true
in_range (Row r) = leb 32 r && leb r 127

abbrev pub is_free : Sequence → Bool
is_free Free = true
is_free Escape = false
is_free Long = false
is_free Control = false
is_free Separator = false
is_free Repeat = false
is_free Single = false
is_free Address = false
is_free (Row r) = false

-- the sequence ends, with this order
abbrev pub does : Order → Heard
does o = record { sequence = Free; order = o }

-- the sequence goes on, and nothing is ordered
abbrev pub opens : Sequence → Heard
opens q = record { sequence = q; order = Skip }

abbrev pub is_separator : Sequence → Bool
is_separator Free = false
is_separator Escape = false
is_separator Long = false
is_separator Control = false
is_separator Separator = true
is_separator Repeat = false
is_separator Single = false
is_separator Address = false
is_separator (Row r) = false

-- ---- C0 codes

-- what stands beside b in a table, or the last argument
abbrev pub among : {A : Type 0} → ℕ → List (ℕ × A) → A → A
among b [] d = d
among b (e ∷ es) d = cond (eqb b e.0) e.1 (among b es d)

-- BS HT LF VT FF CR SO SI (0/8 to 0/F), CON (1/1), COFF (1/4), RS (1/E)
abbrev pub orders : List (ℕ × Order)
orders =
    (8, Left) ∷ (9, Right) ∷ (10, Down) ∷ (11, Up) ∷ (12, Clear) ∷ (13, First) ∷ (14, ShiftOut) ∷ (15, ShiftIn)
    ∷ (17, Show) ∷ (20, Hide) ∷ (30, Home) ∷ []

-- REP (1/2), SEP (1/3), SS2 (1/9), ESC (1/B), US (1/F)
abbrev pub beginnings : List (ℕ × Sequence)
beginnings = (18, Repeat) ∷ (19, Separator) ∷ (25, Single) ∷ (27, Escape) ∷ (31, Address) ∷ []

-- "other C0 codes: no action"
abbrev pub order : ℕ → Order
order b = among b orders Skip

abbrev pub begins : ℕ → Sequence
begins b = among b beginnings Free

abbrev pub control : ℕ → Heard
control b = record { sequence = begins b; order = order b }

-- ---- codes from 2/0

-- column 2 and 5/B begin a longer sequence; any other code makes a pair with ESC
abbrev pub escaped : ℕ → Heard
escaped c = cond (ltb c 48) (opens Long) (cond (eqb c 91) (opens Control) (does (Pair c)))

-- dropped up to a code from this one to 7/E
abbrev pub dropped : Sequence → ℕ → ℕ → Heard
dropped q from c = cond (leb from c && leb c 126) (does Skip) (opens q)

-- 4/0: no times more
abbrev pub no_times : ℕ
no_times = 64

-- "REP n, n from 4/0 to 7/F: .. n minus 64 times more"; "Other n from 2/0: dropped"
abbrev pub again : ℕ → Heard
again c = cond (ltb c no_times) (does Skip) (does (Again (c - no_times)))

-- "SS2 and a code from 2/0: a G2 cell; a code of column 4 is swallowed"
abbrev pub single : ℕ → Heard
single c = cond (eqb (c / 16) 4) (does Skip) (does (Second c))

-- a code from 2/0 after the sequence so far: "ESC and column 2: dropped up to a code of 3/0 to 7/E. ESC 5/B: dropped up
-- to a code of 4/0 to 7/E. SEP drops one code"
abbrev pub followed : Sequence → ℕ → Heard
followed Free c = does (Write c)
followed Escape c = escaped c
followed Long c = dropped Long 48 c
followed Control c = dropped Control 64 c
followed Separator c = does Skip
followed Repeat c = again c
followed Single c = single c
followed Address c = opens (Row c)
followed (Row r) c = does (Go r c)

-- "NUL is skipped everywhere. Any other C0 code inside a sequence ends it and is obeyed, except the code after SEP"
abbrev pub heard : Sequence → ℕ → Heard
heard q b =
    cond (eqb b 0) (opens q)
    (cond (ltb 31 b) (followed q b)
    (cond (is_separator q) (does Skip) (control b)))
