-- Sequences worked by hand: what each value of a row of values orders, and what is unfinished then. Assumes nothing.
use mathlib.Core.Path.{◌≡◌, refl}
use mathlib.Core.List.{List, [], ◌∷◌, ◌++◌, map}
use Prim.Native.Nat.{ℕ}
use lib.ListN.{replicate}
use Rattle.screen_sequences.specs.declared.Sequence.{Sequence}
use Rattle.screen_sequences.specs.declared.Sequence.TheVariants.{Free, Escape, Long, Control, Separator, Repeat}
use Rattle.screen_sequences.specs.declared.Sequence.TheVariants.{Single, Address, Row}
use Rattle.screen_sequences.specs.declared.Order.{Order}
use Rattle.screen_sequences.specs.declared.Order.TheVariants.{Skip, Left, Right, Up, Down, First, Clear, Home}
use Rattle.screen_sequences.specs.declared.Order.TheVariants.{ShiftOut, ShiftIn, Show, Hide, Pair, Go, Write}
use Rattle.screen_sequences.specs.declared.Order.TheVariants.{Second, Again}
use Rattle.screen_sequences.specs.Sequences.{heard}
use Rattle.screen_sequences.specs.Opening.{opened}

-- what the values order, one after the other
abbrev orders : Sequence → List ℕ → List Order
orders q [] = []
orders q (b ∷ bs) = (heard q b).order ∷ orders (heard q b).sequence bs

-- what values give, with nothing unfinished before them: their orders, and what is unfinished after them
abbrev given : List ℕ → List Order × Sequence
given vs = (orders Free vs, opened Free vs)

-- nothing ordered, n times
abbrev silent : ℕ → List Order
silent n = replicate n Skip

abbrev Card : Type 0
Card = List ℕ × (List Order × Sequence)

abbrev gives : List ℕ → List Order → Sequence → Card
gives vs os q = (vs, (os, q))

abbrev pub worked : List Card
worked =
    -- BS HT LF VT FF CR SO SI, CON, COFF, RS
    gives (8 ∷ 9 ∷ 10 ∷ 11 ∷ 12 ∷ 13 ∷ 14 ∷ 15 ∷ 17 ∷ 20 ∷ 30 ∷ [])
    (Left ∷ Right ∷ Down ∷ Up ∷ Clear ∷ First ∷ ShiftOut ∷ ShiftIn ∷ Show ∷ Hide ∷ Home ∷ []) Free
    -- the other C0 codes
    ∷ gives (0 ∷ 1 ∷ 2 ∷ 3 ∷ 4 ∷ 5 ∷ 6 ∷ 7 ∷ 16 ∷ 21 ∷ 22 ∷ 23 ∷ 24 ∷ 26 ∷ 28 ∷ 29 ∷ []) (silent 16) Free
    -- REP, SEP, SS2, ESC and US begin a sequence; ESC 2/0 and ESC 5/B a longer one; US and a code wait for a column
    ∷ gives (18 ∷ []) (Skip ∷ []) Repeat
    ∷ gives (19 ∷ []) (Skip ∷ []) Separator
    ∷ gives (25 ∷ []) (Skip ∷ []) Single
    ∷ gives (27 ∷ []) (Skip ∷ []) Escape
    ∷ gives (31 ∷ []) (Skip ∷ []) Address
    ∷ gives (27 ∷ 32 ∷ []) (silent 2) Long
    ∷ gives (27 ∷ 91 ∷ []) (silent 2) Control
    ∷ gives (31 ∷ 65 ∷ []) (silent 2) (Row 65)
    -- 2/0, A and 7/F
    ∷ gives (32 ∷ 65 ∷ 127 ∷ []) (Write 32 ∷ Write 65 ∷ Write 127 ∷ []) Free
    -- REP and 3/F, 4/0, 4/1, 7/F
    ∷ gives (18 ∷ 63 ∷ 18 ∷ 64 ∷ 18 ∷ 65 ∷ 18 ∷ 127 ∷ [])
    (Skip ∷ Skip ∷ Skip ∷ Again 0 ∷ Skip ∷ Again 1 ∷ Skip ∷ Again 63 ∷ []) Free
    -- SS2 and 2/0, 3/F, 4/0, 4/F, 5/0
    ∷ gives (25 ∷ 32 ∷ 25 ∷ 63 ∷ 25 ∷ 64 ∷ 25 ∷ 79 ∷ 25 ∷ 80 ∷ [])
    (Skip ∷ Second 32 ∷ Skip ∷ Second 63 ∷ Skip ∷ Skip ∷ Skip ∷ Skip ∷ Skip ∷ Second 80 ∷ []) Free
    -- ESC and 3/0, 4/1, 5/A, 5/C, 7/F
    ∷ gives (27 ∷ 48 ∷ 27 ∷ 65 ∷ 27 ∷ 90 ∷ 27 ∷ 92 ∷ 27 ∷ 127 ∷ [])
    (Skip ∷ Pair 48 ∷ Skip ∷ Pair 65 ∷ Skip ∷ Pair 90 ∷ Skip ∷ Pair 92 ∷ Skip ∷ Pair 127 ∷ []) Free
    -- ESC 2/F 2/0 7/F 3/0, A; ESC 2/0 7/E, A
    ∷ gives (27 ∷ 47 ∷ 32 ∷ 127 ∷ 48 ∷ 65 ∷ 27 ∷ 32 ∷ 126 ∷ 65 ∷ []) (silent 5 ++ (Write 65 ∷ silent 3 ++ (Write 65 ∷ [])))
    Free
    -- ESC 5/B 3/F 7/F 4/0, A; ESC 5/B 7/E, A
    ∷ gives (27 ∷ 91 ∷ 63 ∷ 127 ∷ 64 ∷ 65 ∷ 27 ∷ 91 ∷ 126 ∷ 65 ∷ []) (silent 5 ++ (Write 65 ∷ silent 3 ++ (Write 65 ∷ [])))
    Free
    -- US 4/1 6/8, and US 2/0 7/F, which names no place
    ∷ gives (31 ∷ 65 ∷ 104 ∷ 31 ∷ 32 ∷ 127 ∷ []) (Skip ∷ Skip ∷ Go 65 104 ∷ Skip ∷ Skip ∷ Go 32 127 ∷ []) Free
    -- SEP A, A; SEP ESC, A; SEP BS, BS
    ∷ gives (19 ∷ 65 ∷ 65 ∷ 19 ∷ 27 ∷ 65 ∷ 19 ∷ 8 ∷ 8 ∷ [])
    (Skip ∷ Skip ∷ Write 65 ∷ Skip ∷ Skip ∷ Write 65 ∷ Skip ∷ Skip ∷ Left ∷ []) Free
    -- NUL within ESC 4/1, US 4/1 6/8, SEP A and REP 4/1
    ∷ gives (27 ∷ 0 ∷ 65 ∷ 31 ∷ 0 ∷ 65 ∷ 0 ∷ 104 ∷ 19 ∷ 0 ∷ 65 ∷ 18 ∷ 0 ∷ 65 ∷ [])
    (Skip ∷ Skip ∷ Pair 65 ∷ silent 4 ++ (Go 65 104 ∷ silent 5 ++ (Again 1 ∷ []))) Free
    -- another C0 code within a sequence: ESC BS; US 4/1 BS; REP FF; SS2 CR; ESC 2/0 HT; ESC 5/B VT; US ESC 4/1
    ∷ gives (27 ∷ 8 ∷ 31 ∷ 65 ∷ 8 ∷ 18 ∷ 12 ∷ 25 ∷ 13 ∷ 27 ∷ 32 ∷ 9 ∷ 27 ∷ 91 ∷ 11 ∷ 31 ∷ 27 ∷ 65 ∷ [])
    (Skip ∷ Left ∷ Skip ∷ Skip ∷ Left ∷ Skip ∷ Clear ∷ Skip ∷ First ∷ Skip ∷ Skip ∷ Right ∷ Skip ∷ Skip ∷ Up ∷ Skip
    ∷ Skip ∷ Pair 65 ∷ [])
    Free
    ∷ []

pub worked_so : map (λ (c : Card). given c.0) worked ≡ map (λ (c : Card). c.1) worked
worked_so = refl
