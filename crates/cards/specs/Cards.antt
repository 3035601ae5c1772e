-- The bench cards (01, "The bench cards"), as one list and one statement over it. Assumes nothing.
use Rattle.std.specs.Prelude.{Some, ◌≡◌, List, [], ◌∷◌, ◌++◌, map, ℕ, replicate}
use Rattle.block_maker.specs.Making.{make_number, make_left}
use Rattle.block_reader.specs.declared.Verdict.{Verdict}
use Rattle.block_reader.specs.declared.Verdict.TheVariants.{Mended, Repeat}
use Rattle.block_reader.specs.Judging.{verdict, left, handed}
use Rattle.line_phases.specs.declared.Phase.{Phase}
use Rattle.line_phases.specs.declared.Phase.TheVariants.{Collecting, Waiting}
use Rattle.line_receiver.specs.States.{new_receiver}
use Rattle.line_receiver.specs.Runs.{Event, byte, on, run, Sent, sent}
use Rattle.line_receiver.specs.Page.{nothing}
use Rattle.screen_cells.specs.declared.Cell.{Cell}
use Rattle.screen_pen.specs.declared.Pen.{Pen}
use Rattle.screen_page.specs.Pages.{fresh_screen}
use Rattle.screen_answers.specs.Answers.{Taken}
use Rattle.screen.specs.Calls.{runs_to, ran}
use Rattle.cards.specs.Drawn.{ff, rep, us, plain, blanks, rows, start, pen, lately}

-- values and what the maker leaves of them; or a block that arrives, its verdict, the block left and what is handed
-- back; or what happens to a new receiver, what goes out at each event, and the phase and number behind them; or values
-- that a fresh screen takes, and the whole screen behind them: all its cells, and its pen
pub data Card : Type 0 where
  made : List ℕ → List ℕ → Card
  judged : List ℕ → Verdict → List ℕ → List ℕ → Card
  heard : List Event → List Sent → Phase → ℕ → Card
  shown : List ℕ → List Cell → Pen → Card

-- what the maker is lent: one byte more than it may write, and none of them what it writes
abbrev pub lent : List ℕ
lent = replicate 18 255

abbrev pub Holds : Card → Type 0
Holds (made vs B) = (make_number vs lent ≡ 0) × (make_left vs lent ≡ B ++ (255 ∷ []))
Holds (judged B v C h) = (verdict B ≡ v) × (left B ≡ C) × (handed B ≡ h)
Holds (heard es os p x) =
    (sent new_receiver es ≡ os) × ((run new_receiver es).phase ≡ p) × ((run new_receiver es).number ≡ x)
Holds (shown vs cs p) = ran fresh_screen vs ≡ runs_to (record { cells = cs; pen = p }) Taken

abbrev pub EachHolds : List Card → Type 0
EachHolds [] = Unit {0}
EachHolds (c ∷ cs) = Holds c × EachHolds cs

abbrev pub zeros : ℕ → List ℕ
zeros n = replicate n 0

abbrev pub w1 : List ℕ
w1 = zeros 17

-- byte 16 follows the order of section 5-1-3: see docs/SOURCES.md
abbrev pub w2 : List ℕ
w2 = zeros 14 ++ (192 ∷ 27 ∷ 0 ∷ [])

abbrev pub w3 : List ℕ
w3 = zeros 14 ++ (64 ∷ 27 ∷ 0 ∷ [])

abbrev pub w4 : List ℕ
w4 = zeros 15 ++ (1 ∷ 0 ∷ [])

abbrev pub w5 : List ℕ
w5 = zeros 15 ++ (128 ∷ 0 ∷ [])

abbrev pub w6 : List ℕ
w6 = zeros 16 ++ (1 ∷ [])

abbrev pub w7 : List ℕ
w7 = 3 ∷ zeros 16

abbrev pub w8 : List ℕ
w8 = 1 ∷ 1 ∷ zeros 15

-- W1 to W8
abbrev pub block_cards : List Card
block_cards =
    made (zeros 15) w1
    ∷ made (zeros 14 ++ (64 ∷ [])) w2
    ∷ judged w3 (Mended 119) w2 (zeros 14 ++ (192 ∷ []))
    ∷ judged w4 (Mended 120) w1 (zeros 15)
    ∷ judged w5 (Mended 127) w1 (zeros 15)
    ∷ judged w6 Repeat w6 []
    ∷ judged w7 Repeat w7 []
    ∷ judged w8 Repeat w8 []
    ∷ []

-- "W9 then starts from W6" (02, request 2): W6 as first block, and the request 149, 192
abbrev pub w9 : List Event
w9 = on ∷ map byte w6

abbrev pub quiet : ℕ → List Sent
quiet n = replicate n nothing

abbrev pub asked9 : List Sent
asked9 = quiet 17 ++ (record { passed = []; asked = 149 ∷ 192 ∷ []; judged = Some Repeat } ∷ [])

-- W9 to W11
abbrev pub line_cards : List Card
line_cards =
    heard w9 asked9 (Waiting 0) 0
    ∷ heard (w9 ++ map byte (150 ∷ 150 ∷ 150 ∷ 192 ∷ [])) (asked9 ++ quiet 4) Collecting 0
    ∷ heard (w9 ++ map byte (150 ∷ 150 ∷ 65 ∷ [])) (asked9 ++ quiet 3) (Waiting 0) 0
    ∷ []

-- W12 FF, A, REP, J; W13 US 5/8 6/8, A; W14 US 4/1 6/9. Row 0 is the first forty cells, row 1 the next
abbrev pub screen_cards : List Card
screen_cards =
    shown (ff ∷ 65 ∷ rep ∷ 74 ∷ []) (rows 1 ++ replicate 11 (plain 65) ++ blanks 29 ++ rows 23)
    (lately 0 65 (pen 1 12 start))
    ∷ shown (us ∷ 88 ∷ 104 ∷ 65 ∷ []) (rows 24 ++ blanks 39 ++ plain 65 ∷ []) (lately 0 65 (pen 1 1 start))
    ∷ shown (us ∷ 65 ∷ 105 ∷ []) (rows 25) (pen 1 1 start)
    ∷ []

abbrev pub cards : List Card
cards = block_cards ++ (line_cards ++ screen_cards)
