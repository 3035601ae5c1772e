-- Cards of the links: worked runs, with every byte written out (01, "Links and commands"; 001, part 2, chapter 6), as
-- one list and one statement over it. Assumes nothing.
use Rattle.std.specs.Prelude.{◌≡◌, true, false, List, [], ◌∷◌, ◌++◌, map, ℕ, replicate}
use Rattle.links_wiring.specs.declared.Module.{Module}
use Rattle.links_wiring.specs.declared.Module.TheVariants.{Screen, Keyboard, Modem, Socket}
use Rattle.links_wiring.specs.Reading.{all_reached}
use Rattle.links_hearing.specs.declared.Unfinished.TheVariants.{Free, Escape, Pro1, Pro2, Pro2With}
use Rattle.links_hearing.specs.declared.Unfinished.TheVariants.{Pro3, Pro3With, Pro3Both}
use Rattle.links_hearing.specs.Hearing.{codes_of}
use Rattle.few.specs.declared.Few.{Few}
use Rattle.few.specs.Bytes.{contents}
use Rattle.links_sending.specs.Sending.{Sent}
use Rattle.links.specs.declared.Links.{Links}
use Rattle.links.specs.declared.Outcome.{Outcome}
use Rattle.links.specs.States.{local_links, connected_links}
use Rattle.links.specs.Calls.{told, from_keyboard, from_modem, from_socket, with_local, with_connected}

-- ---- what is called

-- each value is a call of its own
abbrev pub keys : List ℕ → List (Links → Outcome)
keys vs = map (λ (v : ℕ) (l : Links). from_keyboard l v) vs

abbrev pub modem : List ℕ → List (Links → Outcome)
modem vs = map (λ (v : ℕ) (l : Links). from_modem l v) vs

abbrev pub socket : List ℕ → List (Links → Outcome)
socket vs = map (λ (v : ℕ) (l : Links). from_socket l v) vs

-- the host chooses a table
abbrev pub to_local : List (Links → Outcome)
to_local = with_local ∷ []

abbrev pub to_connected : List (Links → Outcome)
to_connected = with_connected ∷ []

-- ---- what is seen of it

-- the number of each call; what each receiver gets, one call after another; the table behind them, as the receivers
-- that screen, keyboard, modem and socket reach; and the codes unfinished from modem and from socket
pub record Seen : Type 0 where
  pub numbers : List ℕ
  pub screen : List ℕ
  pub keyboard : List ℕ
  pub modem : List ℕ
  pub socket : List ℕ
  pub table : List (List Module)
  pub unfinished : List (List ℕ)

abbrev pub numbers_of : Links → List (Links → Outcome) → List ℕ
numbers_of l [] = []
numbers_of l (c ∷ cs) = (told (c l).answer).number ∷ numbers_of (c l).next cs

abbrev pub got_by : (Sent → Few 5) → Links → List (Links → Outcome) → List ℕ
got_by part l [] = []
got_by part l (c ∷ cs) =
    contents (part (c l).sent) ++ got_by part (c l).next cs

abbrev pub after : Links → List (Links → Outcome) → Links
after l [] = l
after l (c ∷ cs) = after (c l).next cs

abbrev pub seen : Links → List (Links → Outcome) → Seen
seen l cs =
    record {
      numbers = numbers_of l cs;
      screen = got_by (λ (s : Sent). s.screen) l cs;
      keyboard = got_by (λ (s : Sent). s.keyboard) l cs;
      modem = got_by (λ (s : Sent). s.modem) l cs;
      socket = got_by (λ (s : Sent). s.socket) l cs;
      table = all_reached (after l cs).table;
      unfinished = codes_of (after l cs).unfinished.modem ∷ codes_of (after l cs).unfinished.socket ∷ [];
    }

-- ---- a card

-- the state that it begins with and the calls; then the numbers, what screen, keyboard, modem and socket get, the table
-- and what is unfinished
pub data LinkCard : Type 0 where
  card :
      Links → List (Links → Outcome) → List ℕ → List ℕ → List ℕ → List ℕ → List ℕ → List (List Module)
      → List (List ℕ) → LinkCard

abbrev pub Holds : LinkCard → Type 0
Holds (card l cs n a b c d t u) =
    seen l cs
    ≡ record { numbers = n; screen = a; keyboard = b; modem = c; socket = d; table = t; unfinished = u }

abbrev pub EachHolds : List LinkCard → Type 0
EachHolds [] = Unit {0}
EachHolds (c ∷ cs) = Holds c × EachHolds cs

-- ---- words of the cards

-- so many calls are taken
abbrev pub zeros : ℕ → List ℕ
zeros n = replicate n 0

-- nothing unfinished
abbrev pub none : List (List ℕ)
none = [] ∷ [] ∷ []

-- «clavier vers modem», «clavier vers prise péri-informatique», «modem vers écran», «prise péri-informatique vers
-- écran»
abbrev pub as_local : List (List Module)
as_local = [] ∷ (Modem ∷ Socket ∷ []) ∷ (Screen ∷ []) ∷ (Screen ∷ []) ∷ []

-- «clavier vers modem», «modem vers écran», «modem vers prise péri-informatique», «prise péri-informatique vers modem»
abbrev pub as_connected : List (List Module)
as_connected = [] ∷ (Modem ∷ []) ∷ (Screen ∷ Socket ∷ []) ∷ (Modem ∷ []) ∷ []

-- ---- asking: PRO2, 6/2 and a receiver

abbrev pub asking : List LinkCard
asking =
    card local_links
    (modem (27 ∷ 58 ∷ 98 ∷ 88 ∷ 27 ∷ 58 ∷ 98 ∷ 89 ∷ 27 ∷ 58 ∷ 98 ∷ 90 ∷ 27 ∷ 58 ∷ 98 ∷ 91 ∷ []))
    (zeros 16) [] []
    (27 ∷ 59 ∷ 99 ∷ 88 ∷ 77 ∷ 27 ∷ 59 ∷ 99 ∷ 89 ∷ 66 ∷ 27 ∷ 59 ∷ 99 ∷ 90 ∷ 70 ∷ 27 ∷ 59 ∷ 99 ∷ 91 ∷ 74 ∷ [])
    [] as_local none
    ∷ card connected_links
    (socket (27 ∷ 58 ∷ 98 ∷ 88 ∷ 27 ∷ 58 ∷ 98 ∷ 89 ∷ 27 ∷ 58 ∷ 98 ∷ 90 ∷ 27 ∷ 58 ∷ 98 ∷ 91 ∷ []))
    (zeros 16) [] [] []
    (27 ∷ 59 ∷ 99 ∷ 88 ∷ 69 ∷ 27 ∷ 59 ∷ 99 ∷ 89 ∷ 66 ∷ 27 ∷ 59 ∷ 99 ∷ 90 ∷ 78 ∷ 27 ∷ 59 ∷ 99 ∷ 91 ∷ 76 ∷ [])
    as_connected none
    ∷ card local_links (socket (27 ∷ 58 ∷ 98 ∷ 91 ∷ [])) (zeros 4) [] [] [] (27 ∷ 59 ∷ 99 ∷ 91 ∷ 74 ∷ []) as_local none
    ∷ card connected_links (modem (27 ∷ 58 ∷ 98 ∷ 90 ∷ [])) (zeros 4) [] [] (27 ∷ 59 ∷ 99 ∷ 90 ∷ 78 ∷ []) []
    as_connected none
    ∷ []

-- ---- setting: PRO3, 6/1, a receiver and a sender

abbrev pub setting : List LinkCard
setting =
    -- keyboard to screen, and a key
    card local_links (modem (27 ∷ 59 ∷ 97 ∷ 88 ∷ 81 ∷ []) ++ keys (65 ∷ [])) (zeros 6) (65 ∷ []) []
    (27 ∷ 59 ∷ 99 ∷ 88 ∷ 79 ∷ 65 ∷ []) (65 ∷ [])
    ([] ∷ (Screen ∷ Modem ∷ Socket ∷ []) ∷ (Screen ∷ []) ∷ (Screen ∷ []) ∷ []) none
    -- keyboard to socket, and a key
    ∷ card connected_links (socket (27 ∷ 59 ∷ 97 ∷ 91 ∷ 81 ∷ []) ++ keys (66 ∷ [])) (zeros 6) [] [] (66 ∷ [])
    (27 ∷ 59 ∷ 99 ∷ 91 ∷ 78 ∷ 66 ∷ []) ([] ∷ (Modem ∷ Socket ∷ []) ∷ (Screen ∷ Socket ∷ []) ∷ (Modem ∷ []) ∷ []) none
    -- modem to keyboard, and a value
    ∷ card local_links (modem (27 ∷ 59 ∷ 97 ∷ 89 ∷ 82 ∷ 67 ∷ [])) (zeros 6) (67 ∷ []) (67 ∷ [])
    (27 ∷ 59 ∷ 99 ∷ 89 ∷ 70 ∷ []) [] ([] ∷ (Modem ∷ Socket ∷ []) ∷ (Screen ∷ Keyboard ∷ []) ∷ (Screen ∷ []) ∷ [])
    none
    -- screen to modem
    ∷ card local_links (socket (27 ∷ 59 ∷ 97 ∷ 90 ∷ 80 ∷ [])) (zeros 5) [] [] [] (27 ∷ 59 ∷ 99 ∷ 90 ∷ 71 ∷ [])
    ((Modem ∷ []) ∷ (Modem ∷ Socket ∷ []) ∷ (Screen ∷ []) ∷ (Screen ∷ []) ∷ []) none
    -- socket to keyboard, from the modem
    ∷ card connected_links (modem (27 ∷ 59 ∷ 97 ∷ 89 ∷ 83 ∷ [])) (zeros 5) [] [] (27 ∷ 59 ∷ 99 ∷ 89 ∷ 74 ∷ []) []
    ([] ∷ (Modem ∷ []) ∷ (Screen ∷ Socket ∷ []) ∷ (Keyboard ∷ Modem ∷ []) ∷ []) none
    -- modem to screen, which is linked already
    ∷ card local_links (modem (27 ∷ 59 ∷ 97 ∷ 88 ∷ 82 ∷ [])) (zeros 5) [] [] (27 ∷ 59 ∷ 99 ∷ 88 ∷ 77 ∷ []) [] as_local
    none
    ∷ []

-- ---- clearing: PRO3, 6/0, a receiver and a sender

abbrev pub clearing : List LinkCard
clearing =
    -- keyboard to modem, and a key
    card local_links (socket (27 ∷ 59 ∷ 96 ∷ 90 ∷ 81 ∷ []) ++ keys (65 ∷ [])) (zeros 6) [] [] []
    (27 ∷ 59 ∷ 99 ∷ 90 ∷ 68 ∷ 65 ∷ []) ([] ∷ (Socket ∷ []) ∷ (Screen ∷ []) ∷ (Screen ∷ []) ∷ []) none
    -- modem to screen, and a value
    ∷ card connected_links (modem (27 ∷ 59 ∷ 96 ∷ 88 ∷ 82 ∷ 65 ∷ [])) (zeros 6) [] []
    (27 ∷ 59 ∷ 99 ∷ 88 ∷ 65 ∷ []) (65 ∷ []) ([] ∷ (Modem ∷ []) ∷ (Socket ∷ []) ∷ (Modem ∷ []) ∷ []) none
    -- socket to modem, from the modem, and a value of the socket
    ∷ card connected_links (modem (27 ∷ 59 ∷ 96 ∷ 90 ∷ 83 ∷ []) ++ socket (65 ∷ [])) (zeros 6) [] []
    (27 ∷ 59 ∷ 99 ∷ 90 ∷ 70 ∷ []) [] ([] ∷ (Modem ∷ []) ∷ (Screen ∷ Socket ∷ []) ∷ [] ∷ []) none
    -- keyboard to screen, which is not linked
    ∷ card local_links (modem (27 ∷ 59 ∷ 96 ∷ 88 ∷ 81 ∷ [])) (zeros 5) [] [] (27 ∷ 59 ∷ 99 ∷ 88 ∷ 77 ∷ []) [] as_local
    none
    -- keyboard to screen set by the modem and cleared by the socket
    ∷ card local_links (modem (27 ∷ 59 ∷ 97 ∷ 88 ∷ 81 ∷ []) ++ socket (27 ∷ 59 ∷ 96 ∷ 88 ∷ 81 ∷ [])) (zeros 10) [] []
    (27 ∷ 59 ∷ 99 ∷ 88 ∷ 79 ∷ []) (27 ∷ 59 ∷ 99 ∷ 88 ∷ 77 ∷ []) as_local none
    ∷ []

-- ---- "A module is never linked to itself; such a command answers with the status unchanged"

abbrev pub selves : List LinkCard
selves =
    card local_links (modem (27 ∷ 59 ∷ 97 ∷ 88 ∷ 80 ∷ 27 ∷ 59 ∷ 96 ∷ 90 ∷ 82 ∷ [])) (zeros 10) [] []
    (27 ∷ 59 ∷ 99 ∷ 88 ∷ 77 ∷ 27 ∷ 59 ∷ 99 ∷ 90 ∷ 70 ∷ []) [] as_local none
    ∷ card connected_links (socket (27 ∷ 59 ∷ 97 ∷ 91 ∷ 83 ∷ 27 ∷ 59 ∷ 96 ∷ 89 ∷ 81 ∷ [])) (zeros 10) [] [] []
    (27 ∷ 59 ∷ 99 ∷ 91 ∷ 76 ∷ 27 ∷ 59 ∷ 99 ∷ 89 ∷ 66 ∷ []) as_connected none
    ∷ []

-- ---- "Unknown commands are swallowed without reply", and just their codes

abbrev pub unknown : List LinkCard
unknown =
    -- PRO1 takes one code, PRO2 two, PRO3 three, and the next value is passed on
    card local_links (modem (27 ∷ 57 ∷ 123 ∷ 65 ∷ [])) (zeros 4) (65 ∷ []) [] [] [] as_local none
    ∷ card local_links (modem (27 ∷ 58 ∷ 105 ∷ 68 ∷ 66 ∷ [])) (zeros 5) (66 ∷ []) [] [] [] as_local none
    ∷ card local_links (socket (27 ∷ 59 ∷ 105 ∷ 89 ∷ 65 ∷ 67 ∷ [])) (zeros 6) (67 ∷ []) [] [] [] as_local none
    -- 6/1 and 6/0 by PRO2, 6/2 by PRO1 and by PRO3
    ∷ card connected_links (modem (27 ∷ 58 ∷ 97 ∷ 88 ∷ 27 ∷ 58 ∷ 96 ∷ 88 ∷ 27 ∷ 57 ∷ 98 ∷ 27 ∷ 59 ∷ 98 ∷ 88 ∷ 81 ∷ []))
    (zeros 16) [] [] [] [] as_connected none
    -- a sender's code where a receiver's is due, and a receiver's where a sender's is
    ∷ card local_links (modem (27 ∷ 58 ∷ 98 ∷ 80 ∷ 27 ∷ 59 ∷ 97 ∷ 80 ∷ 81 ∷ 27 ∷ 59 ∷ 97 ∷ 88 ∷ 89 ∷ [])) (zeros 14) []
    [] [] [] as_local none
    -- codes beside those of receivers and senders: 5/7, 5/C, 4/F, 5/4
    ∷ card local_links
    (socket (27 ∷ 58 ∷ 98 ∷ 87 ∷ 27 ∷ 58 ∷ 98 ∷ 92 ∷ 27 ∷ 59 ∷ 97 ∷ 88 ∷ 79 ∷ 27 ∷ 59 ∷ 97 ∷ 88 ∷ 84 ∷ []))
    (zeros 18) [] [] [] [] as_local none
    -- replies heard back
    ∷ card local_links (modem (27 ∷ 59 ∷ 99 ∷ 88 ∷ 77 ∷ []) ++ socket (27 ∷ 59 ∷ 99 ∷ 91 ∷ 74 ∷ [])) (zeros 10) [] [] []
    [] as_local none
    -- ESC is a code like any other: 1/B by PRO1; 1/B, 3/A and 6/2 by PRO3
    ∷ card local_links (modem (27 ∷ 57 ∷ 27 ∷ 65 ∷ 27 ∷ 59 ∷ 27 ∷ 58 ∷ 98 ∷ 88 ∷ [])) (zeros 10) (65 ∷ 88 ∷ []) [] [] []
    as_local none
    ∷ []

-- ---- "ESC that begins no command is passed on with its next code, whatever that is"

abbrev pub pairs : List LinkCard
pairs =
    card local_links (modem (27 ∷ [])) (zeros 1) [] [] [] [] as_local ((27 ∷ []) ∷ [] ∷ [])
    ∷ card local_links (modem (27 ∷ 65 ∷ [])) (zeros 2) (27 ∷ 65 ∷ []) [] [] [] as_local none
    ∷ card connected_links (modem (27 ∷ 56 ∷ 27 ∷ 60 ∷ [])) (zeros 4) (27 ∷ 56 ∷ 27 ∷ 60 ∷ []) [] []
    (27 ∷ 56 ∷ 27 ∷ 60 ∷ []) as_connected none
    ∷ card connected_links (socket (27 ∷ 97 ∷ [])) (zeros 2) [] [] (27 ∷ 97 ∷ []) [] as_connected none
    -- ESC ESC, and then 3/9 is a value by itself
    ∷ card local_links (socket (27 ∷ 27 ∷ 57 ∷ [])) (zeros 3) (27 ∷ 27 ∷ 57 ∷ []) [] [] [] as_local none
    ∷ []

-- ---- "each of the two has its own unfinished sequence"

abbrev pub apart : List LinkCard
apart =
    -- the modem asks while the socket links, code by code
    card local_links
    (modem (27 ∷ []) ++ (socket (27 ∷ []) ++ (modem (58 ∷ []) ++ (socket (59 ∷ []) ++ (modem (98 ∷ [])
    ++ (socket (97 ∷ 88 ∷ []) ++ (modem (88 ∷ []) ++ socket (81 ∷ [])))))))) (zeros 9) [] []
    (27 ∷ 59 ∷ 99 ∷ 88 ∷ 77 ∷ []) (27 ∷ 59 ∷ 99 ∷ 88 ∷ 79 ∷ [])
    ([] ∷ (Screen ∷ Modem ∷ Socket ∷ []) ∷ (Screen ∷ []) ∷ (Screen ∷ []) ∷ []) none
    -- both unfinished
    ∷ card local_links (socket (27 ∷ 59 ∷ 96 ∷ 90 ∷ []) ++ modem (27 ∷ 58 ∷ 98 ∷ [])) (zeros 7) [] [] [] [] as_local
    ((27 ∷ 58 ∷ 98 ∷ []) ∷ (27 ∷ 59 ∷ 96 ∷ 90 ∷ []) ∷ [])
    -- the socket's value flows inside the modem's command
    ∷ card local_links (modem (27 ∷ 57 ∷ []) ++ socket (65 ∷ [])) (zeros 3) (65 ∷ []) [] [] [] as_local
    ((27 ∷ 57 ∷ []) ∷ [] ∷ [])
    -- begun before
    ∷ card (record { table = local_links.table; unfinished = record { modem = Pro3Both 97 88; socket = Escape } })
    (socket (65 ∷ []) ++ modem (81 ∷ [])) (zeros 2) (27 ∷ 65 ∷ []) [] (27 ∷ 59 ∷ 99 ∷ 88 ∷ 79 ∷ []) []
    ([] ∷ (Screen ∷ Modem ∷ Socket ∷ []) ∷ (Screen ∷ []) ∷ (Screen ∷ []) ∷ []) none
    ∷ card (record { table = local_links.table; unfinished = record { modem = Pro1; socket = Pro2 } })
    (modem (98 ∷ 65 ∷ []) ++ socket (98 ∷ 91 ∷ [])) (zeros 4) (65 ∷ []) [] [] (27 ∷ 59 ∷ 99 ∷ 91 ∷ 74 ∷ []) as_local none
    ∷ card (record { table = connected_links.table; unfinished = record { modem = Pro3; socket = Pro3With 96 } })
    (modem (97 ∷ 88 ∷ 81 ∷ []) ++ socket (90 ∷ 81 ∷ [])) (zeros 5) [] [] (27 ∷ 59 ∷ 99 ∷ 88 ∷ 71 ∷ [])
    (27 ∷ 59 ∷ 99 ∷ 90 ∷ 76 ∷ []) ([] ∷ (Screen ∷ []) ∷ (Screen ∷ Socket ∷ []) ∷ (Modem ∷ []) ∷ []) none
    ∷ []

-- ---- "Commands are heard from modem and socket only"

abbrev pub typed : List LinkCard
typed =
    card local_links (keys (27 ∷ 58 ∷ 98 ∷ 88 ∷ [])) (zeros 4) [] [] (27 ∷ 58 ∷ 98 ∷ 88 ∷ []) (27 ∷ 58 ∷ 98 ∷ 88 ∷ [])
    as_local none
    -- keys inside the modem's command
    ∷ card local_links (modem (27 ∷ 58 ∷ []) ++ (keys (27 ∷ 98 ∷ []) ++ modem (98 ∷ 88 ∷ []))) (zeros 6) [] []
    (27 ∷ 98 ∷ 27 ∷ 59 ∷ 99 ∷ 88 ∷ 77 ∷ []) (27 ∷ 98 ∷ []) as_local none
    ∷ []

-- ---- values by each table, and the host's choice

abbrev pub flowing : List LinkCard
flowing =
    card local_links (modem (65 ∷ []) ++ (socket (66 ∷ []) ++ keys (67 ∷ []))) (zeros 3) (65 ∷ 66 ∷ []) [] (67 ∷ [])
    (67 ∷ []) as_local none
    ∷ card connected_links (modem (65 ∷ []) ++ (socket (66 ∷ []) ++ keys (67 ∷ []))) (zeros 3) (65 ∷ []) []
    (66 ∷ 67 ∷ []) (65 ∷ []) as_connected none
    ∷ card local_links (modem (0 ∷ 127 ∷ [])) (zeros 2) (0 ∷ 127 ∷ []) [] [] [] as_local none
    ∷ []

abbrev pub chosen : List LinkCard
chosen =
    card local_links to_connected (zeros 1) [] [] [] [] as_connected none
    ∷ card connected_links to_local (zeros 1) [] [] [] [] as_local none
    -- inside a command: it is finished by the table of that moment
    ∷ card local_links (modem (27 ∷ 59 ∷ 97 ∷ 88 ∷ []) ++ (to_connected ++ modem (81 ∷ []))) (zeros 6) [] []
    (27 ∷ 59 ∷ 99 ∷ 88 ∷ 71 ∷ []) [] ([] ∷ (Screen ∷ Modem ∷ []) ∷ (Screen ∷ Socket ∷ []) ∷ (Modem ∷ []) ∷ []) none
    ∷ card connected_links (socket (27 ∷ 58 ∷ 98 ∷ []) ++ (to_local ++ socket (91 ∷ []))) (zeros 5) [] [] []
    (27 ∷ 59 ∷ 99 ∷ 91 ∷ 74 ∷ []) as_local none
    -- inside an ESC pair
    ∷ card local_links (modem (27 ∷ []) ++ (to_connected ++ modem (65 ∷ []))) (zeros 3) (27 ∷ 65 ∷ []) [] []
    (27 ∷ 65 ∷ []) as_connected none
    -- a link that was set is gone
    ∷ card local_links (modem (27 ∷ 59 ∷ 97 ∷ 88 ∷ 81 ∷ []) ++ to_local) (zeros 6) [] [] (27 ∷ 59 ∷ 99 ∷ 88 ∷ 79 ∷ []) []
    as_local none
    ∷ []

-- ---- 2 for a value above 127, 5 for a broken state

-- the screen linked to itself, besides the local links
abbrev pub mirror : Links
mirror =
    record {
      table =
          record {
            screen = record { screen = true; keyboard = false; modem = false; socket = false };
            keyboard = local_links.table.keyboard;
            modem = local_links.table.modem;
            socket = local_links.table.socket;
          };
      unfinished = record { modem = Free; socket = Free };
    }

abbrev pub as_mirror : List (List Module)
as_mirror = (Screen ∷ []) ∷ (Modem ∷ Socket ∷ []) ∷ (Screen ∷ []) ∷ (Screen ∷ []) ∷ []

abbrev pub refusals : List LinkCard
refusals =
    card local_links (modem (128 ∷ []) ++ (socket (200 ∷ []) ++ keys (255 ∷ []))) (2 ∷ 2 ∷ 2 ∷ []) [] [] [] [] as_local
    none
    -- inside a command, which then goes on
    ∷ card local_links (modem (27 ∷ 58 ∷ 98 ∷ 216 ∷ 88 ∷ [])) (0 ∷ 0 ∷ 0 ∷ 2 ∷ 0 ∷ []) [] []
    (27 ∷ 59 ∷ 99 ∷ 88 ∷ 77 ∷ []) [] as_local none
    -- a module linked to itself: 5, also where a value is above 127
    ∷ card mirror (modem (65 ∷ 128 ∷ []) ++ (socket (27 ∷ []) ++ (keys (65 ∷ 255 ∷ []) ++ (to_local ++ to_connected))))
    (5 ∷ 5 ∷ 5 ∷ 5 ∷ 5 ∷ 5 ∷ 5 ∷ []) [] [] [] [] as_mirror none
    -- a code above 127 unfinished
    ∷ card (record { table = local_links.table; unfinished = record { modem = Free; socket = Pro2With 128 } })
    (modem (65 ∷ []) ++ (keys (65 ∷ []) ++ to_connected)) (5 ∷ 5 ∷ 5 ∷ []) [] [] [] [] as_local
    ([] ∷ (27 ∷ 58 ∷ 128 ∷ []) ∷ [])
    ∷ card (record { table = local_links.table; unfinished = record { modem = Pro3Both 97 216; socket = Free } }) (socket (65 ∷ []))
    (5 ∷ []) [] [] [] [] as_local ((27 ∷ 59 ∷ 97 ∷ 216 ∷ []) ∷ [] ∷ [])
    ∷ []

abbrev pub together : List (List LinkCard) → List LinkCard
together [] = []
together (cs ∷ css) = cs ++ together css

abbrev pub link_cards : List LinkCard
link_cards =
    together
    (asking ∷ setting ∷ clearing ∷ selves ∷ unknown ∷ pairs ∷ apart ∷ typed ∷ flowing ∷ chosen ∷ refusals ∷ [])
