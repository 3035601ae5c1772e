-- Orders obeyed, written out: what screen, keyboard, modem and socket get, field by field, and the table after. Assumes
-- nothing.
use mathlib.Core.Path.{◌≡◌, refl}
use mathlib.Core.Bool.{true}
use mathlib.Core.List.{List, [], ◌∷◌}
use Prim.Native.Nat.{ℕ}
use Rattle.links_wiring.specs.declared.Module.TheVariants.{Screen, Keyboard, Modem, Socket}
use Rattle.links_wiring.specs.Tables.{local_table, connected_table}
use Rattle.links_wiring.specs.Reading.{all_reached}
use Rattle.links_replies.specs.Replies.{status_of, reply_of}
use Rattle.links_commands.specs.declared.Order.TheVariants.{Pass, Pair, Link, Ask}
use Rattle.links_changes.specs.Linking.{linked}
use Rattle.few.specs.declared.Few.{Few}
use Rattle.links_sending.specs.Sending.{Sent, silence, obeyed}

-- the five places and the count
abbrev pub whole : Few 5 → List ℕ
whole b = b.count ∷ b.codes

abbrev pub all_of : Sent → List (List ℕ)
all_of s = whole s.screen ∷ whole s.keyboard ∷ whole s.modem ∷ whole s.socket ∷ []

abbrev pub no : List ℕ
no = 0 ∷ 0 ∷ 0 ∷ 0 ∷ 0 ∷ 0 ∷ []

pub silence_written : all_of silence ≡ no ∷ no ∷ no ∷ no ∷ []
silence_written = refl

-- a value, and ESC with its next code, by the links of each sender
pub value_written :
    all_of (obeyed connected_table Modem (Pass 65)).sent
    ≡ (1 ∷ 65 ∷ 0 ∷ 0 ∷ 0 ∷ 0 ∷ []) ∷ no ∷ no ∷ (1 ∷ 65 ∷ 0 ∷ 0 ∷ 0 ∷ 0 ∷ []) ∷ []
unfolding obeyed
value_written = refl

pub pair_written :
    all_of (obeyed local_table Keyboard (Pair 65)).sent
    ≡ no ∷ no ∷ (2 ∷ 27 ∷ 65 ∷ 0 ∷ 0 ∷ 0 ∷ []) ∷ (2 ∷ 27 ∷ 65 ∷ 0 ∷ 0 ∷ 0 ∷ []) ∷ []
unfolding obeyed
pair_written = refl

-- the keyboard linked to the screen, by a command of the socket
pub link_written :
    (all_of (obeyed local_table Socket (Link Screen Keyboard true)).sent
    ≡ no ∷ no ∷ no ∷ (5 ∷ 27 ∷ 59 ∷ 99 ∷ 88 ∷ 79 ∷ []) ∷ [])
    × (all_reached (obeyed local_table Socket (Link Screen Keyboard true)).table
    ≡ [] ∷ (Screen ∷ Modem ∷ Socket ∷ []) ∷ (Screen ∷ []) ∷ (Screen ∷ []) ∷ [])
unfolding status_of reply_of linked obeyed
link_written = (refl, refl)

-- the socket's status, asked by the modem
pub ask_written :
    (all_of (obeyed connected_table Modem (Ask Socket)).sent ≡ no ∷ no ∷ (5 ∷ 27 ∷ 59 ∷ 99 ∷ 91 ∷ 76 ∷ []) ∷ no ∷ [])
    × (all_reached (obeyed connected_table Modem (Ask Socket)).table
    ≡ [] ∷ (Modem ∷ []) ∷ (Screen ∷ Socket ∷ []) ∷ (Modem ∷ []) ∷ [])
unfolding status_of reply_of obeyed
ask_written = (refl, refl)
