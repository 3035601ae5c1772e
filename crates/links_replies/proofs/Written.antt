-- Replies written out, byte by byte: PRO3, 6/3, the receiver's code and its status (01, "Links and commands"; 001, part
-- 2, chapter 6, section 3.4). Assumes nothing.
use mathlib.Core.Path.{◌≡◌, refl}
use mathlib.Core.List.{List, [], ◌∷◌}
use Prim.Native.Nat.{ℕ}
use Rattle.links_wiring.specs.declared.Module.TheVariants.{Screen, Keyboard, Modem, Socket}
use Rattle.links_wiring.specs.Each.{Table}
use Rattle.links_wiring.specs.Tables.{local_table, connected_table}
use Rattle.links_replies.specs.Replies.{status_of, reply_of}

-- about screen, keyboard, modem and socket
abbrev pub replies_of : Table → List (List ℕ)
replies_of t = reply_of t Screen ∷ reply_of t Keyboard ∷ reply_of t Modem ∷ reply_of t Socket ∷ []

pub local_replies :
    replies_of local_table
    ≡ (27 ∷ 59 ∷ 99 ∷ 88 ∷ 77 ∷ []) ∷ (27 ∷ 59 ∷ 99 ∷ 89 ∷ 66 ∷ []) ∷ (27 ∷ 59 ∷ 99 ∷ 90 ∷ 70 ∷ [])
    ∷ (27 ∷ 59 ∷ 99 ∷ 91 ∷ 74 ∷ []) ∷ []
unfolding status_of reply_of
local_replies = refl

pub connected_replies :
    replies_of connected_table
    ≡ (27 ∷ 59 ∷ 99 ∷ 88 ∷ 69 ∷ []) ∷ (27 ∷ 59 ∷ 99 ∷ 89 ∷ 66 ∷ []) ∷ (27 ∷ 59 ∷ 99 ∷ 90 ∷ 78 ∷ [])
    ∷ (27 ∷ 59 ∷ 99 ∷ 91 ∷ 76 ∷ []) ∷ []
unfolding status_of reply_of
connected_replies = refl
