-- Line bytes taken in one go. Assumes nothing.
use Rattle.std.specs.Prelude.{◌≡◌, Bool, false, cond, ◌&&◌, List, [], ◌∷◌, ◌++◌, map, ℕ, ◌+◌, ◌-◌, ◌≤◌, ◌<◌, ltb, length, take, get_or, replicate}
use Rattle.std.proofs.Math.Seq.{paste}
use Rattle.line_phases.specs.Phases.{awaits_more}
use Rattle.line_phases.specs.declared.Phase.{Phase}
use Rattle.line_phases.specs.declared.Phase.TheVariants.{Off, Collecting, Waiting}
use Rattle.line_receiver.specs.declared.Receiver.{Receiver}
use Rattle.line_receiver.specs.States.{in_range}
use Rattle.line_receiver.specs.Calls.{silent, stepped}
use Rattle.line_receiver.specs.Runs.{byte, run, sent_by, sent, all_passed, all_asked}
use Rattle.line_turns.specs.declared.Turn.{Turn}
use Rattle.line_turns.specs.declared.holding.Held.{Held}
use Rattle.line_turns.specs.Notes.{note_of, notes_of}

-- ---- bytes that are only held

-- in range, collecting, with fewer than sixteen held: so is the next byte
abbrev pub holds_in : Phase → Receiver → Bool
holds_in Off r = false
holds_in Collecting r = in_range r && awaits_more r.count
holds_in (Waiting n) r = false

abbrev pub holds_more : Receiver → Bool
holds_more r = holds_in r.phase r

-- how many of these bytes are only held: until there are sixteen, or no more bytes
abbrev pub only_held : Receiver → List ℕ → ℕ
only_held r xs = cond (holds_more r) (length (take (16 - r.count) xs)) 0

-- the receiver behind so many bytes
abbrev pub behind : Receiver → List ℕ → ℕ → Receiver
behind r xs k = run r (map byte (take k xs))

unfoldable pub held_of : Receiver → List ℕ → Held
held_of r xs = let k = only_held r xs in record { receiver = behind r xs k; count = k }

-- with the first k of these bytes held behind those there are
abbrev pub filled : Receiver → List ℕ → ℕ → Receiver
filled r xs k =
    record { held = paste r.held r.count xs k; count = r.count + k; number = r.number; phase = r.phase }

-- ---- a turn

-- the byte behind the first k, and these
abbrev pub one_more : Receiver → List ℕ → ℕ → Turn
one_more r xs k =
    let q = behind r xs k in
    record { stepped = stepped q (get_or xs k 0); note = note_of q (get_or xs k 0); took = k + 1 }

-- k bytes behind which nothing goes out
abbrev pub still : Receiver → ℕ → Turn
still q k = record { stepped = silent q; note = 0; took = k }

-- the bytes that are only held, and the next one where there is one
unfoldable pub turn_of : Receiver → List ℕ → Turn
turn_of r xs = let k = only_held r xs in cond (ltb k (length xs)) (one_more r xs k) (still (behind r xs k) k)

-- ---- what a turn comes to

-- what single steps over these bytes come to: the receiver behind them, the values that they pass on, the bytes for the
-- modem, and a note on each
pub record Singly (r : Receiver) (ys : List ℕ) (t : Turn) : Type 0 where
  pub next : t.stepped.next ≡ run r (map byte ys)
  pub passed : (sent_by t.stepped).passed ≡ all_passed (sent r (map byte ys))
  pub asked : (sent_by t.stepped).asked ≡ all_asked (sent r (map byte ys))
  pub notes : replicate (t.took - 1) 0 ++ (t.note ∷ []) ≡ notes_of r ys

-- it takes some bytes and no more than there are, and comes to what these come to one by one
pub record TakenSingly (r : Receiver) (xs : List ℕ) (t : Turn) : Type 0 where
  pub some : 0 < t.took
  pub within : t.took ≤ length xs
  pub singly : Singly r (take t.took xs) t
