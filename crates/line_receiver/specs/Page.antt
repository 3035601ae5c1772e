-- The page of 01 on the receiver, read from the line's side: how bytes fall into stretches of seventeen and pauses,
-- and what goes out at each call. No receiver, and no state of one, is spoken of; what is held is what arrived.
-- Assumes nothing.
use Rattle.std.specs.Prelude.{◌≡◌, List, [], ◌∷◌, ◌++◌, ℕ, ◌+◌, ◌%◌, ◌<◌, length, replicate, Option, Some, None}
use Rattle.block_maker.specs.Making.{values_of}
use Rattle.block_reader.specs.declared.Verdict.{Verdict}
use Rattle.block_reader.specs.declared.Verdict.TheVariants.{Repeat}
use Rattle.block_reader.specs.Judging.{verdict}
use Rattle.block_reader.specs.Claims.{NoneNear, OnlyNear}
use Rattle.line_codes.specs.Codes.{plainly, request, Ends}
use Rattle.line_receiver.specs.Runs.{Event, byte, on, off, ask, Sent}

-- ---- what goes out

abbrev pub nothing : Sent
nothing = record { passed = []; asked = []; judged = None }

abbrev pub passes : List ℕ → Option Verdict → Sent
passes vs j = record { passed = vs; asked = []; judged = j }

abbrev pub asks : ℕ → Option Verdict → Sent
asks x j = record { passed = []; asked = request x; judged = j }

-- nothing at the first sixteen bytes of a stretch, and this at the seventeenth
abbrev pub at_last : Sent → List Sent
at_last o = replicate 16 nothing ++ (o ∷ [])

-- while waiting for block x: nothing at a byte, the request at each asking
abbrev pub while_waiting : ℕ → Event → Sent
while_waiting x (byte b) = nothing
while_waiting x on = nothing
while_waiting x off = nothing
while_waiting x ask = asks x None

-- ---- where the line stands

-- off; or in a stretch for block x, with the bytes since it began; or waiting for block x, with the bytes since the
-- request
pub data Stand : Type 0 where
  idle : Stand
  midway : ℕ → List ℕ → Stand
  awaiting : ℕ → List ℕ → Stand

-- ---- the rules: `Rule s e o t`, standing at s the event e sends o, and t is where the line stands then

pub data Rule : Stand → Event → Sent → Stand → Type 0 where
  -- "Off: each byte is passed on with parity removed"
  plain : {b : ℕ} → Rule idle (byte b) (passes (plainly b ∷ []) None) idle
  -- "Collecting: the byte is held"
  held : {x : ℕ} {h : List ℕ} {b : ℕ} → length h < 16
      → Rule (midway x h) (byte b) nothing (midway x (h ++ (b ∷ [])))
  -- "At the 17th the block is judged. Clean or mended: its fifteen values are passed on .., the number rises by one":
  -- the values of the only valid block near, and a stretch begins for the next block
  taken : {x : ℕ} {h : List ℕ} {b : ℕ} {C : List ℕ} → length h ≡ 16 → OnlyNear (h ++ (b ∷ [])) C
      → Rule (midway x h) (byte b) (passes (values_of C) (Some (verdict (h ++ (b ∷ []))))) (midway ((x + 1) % 16) [])
  -- "Repeat: nothing is passed on; the request .. goes to the modem": no valid block is near
  refused : {x : ℕ} {h : List ℕ} {b : ℕ} → length h ≡ 16 → NoneNear (h ++ (b ∷ []))
      → Rule (midway x h) (byte b) (asks x (Some Repeat)) (awaiting x [])
  -- "Waiting: bytes are dropped until .."
  dropped : {x : ℕ} {ws : List ℕ} {b : ℕ} → (Ends x (ws ++ (b ∷ [])) → ⊥)
      → Rule (awaiting x ws) (byte b) nothing (awaiting x (ws ++ (b ∷ [])))
  -- "Then collecting": a stretch begins for the same block
  resumed : {x : ℕ} {ws : List ℕ} {b : ℕ} → Ends x (ws ++ (b ∷ []))
      → Rule (awaiting x ws) (byte b) nothing (midway x [])
  -- "Ask again ..: in waiting it gives the same two request bytes and changes nothing; elsewhere it gives none"
  again : {x : ℕ} {ws : List ℕ} → Rule (awaiting x ws) ask (asks x None) (awaiting x ws)
  midway_ask : {x : ℕ} {h : List ℕ} → Rule (midway x h) ask nothing (midway x h)
  idle_ask : Rule idle ask nothing idle
  -- "Switched on: collecting, number 0, nothing held or seen"; "Switching off, from any phase, gives off"
  switched_on : {s : Stand} → Rule s on nothing (midway 0 [])
  switched_off : {s : Stand} → Rule s off nothing idle

-- a whole run: each event by a rule, from where the one before it left the line
pub data Course : Stand → List Event → List Sent → Stand → Type 0 where
  done : {s : Stand} → Course s [] [] s
  next : {s t u : Stand} {e : Event} {o : Sent} {es : List Event} {os : List Sent}
      → Rule s e o t → Course t es os u → Course s (e ∷ es) (o ∷ os) u
