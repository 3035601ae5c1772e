-- A receiver, and where the line stands by the rules of specs/Page. Assumes nothing.
use Rattle.std.specs.Prelude.{ℕ, ◌≡◌, length, take, replicate, None}
use Rattle.line_codes.specs.Codes.{syn}
use Rattle.line_phases.specs.declared.Phase.{Phase}
use Rattle.line_phases.specs.declared.Phase.TheVariants.{Off, Collecting, Waiting}
use Rattle.line_receiver.specs.declared.Receiver.{Receiver}
use Rattle.line_receiver.specs.Runs.{Sent}
use Rattle.line_receiver.specs.Page.{nothing, asks, Stand, idle, midway, awaiting}

-- a state handed in stands as though what it holds, or the codes that it has seen, had just arrived
abbrev pub stand_in : Phase → Receiver → Stand
stand_in Off r = idle
stand_in Collecting r = midway r.number (take r.count r.held)
stand_in (Waiting n) r = awaiting r.number (replicate n syn)

abbrev pub stand_of : Receiver → Stand
stand_of r = stand_in r.phase r

abbrev pub IsWaiting : Receiver → Type 0
IsWaiting r = (n : ℕ) × (r.phase ≡ Waiting n)

-- the receiver stands where the line does: the bytes held are those since the stretch began
abbrev pub Stands : Receiver → Stand → Type 0
Stands r idle = r.phase ≡ Off
Stands r (midway x h) =
    (r.phase ≡ Collecting) × (r.number ≡ x) × (r.count ≡ length h) × (take r.count r.held ≡ h)
Stands r (awaiting x ws) = IsWaiting r × (r.number ≡ x)

-- "Ask again ..: in waiting it gives the same two request bytes ..; elsewhere it gives none"
abbrev pub asked_in : Phase → ℕ → Sent
asked_in Off x = nothing
asked_in Collecting x = nothing
asked_in (Waiting n) x = asks x None
