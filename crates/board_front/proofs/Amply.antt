-- How many values some bytes can bring, and requests: so outputs that are long enough surely fit. Assumes nothing.
use mathlib.Core.Path.{◌≡◌, refl, ap}
use mathlib.Core.Bool.{true}
use mathlib.Core.List.{List, [], ◌∷◌, ◌++◌}
use Prim.Native.Nat.{ℕ, ◌+◌, ◌-◌, ◌*◌, ◌≤◌, zero-le}
use native.Mathlib.Omega.{arith}
use lib.ListN.{length, length-append, length-map, replicate}
use borrow.Author.Tests.{ltb-false}
use Rattle.laws.proofs.Computed.{chosen}
use Rattle.links_wiring.specs.declared.Module.{Module}
use Rattle.links_wiring.specs.declared.Module.TheVariants.{Keyboard, Modem, Socket}
use Rattle.block_maker.specs.Making.{values_of}
use Rattle.block_reader.specs.declared.Verdict.{Verdict}
use Rattle.block_reader.specs.Judging.{verdict, left}
use Rattle.line_codes.specs.declared.Listened.{Listened}
use Rattle.line_codes.specs.declared.Listened.TheVariants.{Seen, Resumed}
use Rattle.line_codes.specs.Codes.{listened}
use Rattle.line_phases.specs.Phases.{awaits_more}
use Rattle.line_phases.specs.declared.Phase.{Phase}
use Rattle.line_phases.specs.declared.Phase.TheVariants.{Off, Collecting, Waiting}
use Rattle.line_receiver.specs.declared.Receiver.{Receiver}
use Rattle.line_receiver.specs.declared.Stepped.{Stepped}
use Rattle.line_receiver.specs.States.{in_range}
use Rattle.line_receiver.specs.Calls.{whole, accepts, judged_as, listening, by_phase, stepped}
use Rattle.line_receiver.specs.Runs.{sent_by, sent, all_asked}
use Rattle.line_receiver.proofs.Asked.{asked_counted, fifteen}
use Rattle.line_receiver.proofs.Fifteens.{take_short}
use Rattle.links_hearing.specs.declared.ears.Ear.TheVariants.{Modem as modem}
use Rattle.links.specs.Runs.{value}
use Rattle.board_feeding.specs.Feeding.{from_line}
use Rattle.board_feeding.proofs.Suffices.{few_got}
use Rattle.board_front.specs.declared.Front.{Front}
use Rattle.board_front.specs.declared.Room.{Room}
use Rattle.board_front.specs.LineBytes.{bytes, calls, to_each}
use Rattle.board_front.specs.Fitting.{within, needed}
use Rattle.board_front.proofs.Rooms.{passes}
use Rattle.board_front.specs.Ample.{Ample}

-- ---- what is held may still bring values

abbrev pending : Phase → ℕ → ℕ
pending Off n = 0
pending Collecting n = n
pending (Waiting k) n = 0

abbrev due : Receiver → ℕ
due r = pending r.phase r.count

abbrev Bounded : Receiver → Stepped → Type 0
Bounded r s = length (sent_by s).passed + due s.next ≤ 1 + due r

one_more : (p : Phase) (n : ℕ) → pending p (n + 1) ≤ 1 + pending p n
one_more Off n = omega arith
one_more Collecting n = omega arith
one_more (Waiting k) n = omega arith

heard_none : (l : Listened) (r : Receiver) → due (listening l r) ≡ 0
heard_none (Seen n) r = refl
heard_none Resumed r = refl

judged_bounded : (v : Verdict) (r : Receiver) (vs : List ℕ) → length vs ≤ 15 → 16 ≤ due r
    → Bounded r (judged_as v r.number vs)
judged_bounded v r vs h k =
    chosen (Bounded r) (accepts v)
    (λ a. let l = take_short (length vs) (vs ++ replicate (15 - length vs) 0) in omega (arith, l, h, k)) (λ a. omega (arith, k))

phase_bounded : (p : Phase) (r : Receiver) (b : ℕ) → r.phase ≡ p → Bounded r (by_phase p r b)
phase_bounded Off r b e = omega arith
phase_bounded Collecting r b e =
    chosen (Bounded r) (awaits_more r.count) (λ h. omega (arith, one_more r.phase r.count))
    (λ h. judged_bounded (verdict (whole r b)) r (values_of (left (whole r b))) (fifteen (left (whole r b)))
    (omega (arith, ltb-false r.count 16 h, ap (λ (p : Phase). pending p r.count) e)))
phase_bounded (Waiting n) r b e = omega (arith, heard_none (listened r.number n b) r)

bounded : (r : Receiver) (b : ℕ) → Bounded r (stepped r b)
bounded r b = chosen (Bounded r) (in_range r) (λ i. phase_bounded r.phase r b refl) (λ i. omega arith)

-- ---- over a piece

calls_few : (r : Receiver) (xs : List ℕ) → length (calls r xs) ≤ length xs + due r
unfolding calls
calls_few r [] = zero-le
calls_few r (x ∷ xs) =
    let s = stepped r x in
    let vs = (sent_by s).passed in
    let a = length-append (from_line vs) (calls s.next xs) in
    let m = length-map vs (value modem) in
    omega (arith, a, m, bounded r x, calls_few s.next xs)

asks_few : (r : Receiver) (xs : List ℕ) → length (all_asked (sent r (bytes xs))) ≤ 2 * length xs
asks_few r [] = zero-le
asks_few r (x ∷ xs) =
    let s = stepped r x in
    let a = length-append (sent_by s).asked (all_asked (sent s.next (bytes xs))) in
    let c = asked_counted r x in
    omega (arith, a, c.0, c.1, asks_few s.next xs)

held_few : (p : Phase) (n : ℕ) → n ≤ 16 → pending p n ≤ 16
held_few Off n h = zero-le
held_few Collecting n h = h
held_few (Waiting k) n h = zero-le

pub amply : (f : Front) (xs : List ℕ) (r : Room) → f.receiver.count ≤ 16 → Ample (length xs) r
    → within (needed f xs) r ≡ true
amply f xs r h a =
    let c = calls_few f.receiver xs in
    let k = held_few f.receiver.phase f.receiver.count h in
    let each : (m : Module) → length (to_each m f xs) ≤ 5 * (length xs + 16) =
    λ m. let g = few_got m f.links (calls f.receiver xs) in omega (arith, c, k, g) in
    passes (needed f xs) r
    (record {
      keyboard = omega (arith, each Keyboard, a.keyboard);
      modem = omega (arith, each Modem, a.modem);
      socket = omega (arith, each Socket, a.socket);
      requests = omega (arith, asks_few f.receiver xs, a.requests);
    })
