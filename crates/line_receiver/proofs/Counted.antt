-- The number counts accepted blocks. Assumes nothing.
use mathlib.Core.Path.{◌≡◌, refl, sym, ap, ◌∙◌}
use mathlib.Core.Bool.{Bool, false, cond}
use mathlib.Core.List.{List, [], ◌∷◌}
use Prim.Native.Nat.{ℕ, ◌+◌, ◌%◌, ◌<◌}
use native.Mathlib.Omega.{arith}
use lib.ListN.{length}
use borrow.Author.Tests.{eq-eqb}
use Rattle.laws.proofs.Computed.{fails}
use Rattle.block_maker.specs.Making.{values_of}
use Rattle.block_reader.specs.Judging.{verdict}
use Rattle.line_codes.specs.declared.Listened.{Listened}
use Rattle.line_codes.specs.declared.Listened.TheVariants.{Seen, Resumed}
use Rattle.line_codes.specs.Codes.{listened}
use Rattle.line_phases.specs.declared.Phase.{Phase}
use Rattle.line_phases.specs.declared.Phase.TheVariants.{Off, Collecting, Waiting}
use Rattle.line_receiver.specs.declared.Receiver.{Receiver}
use Rattle.line_receiver.specs.declared.Stepped.{Stepped}
use Rattle.line_receiver.specs.States.{InReceiver}
use Rattle.line_receiver.specs.Calls.{listening, stepped, again_by, asked_again}
use Rattle.line_receiver.specs.Runs.{Event, byte, on, off, ask, obey, run, sent_by, switches, blocks_in}
use Rattle.line_receiver.specs.Runs.{blocks_since}
use Rattle.line_receiver.proofs.Ranges.{number_in}
use Rattle.line_receiver.proofs.Shape.{Shape, plain, more, took, none, listens, shape, arrived}
use Rattle.line_receiver.proofs.Kept.{on_afresh, off_afresh, again_as, again_same, keeps}
use Rattle.line_receiver.proofs.Outgoing.{sent_accepted, near_fifteen}

-- listening leaves the number
listening_number : (l : Listened) (r : Receiver) → (listening l r).number ≡ r.number
listening_number (Seen n) r = refl
listening_number Resumed r = refl

byte_moves : (r : Receiver) (b : ℕ) → InReceiver r → {s : Stepped} → Shape r b s
    → s.next.number ≡ (r.number + blocks_in (sent_by s)) % 16
byte_moves r b g (plain f) = let h : r.number < 16 = number_in r g.range in omega arith
byte_moves r b g (more f k) = let h : r.number < 16 = number_in r g.range in omega arith
byte_moves r b g (took f k C o) =
    ap (λ (n : ℕ). (r.number + n) % 16)
    (sym (ap blocks_in (sent_accepted r.number (values_of C) (verdict (arrived r b)))
    ∙ ap (λ (t : Bool). cond t 1 0) (eq-eqb (length (values_of C)) 15 (near_fifteen (arrived r b) C o))))
byte_moves r b g (none f k o) = let h : r.number < 16 = number_in r g.range in omega arith
byte_moves r b g (listens n f) =
    let h : r.number < 16 = number_in r g.range in
    listening_number (listened r.number n b) r ∙ omega arith

-- asking again passes nothing
ask_moves : (r : Receiver) → InReceiver r
    → (asked_again r).next.number ≡ (r.number + blocks_in (sent_by (asked_again r))) % 16
ask_moves r g =
    let h : r.number < 16 = number_in r g.range in
    let z : blocks_in (sent_by (asked_again r)) ≡ 0 =
    ap (λ (s : Stepped). blocks_in (sent_by s)) (again_as r g) ∙ none_in r.phase in
    ap (λ (q : Receiver). q.number) (again_same r) ∙ omega arith
  where
    none_in : (p : Phase) → blocks_in (sent_by (again_by p r)) ≡ 0
    none_in Off = refl
    none_in Collecting = refl
    none_in (Waiting n) = refl

-- a call that is no switching moves it by the blocks accepted there: by one or not at all
pub moves : (e : Event) (r : Receiver) → InReceiver r → switches e ≡ false
    → (obey e r).next.number ≡ (r.number + blocks_in (sent_by (obey e r))) % 16
moves (byte b) r g u = byte_moves r b g (shape r b g)
moves on r g u = absurd (fails u tt)
moves off r g u = absurd (fails u tt)
moves ask r g u = ask_moves r g

added : (a n k : ℕ) → a ≡ n % 16 → (a + k) % 16 ≡ (n + k) % 16
added a n k e = omega arith

pub counts : (es : List Event) (n : ℕ) (r : Receiver) → InReceiver r → r.number ≡ n % 16
    → (run r es).number ≡ blocks_since n r es % 16
counts [] n r g e = e
counts (byte b ∷ es) n r g e =
    counts es (n + blocks_in (sent_by (stepped r b))) (stepped r b).next (keeps (byte b) r g)
    (moves (byte b) r g refl ∙ added r.number n (blocks_in (sent_by (stepped r b))) e)
counts (on ∷ es) n r g e =
    counts es 0 (obey on r).next (keeps on r g) (ap (λ (s : Stepped). s.next.number) (on_afresh r g))
counts (off ∷ es) n r g e =
    counts es 0 (obey off r).next (keeps off r g) (ap (λ (s : Stepped). s.next.number) (off_afresh r g))
counts (ask ∷ es) n r g e =
    counts es (n + blocks_in (sent_by (asked_again r))) (asked_again r).next (keeps ask r g)
    (moves ask r g refl ∙ added r.number n (blocks_in (sent_by (asked_again r))) e)
