-- A receiver in range follows the page at every event of every run. Assumes nothing.
use mathlib.Core.Path.{◌≡◌, refl, sym, ap, ap₂, ◌∙◌, subst, subst⁻¹}
use mathlib.Core.List.{List, [], ◌∷◌, ◌++◌}
use mathlib.Core.Logic.{inl, inr}
use Prim.Native.Nat.{ℕ, ◌+◌, ◌%◌, ◌<◌}
use native.Mathlib.Omega.{arith}
use lib.ListN.{length, take, length-append}
use lib.Seq.{length-take-le}
use Rattle.std.specs.Prelude.{Some, None}
use Rattle.std.proofs.lemmas.List.{take_more_set}
use Rattle.block_maker.specs.Making.{values_of}
use Rattle.block_reader.specs.declared.Verdict.TheVariants.{Repeat}
use Rattle.block_reader.specs.Judging.{verdict}
use Rattle.block_reader.specs.Claims.{NoneNear, OnlyNear}
use Rattle.line_codes.specs.declared.Listened.{Listened}
use Rattle.line_codes.specs.Codes.{listened}
use Rattle.line_codes.proofs.Seen.{seen_in, seen_syns, Heard, heard}
use Rattle.line_phases.specs.declared.Phase.{Phase}
use Rattle.line_phases.specs.declared.Phase.TheVariants.{Off, Collecting, Waiting}
use Rattle.line_receiver.specs.declared.Receiver.{Receiver}
use Rattle.line_receiver.specs.declared.Stepped.{Stepped}
use Rattle.line_receiver.specs.States.{InReceiver}
use Rattle.line_receiver.specs.Calls.{silent, listening, asked_again, stepped}
use Rattle.line_receiver.specs.Runs.{Event, byte, on, off, ask, obey, run, Sent, sent_by, sent}
use Rattle.line_receiver.specs.Page.{passes, asks, Stand, idle, midway, awaiting, Rule, plain, held, taken}
use Rattle.line_receiver.specs.Page.{refused, dropped, resumed, again, midway_ask, idle_ask, switched_on}
use Rattle.line_receiver.specs.Page.{switched_off, Course, done, next}
use Rattle.line_receiver.specs.Standing.{stand_in, stand_of, Stands}
use Rattle.line_receiver.proofs.Ranges.{count_in, seen_in_lem}
use Rattle.line_receiver.proofs.Cases.{again_in}
use Rattle.line_receiver.proofs.Shape as shapes
use Rattle.line_receiver.proofs.Shape.{Shape, shape, arrived}
use Rattle.line_receiver.proofs.Kept.{on_afresh, off_afresh, keeps}
use Rattle.line_receiver.proofs.Outgoing.{sent_accepted}

-- ---- where a receiver stands

-- as `Stands`, and the codes seen are those at the end of the bytes
abbrev pub At : Receiver → Stand → Type 0
At r idle = r.phase ≡ Off
At r (midway x h) =
    (r.phase ≡ Collecting) × (r.number ≡ x) × (r.count ≡ length h) × (take r.count r.held ≡ h)
At r (awaiting x ws) = (r.phase ≡ Waiting (seen_in ws)) × (r.number ≡ x)

at_stands : (r : Receiver) (s : Stand) → At r s → Stands r s
at_stands r idle a = a
at_stands r (midway x h) a = a
at_stands r (awaiting x ws) a = ((seen_in ws, a.0), a.1)

stands_in : (r : Receiver) (p : Phase) → InReceiver r → r.phase ≡ p → At r (stand_in p r)
stands_in r Off g f = f
stands_in r Collecting g f =
    let h : r.count < 17 = count_in r g.range in
    (f, refl, sym (length-take-le r.count r.held (omega (arith, g.array))), refl)
stands_in r (Waiting n) g f = (f ∙ ap Waiting (sym (seen_syns n (seen_in_lem r g.range n f))), refl)

stands_at : (r : Receiver) → InReceiver r → At r (stand_of r)
stands_at r g = stands_in r r.phase g refl

-- ---- one byte

-- a rule sends what the call sends, and the receiver stands where the rule says
abbrev pub Followed : Stand → Event → Stepped → Type 0
Followed s e c = (t : Stand) × Rule s e (sent_by c) t × At c.next t

from_idle : (r : Receiver) (b : ℕ) → At r idle → {c : Stepped} → Shape r b c → Followed idle (byte b) c
from_idle r b a (shapes.plain f) = (idle, plain, a)
from_idle r b a (shapes.more f k) = absurd (cc)
from_idle r b a (shapes.took f k C o) = absurd (cc)
from_idle r b a (shapes.none f k o) = absurd (cc)
from_idle r b a (shapes.listens n f) = absurd (cc)

-- the bytes of the stretch with one more, at the seventeenth
pub arrived_is : (r : Receiver) (b : ℕ) (h : List ℕ) → take r.count r.held ≡ h → r.count ≡ 16
    → arrived r b ≡ h ++ (b ∷ [])
arrived_is r b h e k =
    ap (λ (l : List ℕ). l ++ (b ∷ [])) (ap (λ (n : ℕ). take n r.held) (sym k) ∙ e)

from_midway : (r : Receiver) (b x : ℕ) (h : List ℕ) → InReceiver r → At r (midway x h) → {c : Stepped} → Shape r b c
    → Followed (midway x h) (byte b) c
from_midway r b x h g a (shapes.plain f) = absurd (cc)
from_midway r b x h g a (shapes.more f k) = (
  midway x (h ++ (b ∷ [])),
  held {h = h} (omega (arith, a.2)),
  (
    a.0,
    a.1,
    ap (λ (n : ℕ). n + 1) a.2 ∙ sym (length-append h (b ∷ [])),
    take_more_set r.held r.count b (omega (arith, g.array)) ∙ ap (λ (l : List ℕ). l ++ (b ∷ [])) a.3,
  ),
)
from_midway r b x h g a (shapes.took f k C o) =
    let e : arrived r b ≡ h ++ (b ∷ []) = arrived_is r b h a.3 k in (
      midway ((x + 1) % 16) [],
      subst⁻¹ (λ (s : Sent). Rule (midway x h) (byte b) s (midway ((x + 1) % 16) []))
          (sent_accepted r.number (values_of C) (verdict (arrived r b))
          ∙ ap (λ (B : List ℕ). passes (values_of C) (Some (verdict B))) e)
          (taken (sym a.2 ∙ k) (subst (λ (B : List ℕ). OnlyNear B C) e o)),
      (refl, ap (λ (n : ℕ). (n + 1) % 16) a.1, refl, refl),
    )
from_midway r b x h g a (shapes.none f k o) = (
  awaiting x [],
  subst⁻¹ (λ (n : ℕ). Rule (midway x h) (byte b) (asks n (Some Repeat)) (awaiting x [])) a.1
      (refused (sym a.2 ∙ k) (subst NoneNear (arrived_is r b h a.3 k) o)),
  (ap Waiting (sym (seen_syns 0 (omega arith))), a.1),
)
from_midway r b x h g a (shapes.listens n f) = absurd (cc)

heard_from : (r : Receiver) (b x : ℕ) (ws : List ℕ) → At r (awaiting x ws)
    → Followed (awaiting x ws) (byte b) (silent (listening (listened x (seen_in ws) b) r))
heard_from r b x ws a = by (heard x ws b)
  where
    by : Heard x ws b (listened x (seen_in ws) b)
        → Followed (awaiting x ws) (byte b) (silent (listening (listened x (seen_in ws) b) r))
    by (inl p) =
        subst⁻¹ (λ (l : Listened). Followed (awaiting x ws) (byte b) (silent (listening l r))) p.1
        (midway x [], resumed p.0, (refl, a.1, refl, refl))
    by (inr p) =
        subst⁻¹ (λ (l : Listened). Followed (awaiting x ws) (byte b) (silent (listening l r))) p.1
        (awaiting x (ws ++ (b ∷ [])), dropped p.0, (refl, a.1))

pub same_listened : (r : Receiver) (b x n : ℕ) (ws : List ℕ) → At r (awaiting x ws) → r.phase ≡ Waiting n
    → listened r.number n b ≡ listened x (seen_in ws) b
same_listened r b x n ws a f =
    let e : n ≡ seen_in ws = cc in ap₂ (λ (y m : ℕ). listened y m b) a.1 e

from_awaiting : (r : Receiver) (b x : ℕ) (ws : List ℕ) → At r (awaiting x ws) → {c : Stepped} → Shape r b c
    → Followed (awaiting x ws) (byte b) c
from_awaiting r b x ws a (shapes.plain f) = absurd (cc)
from_awaiting r b x ws a (shapes.more f k) = absurd (cc)
from_awaiting r b x ws a (shapes.took f k C o) = absurd (cc)
from_awaiting r b x ws a (shapes.none f k o) = absurd (cc)
from_awaiting r b x ws a (shapes.listens n f) =
    subst⁻¹ (λ (l : Listened). Followed (awaiting x ws) (byte b) (silent (listening l r)))
    (same_listened r b x n ws a f) (heard_from r b x ws a)

-- ---- any event

byte_follows : (r : Receiver) (b : ℕ) (s : Stand) → InReceiver r → At r s → Followed s (byte b) (stepped r b)
byte_follows r b idle g a = from_idle r b a (shape r b g)
byte_follows r b (midway x h) g a = from_midway r b x h g a (shape r b g)
byte_follows r b (awaiting x ws) g a = from_awaiting r b x ws a (shape r b g)

ask_follows : (r : Receiver) (s : Stand) → InReceiver r → At r s → Followed s ask (asked_again r)
ask_follows r idle g a = subst (Followed idle ask) (again_in r Off g.range a) (idle, idle_ask, a)
ask_follows r (midway x h) g a =
    subst (Followed (midway x h) ask) (again_in r Collecting g.range a.0) (midway x h, midway_ask, a)
ask_follows r (awaiting x ws) g a =
    subst (Followed (awaiting x ws) ask) (again_in r (Waiting (seen_in ws)) g.range a.0) (
      awaiting x ws,
      subst⁻¹ (λ (n : ℕ). Rule (awaiting x ws) ask (asks n None) (awaiting x ws)) a.1 again,
      a,
    )

pub follows_one : (e : Event) (r : Receiver) (s : Stand) → InReceiver r → At r s → Followed s e (obey e r)
follows_one (byte b) r s g a = byte_follows r b s g a
follows_one on r s g a =
    subst⁻¹ (Followed s on) (on_afresh r g) (midway 0 [], switched_on, (refl, refl, refl, refl))
follows_one off r s g a = subst⁻¹ (Followed s off) (off_afresh r g) (idle, switched_off, refl)
follows_one ask r s g a = ask_follows r s g a

-- ---- a whole run

follows_from : (es : List Event) (r : Receiver) (s : Stand) → InReceiver r → At r s
    → (t : Stand) × Course s es (sent r es) t × At (run r es) t
follows_from [] r s g a = (s, done, a)
follows_from (e ∷ es) r s g a =
    let f = follows_one e r s g a in
    let i = follows_from es (obey e r).next f.0 (keeps e r g) f.2 in
    (i.0, next f.1 i.1, i.2)

pub follows : (r : Receiver) → InReceiver r → (es : List Event)
    → (t : Stand) × Course (stand_of r) es (sent r es) t × Stands (run r es) t
follows r g es =
    let i = follows_from es r (stand_of r) g (stands_at r g) in (i.0, i.1, at_stands (run r es) i.0 i.2)
