-- Waiting ends at the first SYN, SYN, 4/X of the awaited number, and nothing passes before. Assumes nothing.
use mathlib.Core.Path.{◌≡◌, refl, sym, ap, ap₂, ◌∙◌, subst, subst⁻¹}
use mathlib.Core.Bool.{true}
use mathlib.Core.List.{List, [], ◌∷◌, ◌++◌, map, append_assoc, append-nil}
use Prim.Native.Nat.{ℕ}
use lib.ListN.{replicate}
use Rattle.std.specs.Prelude.{None}
use Rattle.laws.proofs.Computed.{fails, holds}
use Rattle.line_codes.specs.declared.Listened.{Listened}
use Rattle.line_codes.specs.Codes.{syn, Ends, Nowhere}
use Rattle.line_codes.proofs.Seen.{seen_in, seen_syns, ended, never}
use Rattle.line_phases.specs.declared.Phase.TheVariants.{Collecting, Waiting}
use Rattle.line_receiver.specs.declared.Receiver.{Receiver}
use Rattle.line_receiver.specs.declared.Stepped.{Stepped}
use Rattle.line_receiver.specs.States.{InReceiver, emptied}
use Rattle.line_receiver.specs.Calls.{silent, listening, stepped}
use Rattle.line_receiver.specs.Runs.{Event, byte, on, off, ask, obey, run, Sent, sent, unswitched, bytes_of}
use Rattle.line_receiver.specs.Page.{nothing, asks, while_waiting, Stand, awaiting, Rule, dropped, resumed}
use Rattle.line_receiver.specs.Page.{again}
use Rattle.line_receiver.specs.Standing.{IsWaiting}
use Rattle.line_receiver.proofs.Ranges.{seen_in_lem}
use Rattle.line_receiver.proofs.Shape as shapes
use Rattle.line_receiver.proofs.Shape.{Shape, shape}
use Rattle.line_receiver.proofs.Kept.{keeps, runs_keep}
use Rattle.line_receiver.proofs.Followed.{At, same_listened, follows_one}

-- ---- the byte that ends it

ends_it : (r : Receiver) (b x : ℕ) (ws : List ℕ) → At r (awaiting x ws) → Ends x (ws ++ (b ∷ []))
    → {c : Stepped} → Shape r b c → c ≡ silent (emptied x Collecting)
ends_it r b x ws a d (shapes.plain f) = absurd (cc)
ends_it r b x ws a d (shapes.more f k) = absurd (cc)
ends_it r b x ws a d (shapes.took f k C o) = absurd (cc)
ends_it r b x ws a d (shapes.none f k o) = absurd (cc)
ends_it r b x ws a d (shapes.listens n f) =
    ap (λ (l : Listened). silent (listening l r)) (same_listened r b x n ws a f ∙ ended x ws b d)
    ∙ ap (λ (m : ℕ). silent (emptied m Collecting)) a.1

pub resumes : (r : Receiver) (b x : ℕ) (ws : List ℕ) → InReceiver r → At r (awaiting x ws) → Ends x (ws ++ (b ∷ []))
    → stepped r b ≡ silent (emptied x Collecting)
resumes r b x ws g a d = ends_it r b x ws a d (shape r b g)

-- ---- the events before it

only_dropped : {x b : ℕ} {ws : List ℕ} {o : Sent} {t : Stand} → (Ends x (ws ++ (b ∷ [])) → ⊥)
    → Rule (awaiting x ws) (byte b) o t → (o ≡ nothing) × (t ≡ awaiting x (ws ++ (b ∷ [])))
only_dropped n (dropped m) = (refl, refl)
only_dropped n (resumed d) = absurd (n d)

only_again : {x : ℕ} {ws : List ℕ} {o : Sent} {t : Stand} → Rule (awaiting x ws) ask o t
    → (o ≡ asks x None) × (t ≡ awaiting x ws)
only_again again = (refl, refl)

pub waits_on : (ts : List Event) (r : Receiver) (x : ℕ) (ws : List ℕ) → unswitched ts ≡ true → InReceiver r
    → At r (awaiting x ws) → Nowhere x (ws ++ bytes_of ts)
    → At (run r ts) (awaiting x (ws ++ bytes_of ts)) × (sent r ts ≡ map (while_waiting x) ts)
waits_on [] r x ws u g a n = (subst⁻¹ (λ (l : List ℕ). At r (awaiting x l)) (append-nil ws) a, refl)
waits_on (byte b ∷ ts) r x ws u g a n =
    let along : ws ++ (b ∷ []) ++ bytes_of ts ≡ ws ++ (b ∷ bytes_of ts) = append_assoc ws (b ∷ []) (bytes_of ts) in
    let f = follows_one (byte b) r (awaiting x ws) g a in
    let d = only_dropped (never x (ws ++ (b ∷ bytes_of ts)) (ws ++ (b ∷ [])) (bytes_of ts) n (sym along)) f.1 in
    let i = waits_on ts (stepped r b).next x (ws ++ (b ∷ [])) u (keeps (byte b) r g)
    (subst (At (stepped r b).next) d.1 f.2) (subst⁻¹ (Nowhere x) along n) in (
      subst (λ (l : List ℕ). At (run (stepped r b).next ts) (awaiting x l)) along i.0,
      ap₂ (λ (o : Sent) (os : List Sent). o ∷ os) d.0 i.1,
    )
waits_on (on ∷ ts) r x ws u g a n = absurd (fails refl (holds u))
waits_on (off ∷ ts) r x ws u g a n = absurd (fails refl (holds u))
waits_on (ask ∷ ts) r x ws u g a n =
    let f = follows_one ask r (awaiting x ws) g a in
    let d = only_again f.1 in
    let i = waits_on ts (obey ask r).next x ws u (keeps ask r g) (subst (At (obey ask r).next) d.1 f.2) n in
    (i.0, ap₂ (λ (o : Sent) (os : List Sent). o ∷ os) d.0 i.1)

-- ---- from any state in range that waits

pub waits : (r : Receiver) → InReceiver r → (n : ℕ) → r.phase ≡ Waiting n → (ts : List Event) → unswitched ts ≡ true
    → Nowhere r.number (replicate n syn ++ bytes_of ts)
    → IsWaiting (run r ts) × ((run r ts).number ≡ r.number) × (sent r ts ≡ map (while_waiting r.number) ts)
    × ((b : ℕ) → Ends r.number (replicate n syn ++ bytes_of ts ++ (b ∷ []))
    → stepped (run r ts) b ≡ silent (emptied r.number Collecting))
waits r g n f ts u none =
    let a : At r (awaiting r.number (replicate n syn)) =
    (f ∙ ap Waiting (sym (seen_syns n (seen_in_lem r g.range n f))), refl) in
    let i = waits_on ts r r.number (replicate n syn) u g a none in (
      (seen_in (replicate n syn ++ bytes_of ts), i.0.0),
      i.0.1,
      i.1,
      λ b d. resumes (run r ts) b r.number (replicate n syn ++ bytes_of ts) (runs_keep ts r g) i.0 d,
    )
