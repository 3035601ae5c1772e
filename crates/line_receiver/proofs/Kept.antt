-- Every event keeps a state in range, and a run is the run over its parts. Assumes nothing.
use mathlib.Core.Path.{◌≡◌, refl, sym, ap, ◌∙◌, subst⁻¹}
use mathlib.Core.Bool.{Bool, true, false, cond}
use mathlib.Core.List.{List, [], ◌∷◌, ◌++◌, append_assoc}
use Prim.Native.Nat.{ℕ, ◌+◌, ◌<◌}
use native.Mathlib.Nat.{mod-lt, zero-lt-suc}
use native.Mathlib.Omega.{arith}
use lib.ListN.{length-set}
use borrow.Author.Tests.{lt-ltb}
use Rattle.line_codes.specs.declared.Listened.{Listened}
use Rattle.line_codes.specs.declared.Listened.TheVariants.{Seen, Resumed}
use Rattle.line_codes.specs.Codes.{listened}
use Rattle.line_codes.proofs.Seen.{SeenBelow, listened_lt}
use Rattle.line_phases.specs.declared.Phase.{Phase}
use Rattle.line_phases.specs.Phases.{seen_in_range}
use Rattle.line_phases.specs.declared.Phase.TheVariants.{Off, Collecting, Waiting}
use Rattle.line_receiver.specs.declared.Receiver.{Receiver}
use Rattle.line_receiver.specs.declared.Stepped.{Stepped}
use Rattle.line_receiver.specs.States.{in_range, InReceiver, emptied, new_receiver}
use Rattle.line_receiver.specs.Calls.{silent, refused, holding, waiting, listening, switched_on, switched_off}
use Rattle.line_receiver.specs.Calls.{again_by, asked_again}
use Rattle.line_receiver.specs.Runs.{Event, byte, on, off, ask, obey, run, Sent, sent_by, sent, all_asked}
use Rattle.line_receiver.proofs.Ranges.{in_range_lem, number_in, count_in}
use Rattle.line_receiver.proofs.Cases.{again_in}
use Rattle.line_receiver.proofs.Shape.{Shape, plain, more, took, none, listens, shape}

-- ---- a byte

pub emptied_in : (x : ℕ) (p : Phase) → x < 16 → seen_in_range p ≡ true → InReceiver (emptied x p)
emptied_in x p h s = record { range = in_range_lem (emptied x p) h (omega arith) s; array = refl }

pub new_in : InReceiver new_receiver
new_in = emptied_in _ _ (omega arith) refl

listened_in : (r : Receiver) (x n b : ℕ) → InReceiver r → InReceiver (listening (listened x n b) r)
listened_in r x n b g = by (listened x n b) (listened_lt x n b)
  where
    by : (l : Listened) → SeenBelow 3 l → InReceiver (listening l r)
    by (Seen m) h =
        record {
          range = in_range_lem (waiting r m) (number_in r g.range) (count_in r g.range) (lt-ltb m 3 h);
          array = g.array;
        }
    by Resumed h = emptied_in r.number Collecting (number_in r g.range) refl

byte_keeps : (r : Receiver) (b : ℕ) → InReceiver r → {s : Stepped} → Shape r b s → InReceiver s.next
byte_keeps r b g (plain f) = g
byte_keeps r b g (more f k) =
    record {
      range = in_range_lem (holding r b) (number_in r g.range) (omega arith) (ap seen_in_range f);
      array = length-set r.held r.count b ∙ g.array;
    }
byte_keeps r b g (took f k C o) =
    emptied_in _ _ (mod-lt (r.number + 1) (zero-lt-suc 15)) refl
byte_keeps r b g (none f k o) =
    let h : r.number < 16 = number_in r g.range in emptied_in _ _ (omega arith) refl
byte_keeps r b g (listens n f) = listened_in r r.number n b g

-- ---- the calls of the host

module _ (r : Receiver) (g : InReceiver r) where
  pub on_afresh : switched_on r ≡ silent (emptied 0 Collecting)
  on_afresh = ap (λ (t : Bool). cond t (silent (emptied 0 Collecting)) (refused r)) g.range

  pub off_afresh : switched_off r ≡ silent (emptied 0 Off)
  off_afresh = ap (λ (t : Bool). cond t (silent (emptied 0 Off)) (refused r)) g.range

  pub again_as : asked_again r ≡ again_by r.phase r
  again_as = sym (again_in r r.phase g.range refl)

again_next : (p : Phase) (r : Receiver) → (again_by p r).next ≡ r
again_next Off r = refl
again_next Collecting r = refl
again_next (Waiting n) r = refl

-- asking again changes no state, in range or not
pub again_same : (r : Receiver) → (asked_again r).next ≡ r
again_same r = go (in_range r)
  where
    go : (t : Bool) → (cond t (again_by r.phase r) (refused r)).next ≡ r
    go true = again_next r.phase r
    go false = refl

-- ---- runs

pub keeps : (e : Event) (r : Receiver) → InReceiver r → InReceiver (obey e r).next
keeps (byte b) r g = byte_keeps r b g (shape r b g)
keeps on r g =
    subst⁻¹ (λ (s : Stepped). InReceiver s.next) (on_afresh r g) (emptied_in 0 Collecting (omega arith) refl)
keeps off r g =
    subst⁻¹ (λ (s : Stepped). InReceiver s.next) (off_afresh r g) (emptied_in 0 Off (omega arith) refl)
keeps ask r g = subst⁻¹ InReceiver (again_same r) g

pub runs_keep : (es : List Event) (r : Receiver) → InReceiver r → InReceiver (run r es)
runs_keep [] r g = g
runs_keep (e ∷ es) r g = runs_keep es (obey e r).next (keeps e r g)

pub run_append : (es fs : List Event) (r : Receiver) → run r (es ++ fs) ≡ run (run r es) fs
run_append [] fs r = refl
run_append (e ∷ es) fs r = run_append es fs (obey e r).next

pub sent_append : (es fs : List Event) (r : Receiver) → sent r (es ++ fs) ≡ sent r es ++ sent (run r es) fs
sent_append [] fs r = refl
sent_append (e ∷ es) fs r = ap (λ (os : List Sent). sent_by (obey e r) ∷ os) (sent_append es fs (obey e r).next)

pub asked_append : (os ps : List Sent) → all_asked (os ++ ps) ≡ all_asked os ++ all_asked ps
asked_append [] ps = refl
asked_append (o ∷ os) ps =
    ap (λ (l : List ℕ). o.asked ++ l) (asked_append os ps)
    ∙ sym (append_assoc o.asked (all_asked os) (all_asked ps))
