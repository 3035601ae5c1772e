-- A piece heard byte by byte: what one byte more brings. Assumes nothing.
use mathlib.Core.Path.{◌≡◌, refl, sym, ap, ap₂, ◌∙◌}
use mathlib.Core.List.{List, [], ◌∷◌, ◌++◌, map-append, append_assoc, append-nil}
use Prim.Native.Nat.{ℕ, ◌+◌, ◌<◌}
use native.Mathlib.Numerals.{add-one}
use lib.ListN.{length, take, get_or}
use lib.Seq.{take-suc}
use Rattle.links_wiring.specs.declared.Module.{Module}
use Rattle.line_receiver.specs.declared.Receiver.{Receiver}
use Rattle.line_receiver.specs.Calls.{stepped}
use Rattle.line_receiver.specs.Runs.{Event, byte, run as receiver_run, sent_by, sent, all_passed, all_asked}
use Rattle.line_receiver.proofs.Kept.{run_append as heard-append, sent_append, asked_append}
use Rattle.links.specs.declared.Links.{Links}
use Rattle.links_hearing.specs.declared.ears.Ear.TheVariants.{Modem as modem}
use Rattle.links.specs.Runs.{Call, value, run as links_run}
use Rattle.board_feeding.specs.Feeding.{from_line, got, fed}
use Rattle.board_feeding.proofs.Suffices.{run_append, got_append}
use Rattle.board_front.specs.declared.Front.{Front}
use Rattle.board_front.specs.LineBytes.{heard_by, bytes, calls, behind, to_each, asks}

-- ---- some bytes, then others

bytes_append : (xs ys : List ℕ) → bytes (xs ++ ys) ≡ bytes xs ++ bytes ys
bytes_append [] ys = refl
bytes_append (x ∷ xs) ys = ap (λ (es : List Event). byte x ∷ es) (bytes_append xs ys)

calls_append : (r : Receiver) (xs ys : List ℕ)
    → calls r (xs ++ ys) ≡ calls r xs ++ calls (receiver_run r (bytes xs)) ys
unfolding calls
calls_append r [] ys = refl
calls_append r (x ∷ xs) ys =
    let now = from_line (sent_by (stepped r x)).passed in
    ap (λ (cs : List Call). now ++ cs) (calls_append (stepped r x).next xs ys)
    ∙ sym (append_assoc now (calls (stepped r x).next xs) (calls (receiver_run (stepped r x).next (bytes xs)) ys))

-- the values that the receiver passes on, handed to the links
pub calls_are : (r : Receiver) (xs : List ℕ) → calls r xs ≡ from_line (all_passed (sent r (bytes xs)))
unfolding calls
calls_are r [] = refl
calls_are r (x ∷ xs) =
    let vs = (sent_by (stepped r x)).passed in
    ap (λ (cs : List Call). from_line vs ++ cs) (calls_are (stepped r x).next xs)
    ∙ sym (map-append (value modem) vs (all_passed (sent (stepped r x).next (bytes xs))))

pub each_append : (m : Module) (f : Front) (xs ys : List ℕ)
    → to_each m f (xs ++ ys) ≡ to_each m f xs ++ to_each m (behind f xs) ys
each_append m f xs ys =
    ap (got m f.links) (calls_append f.receiver xs ys)
    ∙ got_append m f.links (calls f.receiver xs) (calls (receiver_run f.receiver (bytes xs)) ys)

pub asks_append : (f : Front) (xs ys : List ℕ) → asks f (xs ++ ys) ≡ asks f xs ++ asks (behind f xs) ys
asks_append f xs ys =
    let r = f.receiver in
    ap (λ (es : List Event). all_asked (sent r es)) (bytes_append xs ys)
    ∙ ap all_asked (sent_append (bytes xs) (bytes ys) r)
    ∙ asked_append (sent r (bytes xs)) (sent (receiver_run r (bytes xs)) (bytes ys))

pub behind_append : (f : Front) (xs ys : List ℕ) → behind f (xs ++ ys) ≡ behind (behind f xs) ys
behind_append f xs ys =
    let r = f.receiver in
    ap₂ (λ (x : Receiver) (l : Links). record { receiver = x; links = l })
    (ap (receiver_run r) (bytes_append xs ys) ∙ heard-append (bytes xs) (bytes ys) r)
    (ap (links_run f.links) (calls_append r xs ys)
    ∙ run_append f.links (calls r xs) (calls (receiver_run r (bytes xs)) ys))

-- ---- one byte

-- what one byte brings a module, and asks
unfoldable pub brings : Module → Front → ℕ → List ℕ
brings m f x = got m f.links (from_line (sent_by (stepped f.receiver x)).passed)

unfoldable pub requests : Front → ℕ → List ℕ
requests f x = (sent_by (stepped f.receiver x)).asked

module _ (f : Front) (xs : List ℕ) (i : ℕ) (h : i < length xs) where
  next : take (i + 1) xs ≡ take i xs ++ (get_or xs i 0 ∷ [])
  next = ap (λ (n : ℕ). take n xs) (add-one i) ∙ take-suc xs i 0 h

  pub behind_one : behind f (take (i + 1) xs) ≡ (heard_by (behind f (take i xs)) (get_or xs i 0)).front
  unfolding heard_by calls fed
  behind_one =
      let g = behind f (take i xs) in
      ap (behind f) next ∙ behind_append f (take i xs) (get_or xs i 0 ∷ [])
      ∙ ap
      (λ (cs : List Call).
      record { receiver = (stepped g.receiver (get_or xs i 0)).next; links = links_run g.links cs })
      (append-nil (from_line (sent_by (stepped g.receiver (get_or xs i 0))).passed))

  pub each_one : (m : Module)
      → to_each m f (take (i + 1) xs) ≡ to_each m f (take i xs) ++ brings m (behind f (take i xs)) (get_or xs i 0)
  unfolding brings calls
  each_one m =
      let g = behind f (take i xs) in
      ap (to_each m f) next ∙ each_append m f (take i xs) (get_or xs i 0 ∷ [])
      ∙ ap (λ (cs : List Call). to_each m f (take i xs) ++ got m g.links cs)
      (append-nil (from_line (sent_by (stepped g.receiver (get_or xs i 0))).passed))

  pub asks_one : asks f (take (i + 1) xs) ≡ asks f (take i xs) ++ requests (behind f (take i xs)) (get_or xs i 0)
  unfolding requests
  asks_one =
      let g = behind f (take i xs) in
      ap (asks f) next ∙ asks_append f (take i xs) (get_or xs i 0 ∷ [])
      ∙ ap (λ (qs : List ℕ). asks f (take i xs) ++ qs)
      (append-nil (sent_by (stepped g.receiver (get_or xs i 0))).asked)
