-- Room: what is needed is there exactly where each output has enough. Assumes nothing.
use mathlib.Core.Path.{◌≡◌, refl, sym, ap, ◌∙◌, subst}
use mathlib.Core.Bool.{Bool, true, false, ◌&&◌}
use mathlib.Core.List.{List, ◌++◌}
use Prim.Native.Nat.{ℕ, ◌+◌, ◌≤◌, ◌<◌}
use native.Mathlib.Omega.{arith}
use lib.Dec.{leb, T}
use lib.ListN.{length, take, drop, get_or, length-append, take-append-drop}
use borrow.Author.Tests.{leb-true, le-leb}
use Rattle.laws.proofs.Computed.{and_left, and_right, holds, is_true, fails}
use Rattle.line_receiver.specs.Calls.{stepped}
use Rattle.line_receiver.proofs.Asked.{asked_counted}
use Rattle.board_feeding.specs.Feeding.{fed}
use Rattle.links_wiring.specs.declared.Module.{Module}
use Rattle.links_wiring.specs.declared.Module.TheVariants.{Keyboard, Modem, Socket}
use Rattle.board_front.specs.declared.Front.{Front}
use Rattle.board_front.specs.declared.Room.{Room}
use Rattle.std.specs.Prelude.{Some, None}
use Rattle.board_front.specs.LineBytes.{heard_by, behind, to_each, asks}
use Rattle.board_front.specs.Fitting.{within, needed, needs_of, more, less, left_over}
use Rattle.board_front.proofs.Onwards.{each_append, asks_append, brings, requests, each_one, asks_one}

pub record Fits (n r : Room) : Type 0 where
  pub keyboard : n.keyboard ≤ r.keyboard
  pub modem : n.modem ≤ r.modem
  pub socket : n.socket ≤ r.socket
  pub requests : n.requests ≤ r.requests

le_of : (a b : ℕ) → T (leb a b) → a ≤ b
le_of a b t = leb-true a b (is_true (leb a b) t)

pub tested : (n r : Room) → within n r ≡ true → Fits n r
tested n r e =
    let k = leb n.keyboard r.keyboard in
    let m = leb n.modem r.modem in
    let s = leb n.socket r.socket in
    let q = leb n.requests r.requests in
    let t = holds e in
    let u = and_right k (m && (s && q)) t in
    let v = and_right m (s && q) u in
    record {
      keyboard = le_of n.keyboard r.keyboard (and_left k (m && (s && q)) t);
      modem = le_of n.modem r.modem (and_left m (s && q) u);
      socket = le_of n.socket r.socket (and_left s q v);
      requests = le_of n.requests r.requests (and_right s q v);
    }

pub passes : (n r : Room) → Fits n r → within n r ≡ true
passes n r f =
    simp (
      le-leb n.keyboard r.keyboard f.keyboard,
      le-leb n.modem r.modem f.modem,
      le-leb n.socket r.socket f.socket,
      le-leb n.requests r.requests f.requests,
    )

-- ---- the beginning of a piece needs no more than the piece

longer : (us ws vs : List ℕ) → vs ≡ us ++ ws → length us ≤ length vs
longer us ws vs e = omega (arith, ap length e ∙ length-append us ws)

pub beginning : (f : Front) (xs : List ℕ) (i : ℕ) → Fits (needed f (take i xs)) (needed f xs)
beginning f xs i =
    let us = take i xs in
    let ws = drop i xs in
    let e : xs ≡ us ++ ws = sym (take-append-drop i xs) in
    let each : (m : Module) → length (to_each m f us) ≤ length (to_each m f xs) =
    λ m. longer (to_each m f us) (to_each m (behind f us) ws) (to_each m f xs)
    (ap (to_each m f) e ∙ each_append m f us ws) in
    record {
      keyboard = each Keyboard;
      modem = each Modem;
      socket = each Socket;
      requests = longer (asks f us) (asks (behind f us) ws) (asks f xs) (ap (asks f) e ∙ asks_append f us ws);
    }

-- ---- one byte more

pub one_more : (f : Front) (xs : List ℕ) (i : ℕ) → i < length xs
    → needed f (take (i + 1) xs)
    ≡ more (needed f (take i xs)) (needs_of (heard_by (behind f (take i xs)) (get_or xs i 0)))
unfolding heard_by fed brings requests
one_more f xs i h =
    let g = behind f (take i xs) in
    let x = get_or xs i 0 in
    let each : (m : Module)
    → length (to_each m f (take (i + 1) xs)) ≡ length (to_each m f (take i xs)) + length (brings m g x) =
    λ m. ap length (each_one f xs i h m) ∙ length-append (to_each m f (take i xs)) (brings m g x) in
    let q : length (asks f (take (i + 1) xs)) ≡ length (asks f (take i xs)) + (stepped g.receiver x).request.count =
    ap length (asks_one f xs i h) ∙ length-append (asks f (take i xs)) (requests g x)
    ∙ ap (λ (n : ℕ). length (asks f (take i xs)) + n) (asked_counted g.receiver x).1 in
    simp (each Keyboard, each Modem, each Socket, q)

-- of the room r so much is left where n is spent
pub record Spent (r left n : Room) : Type 0 where
  pub keyboard : r.keyboard ≡ left.keyboard + n.keyboard
  pub modem : r.modem ≡ left.modem + n.modem
  pub socket : r.socket ≡ left.socket + n.socket
  pub requests : r.requests ≡ left.requests + n.requests

module _ {r left n d : Room} (s : Spent r left n) where
  pub spent_on : Fits d left → Spent r (less left d) (more n d)
  spent_on f =
      record {
        keyboard = omega (arith, s.keyboard, f.keyboard);
        modem = omega (arith, s.modem, f.modem);
        socket = omega (arith, s.socket, f.socket);
        requests = omega (arith, s.requests, f.requests);
      }

  pub left_enough : Fits (more n d) r → Fits d left
  left_enough f =
      record {
        keyboard = omega (arith, s.keyboard, f.keyboard);
        modem = omega (arith, s.modem, f.modem);
        socket = omega (arith, s.socket, f.socket);
        requests = omega (arith, s.requests, f.requests);
      }

-- ---- what is left over

pub enough : (r n rest : Room) → left_over r n ≡ Some rest → (within n r ≡ true) × (rest ≡ less r n)
unfolding left_over
enough r n rest e = go (within n r) refl
  where
    go : (t : Bool) → within n r ≡ t → (within n r ≡ true) × (rest ≡ less r n)
    go true w = (w, cc)
    go false w = cc

pub short : (r n : Room) → left_over r n ≡ None → within n r ≡ false
unfolding left_over
short r n e = go (within n r) refl
  where
    go : (t : Bool) → within n r ≡ t → within n r ≡ false
    go true w = cc
    go false w = w

-- ---- the whole piece

-- where a byte on the way lacks room, the piece does
pub lacking : (f : Front) (xs : List ℕ) (i : ℕ) (r left : Room) → i < length xs → Spent r left (needed f (take i xs))
    → within (needs_of (heard_by (behind f (take i xs)) (get_or xs i 0))) left ≡ false → within (needed f xs) r ≡ false
lacking f xs i r left h s e = go (within (needed f xs) r) refl
  where
    go : (t : Bool) → within (needed f xs) r ≡ t → within (needed f xs) r ≡ false
    go false w = w
    go true w =
        let d = needs_of (heard_by (behind f (take i xs)) (get_or xs i 0)) in
        let a = tested (needed f xs) r w in
        let b = beginning f xs (i + 1) in
        let c : Fits (needed f (take (i + 1) xs)) r =
        record {
          keyboard = omega (arith, a.keyboard, b.keyboard);
          modem = omega (arith, a.modem, b.modem);
          socket = omega (arith, a.socket, b.socket);
          requests = omega (arith, a.requests, b.requests);
        } in
        absurd (fails e (holds (passes d left
        (left_enough s (subst (λ (n : Room). Fits n r) (one_more f xs i h) c)))))

-- where all was spent, there was room
pub spent_whole : (n r left : Room) → Spent r left n → within n r ≡ true
spent_whole n r left s =
    passes n r
    (record {
      keyboard = omega (arith, s.keyboard);
      modem = omega (arith, s.modem);
      socket = omega (arith, s.socket);
      requests = omega (arith, s.requests);
    })
