-- One call at a time: what the receiver hears, where a key and a value from the socket go, and the host's choice of a
-- table. Assumes nothing.
use mathlib.Core.Path.{◌≡◌, refl, sym, ap, ◌∙◌}
use mathlib.Core.Bool.{true, cond}
use Rattle.std.specs.Prelude.{Ok}
use mathlib.Core.List.{List, [], ◌∷◌, append-nil}
use Prim.Native.Nat.{ℕ, ◌<◌}
use Rattle.links_wiring.specs.declared.Module.{Module}
use Rattle.links_wiring.specs.declared.Module.TheVariants.{Screen, Keyboard, Socket}
use Rattle.links_wiring.specs.Tables.{reaches}
use Rattle.links_replies.specs.Replies.{statuses_of}
use Rattle.links_hearing.specs.declared.Unfinished.TheVariants.{Free}
use Rattle.line_receiver.specs.Runs.{Event as Heard, obey as receiver_obey, sent_by}
use Rattle.links_hearing.specs.declared.ears.Ear.TheVariants.{Socket as socket_ear}
use Rattle.links.specs.declared.Links.{Links}
use Rattle.links.specs.declared.Outcome.{Outcome as LinksOutcome}
use Rattle.links.specs.States.{unfinished}
use Rattle.links.specs.Runs.{Call, key as key_call, value, given}
use Rattle.links.proofs.Flow.{plain_goes, key_goes}
use Rattle.links.proofs.Choosing.{begins_local, begins_connected, local_chosen, connected_chosen}
use Rattle.board_feeding.specs.Feeding.{got}
use Rattle.board_front.specs.LineBytes.{heard_by}
use Rattle.screen.specs.Calls.{ran}
use Rattle.board.specs.declared.Board.{Board}
use Rattle.board.specs.Boards.{in_range, front_of}
use Rattle.board.specs.Calls.{joined, following, at_line}
use Rattle.board.specs.Runs.{Event, front, key, socket, to_local, to_connected, obey, out_to, request, handed_to}
use Rattle.board.specs.Runs.{requests, calls_in, Outside, InBoard}
use Rattle.board.proofs.Parts.{apart}

-- a call of `line` is what is heard of its byte, with the screen shown its share
pub one_heard : (b : Board) (x : ℕ) → in_range b ≡ true
    → at_line b x ≡ joined b (heard_by (front_of b) x) (Ok tt)
unfolding following heard_by
one_heard b x e = simp e

pub hears : (h : Heard) (b : Board) → InBoard b
    → ((obey (front h) b).next.receiver ≡ (receiver_obey h b.receiver).next)
    × (request (obey (front h) b) ≡ (sent_by (receiver_obey h b.receiver)).asked)
unfolding requests
hears h b i =
    let g = apart (front h ∷ []) b i in (
      g.receiver,
      sym (append-nil (request (obey (front h) b))) ∙ g.asked
          ∙ append-nil (sent_by (receiver_obey h b.receiver)).asked,
    )

-- where a call of the links sends just these bytes along a sender's links
module _ (b : Board) (i : InBoard b) (e : Event) (c : Call) (from : Module) (vs : List ℕ)
    (one : calls_in b.receiver (e ∷ []) ≡ c ∷ [])
    (goes : (m : Module) → given b.links c m ≡ cond (reaches b.links.table from m) vs []) where
  got_so : (m : Module) → got m b.links (calls_in b.receiver (e ∷ []))
      ≡ cond (reaches b.links.table from m) vs []
  unfolding got
  got_so m = ap (got m b.links) one ∙ append-nil (given b.links c m) ∙ goes m

  goes_out : (m : Module) → Outside m → out_to m (obey e b) ≡ cond (reaches b.links.table from m) vs []
  unfolding handed_to
  goes_out m u = sym (append-nil (out_to m (obey e b))) ∙ (apart (e ∷ []) b i).handed m u ∙ got_so m

  is_shown : (obey e b).next.screen ≡ (ran b.screen (cond (reaches b.links.table from Screen) vs [])).screen
  is_shown = (apart (e ∷ []) b i).screen ∙ ap (λ (ws : List ℕ). (ran b.screen ws).screen) (got_so Screen)

pub key_out : (b : Board) → InBoard b → (v : ℕ) → v < 128
    → ((m : Module) → Outside m → out_to m (obey (key v) b) ≡ cond (reaches b.links.table Keyboard m) (v ∷ []) [])
    × ((obey (key v) b).next.screen
    ≡ (ran b.screen (cond (reaches b.links.table Keyboard Screen) (v ∷ []) [])).screen)
key_out b i v h =
    let p = key_goes b.links v i.links h in (
      goes_out b i (key v) (key_call v) Keyboard (v ∷ []) refl p.reached,
      is_shown b i (key v) (key_call v) Keyboard (v ∷ []) refl p.reached,
    )

pub socket_out : (b : Board) → InBoard b → unfinished b.links socket_ear ≡ Free → (v : ℕ) → v < 128 → (v ≡ 27 → ⊥)
    → ((m : Module) → Outside m → out_to m (obey (socket v) b) ≡ cond (reaches b.links.table Socket m) (v ∷ []) [])
    × ((obey (socket v) b).next.screen
    ≡ (ran b.screen (cond (reaches b.links.table Socket Screen) (v ∷ []) [])).screen)
socket_out b i f v h n =
    let p = plain_goes b.links socket_ear v i.links f h n in (
      goes_out b i (socket v) (value socket_ear v) Socket (v ∷ []) refl p.reached,
      is_shown b i (socket v) (value socket_ear v) Socket (v ∷ []) refl p.reached,
    )

pub chooses : (b : Board) → InBoard b
    → (statuses_of (obey to_local b).next.links.table ≡ 77 ∷ 66 ∷ 70 ∷ 74 ∷ [])
    × (statuses_of (obey to_connected b).next.links.table ≡ 69 ∷ 66 ∷ 78 ∷ 76 ∷ [])
chooses b i =
    let told : Links → List ℕ = λ l. statuses_of l.table in (
      ap told (apart (to_local ∷ []) b i).links
          ∙ ap (λ (o : LinksOutcome). told o.next) (local_chosen b.links i.links) ∙ begins_local,
      ap told (apart (to_connected ∷ []) b i).links
          ∙ ap (λ (o : LinksOutcome). told o.next) (connected_chosen b.links i.links) ∙ begins_connected,
    )
