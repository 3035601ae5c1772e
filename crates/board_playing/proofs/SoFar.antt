-- How far a piece is played, and what one turn more brings to the outputs. Assumes nothing.
use mathlib.Core.Path.{◌≡◌, refl, sym, ap, ap₂, ◌∙◌, subst, subst⁻¹}
use mathlib.Core.Bool.{Bool, true, false, cond}
use mathlib.Core.List.{List, ◌∷◌, [], ◌++◌}
use Prim.Native.Nat.{ℕ, ◌+◌, ◌-◌, ◌≤◌, ◌<◌}
use native.Mathlib.Omega.{arith}
use lib.ListN.{length, take, drop, replicate, length-drop}
use lib.Seq.{take-add, take_all, length-take-le}
use Rattle.few.specs.Bytes.{contents}
use Rattle.lent.specs.Memory.{written, behind}
use Rattle.lent.proofs.Behind.{length_written, none_written, twice, behind_twice}
use Rattle.links_wiring.specs.declared.Module.{Module}
use Rattle.links_wiring.specs.declared.Module.TheVariants.{Screen, Keyboard, Modem, Socket}
use Rattle.line_receiver.specs.declared.Receiver.{Receiver}
use Rattle.links.specs.declared.Links.{Links}
use Rattle.links.specs.Runs.{Call, run as links_run}
use Rattle.board_feeding.specs.Feeding.{from_line, got}
use Rattle.board_front.specs.declared.Front.{Front}
use Rattle.board_front.specs.declared.Room.{Room}
use Rattle.board_front.specs.LineBytes.{calls, behind as front_behind, to_each, asks}
use Rattle.board_front.proofs.Onwards.{calls_are, behind_append, each_append, asks_append}
use Rattle.screen_page.specs.declared.Screen.{Screen as Page}
use Rattle.screen.specs.Calls.{ran}
use Rattle.board.specs.declared.Board.{Board}
use Rattle.board.specs.Boards.{front_of}
use Rattle.board_passing.specs.declared.Onward.{Onward}
use Rattle.board_passing.specs.Passing.{Outs, outs, onward, handed_out}
use Rattle.line_turns.specs.declared.Turn.{Turn}
use Rattle.line_turns.specs.Notes.{notes_of}
use Rattle.line_turns.specs.Turns.{turn_of, TakenSingly}
use Rattle.line_turns.proofs.Held.{notes_append}
use Rattle.line_turns.proofs.Steps.{notes_many, taken_singly}
use Rattle.board_playing.specs.Playing.{heard_whole, reached, played}

-- ---- an output

-- bytes stand at the beginning of an output, as many as fit, and the next go behind them
pub record Begun (before us out : List ℕ) (at : ℕ) : Type 0 where
  pub bytes : out ≡ written before 0 us
  pub place : at ≡ behind before 0 us

module _ {before us out : List ℕ} {at : ℕ} (now : Begun before us out at) where
  pub further : (ws : List ℕ) {all left : List ℕ} {to : ℕ} → all ≡ us ++ ws → left ≡ written out at ws
      → to ≡ behind out at ws → Begun before all left to
  further ws j l t =
      record {
        bytes =
            l ∙ ap₂ (λ (o : List ℕ) (n : ℕ). written o n ws) now.bytes now.place ∙ twice before 0 us ws
            ∙ ap (written before 0) (sym j);
        place =
            t ∙ ap₂ (λ (o : List ℕ) (n : ℕ). behind o n ws) now.bytes now.place ∙ behind_twice before 0 us ws
            ∙ ap (behind before 0) (sym j);
      }

pub begun_none : (out : List ℕ) → Begun out [] out 0
begun_none out = record { bytes = sym (none_written out 0); place = omega arith }

-- ---- one turn more

module _ (f : Front) (xs : List ℕ) (i : ℕ) (t : Turn)
    (taken : TakenSingly (front_behind f (take i xs)).receiver (drop i xs) t) where
  abbrev here : Front
  here = front_behind f (take i xs)

  abbrev ys : List ℕ
  ys = take t.took (drop i xs)

  abbrev vs : List ℕ
  vs = contents t.stepped.values

  cut : take (i + t.took) xs ≡ take i xs ++ ys
  cut = take-add i t.took xs

  handed_on : calls here.receiver ys ≡ from_line vs
  handed_on = calls_are here.receiver ys ∙ ap from_line (sym taken.singly.passed)

  pub next_front : record { receiver = t.stepped.next; links = links_run here.links (from_line vs) }
      ≡ front_behind f (take (i + t.took) xs)
  next_front =
      sym (ap (front_behind f) cut ∙ behind_append f (take i xs) ys
      ∙ ap₂ (λ (r : Receiver) (cs : List Call). record { receiver = r; links = links_run here.links cs })
      (sym taken.singly.next) handed_on)

  pub next_each : (m : Module)
      → to_each m f (take (i + t.took) xs) ≡ to_each m f (take i xs) ++ got m here.links (from_line vs)
  next_each m =
      ap (to_each m f) cut ∙ each_append m f (take i xs) ys
      ∙ ap (λ (cs : List Call). to_each m f (take i xs) ++ got m here.links cs) handed_on

  pub next_asks : asks f (take (i + t.took) xs)
      ≡ asks f (take i xs) ++ contents t.stepped.request
  next_asks =
      ap (asks f) cut ∙ asks_append f (take i xs) ys
      ∙ ap (λ (qs : List ℕ). asks f (take i xs) ++ qs) (sym taken.singly.asked)

  pub next_notes : notes_of f.receiver (take (i + t.took) xs)
      ≡ notes_of f.receiver (take i xs) ++ (replicate (t.took - 1) 0 ++ (t.note ∷ []))
  next_notes =
      ap (notes_of f.receiver) cut ∙ notes_append (take i xs) ys f.receiver
      ∙ ap (λ (ns : List ℕ). notes_of f.receiver (take i xs) ++ ns) (sym taken.singly.notes)

-- what is heard and handed out when the beginning ys of a piece is played
pub record SoFar (f : Front) (ys k m s q : List ℕ) (r : Receiver) (o : Onward) (k' m' s' q' : List ℕ)
    : Type 0 where
  pub front : record { receiver = r; links = o.links } ≡ front_behind f ys
  pub keyboard : Begun k (to_each Keyboard f ys) k' o.used.keyboard
  pub modem : Begun m (to_each Modem f ys) m' o.used.modem
  pub socket : Begun s (to_each Socket f ys) s' o.used.socket
  pub requests : Begun q (asks f ys) q' o.used.requests

-- with this place behind the requests
abbrev pub asking : Onward → ℕ → Onward
asking o to =
    record {
      links = o.links;
      gathered = o.gathered;
      used = record { keyboard = o.used.keyboard; modem = o.used.modem; socket = o.used.socket; requests = to };
    }

module _ (f : Front) (xs : List ℕ) (i : ℕ) (t : Turn) {k m s q : List ℕ} {r : Receiver} {o : Onward}
    {k' m' s' q' : List ℕ} (now : SoFar f (take i xs) k m s q r o k' m' s' q')
    (heard : TakenSingly r (drop i xs) t) where
  abbrev values : List ℕ
  values = contents t.stepped.values

  abbrev request : List ℕ
  request = contents t.stepped.request

  taken : TakenSingly (front_behind f (take i xs)).receiver (drop i xs) t
  taken = subst (λ (x : Receiver). TakenSingly x (drop i xs) t) (ap (λ (g : Front). g.receiver) now.front) heard

  pub each : (m : Module)
      → to_each m f (take (i + t.took) xs) ≡ to_each m f (take i xs) ++ got m o.links (from_line values)
  each m =
      next_each f xs i t taken m
      ∙ ap (λ (l : Links). to_each m f (take i xs) ++ got m l (from_line values))
      (sym (ap (λ (g : Front). g.links) now.front))

  pub notes_then : notes_of f.receiver (take (i + t.took) xs)
      ≡ notes_of f.receiver (take i xs) ++ (replicate (t.took - 1) 0 ++ (t.note ∷ []))
  notes_then = next_notes f xs i t taken

  -- the values are passed on, and the request is added
  pub played_on : (g : ℕ) (b : List ℕ) {p : Onward} {w : Outs} {to : ℕ} {asked : List ℕ}
      → p ≡ onward o.links values g o.used (outs b k' m' s')
      → w ≡ handed_out o.links values g o.used (outs b k' m' s')
      → to ≡ behind q' o.used.requests request → asked ≡ written q' o.used.requests request
      → SoFar f (take (i + t.took) xs) k m s q t.stepped.next (asking p to) w.keyboard w.modem w.socket asked
  unfolding onward handed_out
  played_on g b e d c w =
      record {
        front =
            ap (λ (x : Onward). record { receiver = t.stepped.next; links = x.links }) e
            ∙ ap (λ (x : Front). record { receiver = t.stepped.next; links = links_run x.links (from_line values) })
            now.front
            ∙ next_front f xs i t taken;
        keyboard =
            further now.keyboard (got Keyboard o.links (from_line values)) (each Keyboard)
            (ap (λ (x : Outs). x.keyboard) d) (ap (λ (x : Onward). x.used.keyboard) e);
        modem =
            further now.modem (got Modem o.links (from_line values)) (each Modem)
            (ap (λ (x : Outs). x.modem) d) (ap (λ (x : Onward). x.used.modem) e);
        socket =
            further now.socket (got Socket o.links (from_line values)) (each Socket)
            (ap (λ (x : Outs). x.socket) d) (ap (λ (x : Onward). x.used.socket) e);
        requests = further now.requests request (next_asks f xs i t taken) w c;
      }

  -- what is gathered for the screen
  pub gathered_on : (g : ℕ) (b : List ℕ) {p : Onward} {w : Outs}
      → p ≡ onward o.links values g o.used (outs b k' m' s')
      → w ≡ handed_out o.links values g o.used (outs b k' m' s')
      → (w.screen ≡ written b g (got Screen o.links (from_line values)))
      × (p.gathered ≡ behind b g (got Screen o.links (from_line values)))
  unfolding onward handed_out
  gathered_on g b e d = (ap (λ (x : Outs). x.screen) d, ap (λ (x : Onward). x.gathered) e)

-- the whole piece is played, and the screen shown what is left
pub all_played : (b : Board) {xs ys k m s q : List ℕ} {r : Receiver} {o : Onward} {k' m' s' q' : List ℕ} {u : Page}
    → SoFar (front_of b) ys k m s q r o k' m' s' q'
    → u ≡ (ran b.screen (to_each Screen (front_of b) ys)).screen → ys ≡ xs
    → record { next = record { receiver = r; links = o.links; screen = u }; used = o.used } ≡ played b xs k m s q
unfolding played
all_played b {xs} {ys} {k} {m} {s} {q} {r} {o} {k'} {m'} {s'} {q'} {u} now shown e =
    let next : record { receiver = r; links = o.links; screen = u } ≡ heard_whole b ys =
    ap₂ (λ (g : Front) (t : Page). record { receiver = g.receiver; links = g.links; screen = t }) now.front
    shown in
    let used : record {
      keyboard = o.used.keyboard;
      modem = o.used.modem;
      socket = o.used.socket;
      requests = o.used.requests;
    } ≡ reached (front_of b) ys k m s q =
    simp (now.keyboard.place, now.modem.place, now.socket.place, now.requests.place) in
    ap₂ (λ (n : Board) (w : Room). record { next = n; used = w }) next used
    ∙ ap (λ (zs : List ℕ). played b zs k m s q) e

-- ---- a turn of a piece

pub record Turned (r : Receiver) (xs : List ℕ) (i : ℕ) (t : Turn) : Type 0 where
  pub taken : TakenSingly r (drop i xs) t
  pub within : i + t.took ≤ length xs

pub turned : (r : Receiver) (xs : List ℕ) (i : ℕ) (t : Turn) → length r.held ≡ 17 → i < length xs
    → t ≡ turn_of r (take (length xs - i) (drop i xs)) → Turned r xs i t
turned r xs i t g h e =
    let f : t ≡ turn_of r (drop i xs) =
    e ∙ ap (turn_of r) (take_all (length xs - i) (drop i xs) (omega (arith, length-drop i xs))) in
    let taken = subst⁻¹ (TakenSingly r (drop i xs)) f (taken_singly r (drop i xs) g (omega (arith, h, length-drop i xs))) in
    record { taken = taken; within = omega (arith, taken.within, h, length-drop i xs) }

-- ---- the notes

-- where they are asked for
abbrev pub notes_left : Bool → List ℕ → List ℕ → List ℕ
notes_left noting ns before = cond noting (written before 0 ns) before

pub notes_long : (noting : Bool) (ns before : List ℕ) → length (notes_left noting ns before) ≡ length before
notes_long true ns before = length_written before 0 ns
notes_long false ns before = refl

-- those of a turn behind those there are
pub notes_on : (noting : Bool) (us ws all before out : List ℕ) (at : ℕ) → out ≡ notes_left noting us before
    → (noting ≡ true → at ≡ behind before 0 us) → all ≡ us ++ ws
    → cond noting (written out at ws) out ≡ notes_left noting all before
notes_on true us ws all before out at e a j =
    let b : Begun before us out at = record { bytes = e; place = a refl } in
    (further b ws {all = all} {left = written out at ws} {to = behind out at ws} j refl refl).bytes
notes_on false us ws all before out at e a j = e

pub noted_so_far : (r : Receiver) (xs : List ℕ) (i : ℕ) → i ≤ length xs → i ≡ length (notes_of r (take i xs))
noted_so_far r xs i h = sym (notes_many r (take i xs) ∙ length-take-le i xs h)
