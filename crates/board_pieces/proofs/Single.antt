-- A piece heard byte by byte comes to what single calls come to. Assumes nothing.
use mathlib.Core.Path.{◌≡◌, refl, sym, ap, ap₂, ◌∙◌}
use mathlib.Core.Bool.{Bool, true, false, cond, ◌&&◌}
use mathlib.Core.List.{List, [], ◌∷◌, ◌++◌}
use Prim.Native.Nat.{ℕ, ◌≤◌}
use native.Mathlib.Nat.{zero-add}
use native.Mathlib.Omega.{arith}
use lib.ListN.{length}
use Rattle.lent.specs.Memory.{written}
use Rattle.lent.proofs.Behind.{behind_all, begins}
use Rattle.links_wiring.specs.declared.Module.{Module}
use Rattle.links_wiring.specs.declared.Module.TheVariants.{Screen, Keyboard, Modem, Socket}
use Rattle.line_receiver.specs.declared.Receiver.{Receiver}
use Rattle.line_receiver.specs.Calls.{stepped}
use Rattle.line_receiver.specs.Runs.{Event as Heard, byte, run as receiver_run, sent_by, sent, all_asked}
use Rattle.links.specs.declared.Links.{Links}
use Rattle.links.specs.Runs.{Call, run as links_run}
use Rattle.board_feeding.specs.Feeding.{from_line, got}
use Rattle.screen_page.specs.declared.Screen.{Screen as Page}
use Rattle.screen.specs.Calls.{ran}
use Rattle.board.specs.declared.Board.{Board}
use Rattle.board.specs.Boards.{in_range, front_of}
use Rattle.board.specs.Runs.{run, heard_in, calls_in, Outside, InBoard}
use Rattle.board.proofs.Parts.{apart}
use Rattle.std.specs.Prelude.{Ok}
use Rattle.board_pieces.specs.declared.Refusal.TheVariants.{NoRoom, Broken}
use Rattle.board_front.specs.declared.Room.{Room}
use Rattle.board_front.specs.LineBytes.{bytes, calls, to_each, asks}
use Rattle.board_front.specs.Fitting.{room_in, within, needed}
use Rattle.board_front.proofs.Rooms.{Fits, tested}
use Rattle.board_playing.specs.declared.Played.{Played}
use Rattle.board_playing.specs.Playing.{heard_whole, reached, played}
use Rattle.board_pieces.specs.Pieces.{singly, handed, asked, yields, passage, refused, lines_of, is_taken, left_in}

heard_singly : (xs : List ℕ) → heard_in (singly xs) ≡ bytes xs
heard_singly [] = refl
heard_singly (x ∷ xs) = ap (λ (hs : List Heard). byte x ∷ hs) (heard_singly xs)

calls_singly : (r : Receiver) (xs : List ℕ) → calls_in r (singly xs) ≡ calls r xs
unfolding calls
calls_singly r [] = refl
calls_singly r (x ∷ xs) =
    ap (λ (cs : List Call). from_line (sent_by (stepped r x)).passed ++ cs) (calls_singly (stepped r x).next xs)

module _ (b : Board) (i : InBoard b) (xs : List ℕ) where
  cs : calls_in b.receiver (singly xs) ≡ calls b.receiver xs
  cs = calls_singly b.receiver xs

  pub handed_is : (m : Module) → Outside m → handed m b xs ≡ to_each m (front_of b) xs
  handed_is m u = (apart (singly xs) b i).handed m u ∙ ap (got m b.links) cs

  pub asked_is : asked b xs ≡ asks (front_of b) xs
  asked_is =
      (apart (singly xs) b i).asked ∙ ap (λ (hs : List Heard). all_asked (sent b.receiver hs)) (heard_singly xs)

  yields_is : yields b xs ≡ needed (front_of b) xs
  yields_is = simp (handed_is Keyboard tt, handed_is Modem tt, handed_is Socket tt, asked_is)

  pub receiver_is : (run b (singly xs)).receiver ≡ receiver_run b.receiver (bytes xs)
  receiver_is = (apart (singly xs) b i).receiver ∙ ap (receiver_run b.receiver) (heard_singly xs)

  run_is : run b (singly xs) ≡ heard_whole b xs
  run_is =
      let a = apart (singly xs) b i in
      let r = receiver_is in
      let l = a.links ∙ ap (links_run b.links) cs in
      let s = a.screen ∙ ap (λ (ds : List Call). (ran b.screen (got Screen b.links ds)).screen) cs in
      ap₂ (λ (x : Receiver) (y : Links). record { receiver = x; links = y; screen = (run b (singly xs)).screen }) r l
      ∙ ap (λ (t : Page). record { receiver = (heard_whole b xs).receiver; links = (heard_whole b xs).links; screen = t }) s

  -- ---- what the call answers

  module _ (r : Room) where
    tested_is : within (yields b xs) r ≡ within (needed (front_of b) xs) r
    tested_is = ap (λ (n : Room). within n r) yields_is

    pub taken_is : in_range b ≡ true → within (needed (front_of b) xs) r ≡ true
        → passage (heard_whole b xs) (Ok tt) (needed (front_of b) xs) ≡ lines_of b xs r
    unfolding lines_of
    taken_is e w =
        ap₂ (λ (c : Board) (n : Room). passage c (Ok tt) n) (sym run_is) (sym yields_is)
        ∙ sym (ap₂ (λ (t u : Bool). cond t
        (cond u (passage (run b (singly xs)) (Ok tt) (yields b xs)) (refused b NoRoom)) (refused b Broken))
        e (tested_is ∙ w))

    pub short_is : in_range b ≡ true → within (needed (front_of b) xs) r ≡ false → refused b NoRoom ≡ lines_of b xs r
    unfolding lines_of
    short_is e w =
        sym (ap₂ (λ (t u : Bool). cond t
        (cond u (passage (run b (singly xs)) (Ok tt) (yields b xs)) (refused b NoRoom)) (refused b Broken))
        e (tested_is ∙ w))

    pub is_taken_lem : (t : Bool) → in_range b ≡ true → within (needed (front_of b) xs) r ≡ t → is_taken b xs r ≡ t
    unfolding is_taken
    is_taken_lem t e w = ap₂ (λ (u v : Bool). u && v) e (tested_is ∙ w)

-- a broken board takes nothing, whatever the room
pub broken_is : (b : Board) (xs : List ℕ) (r : Room) → in_range b ≡ false
    → (refused b Broken ≡ lines_of b xs r) × (is_taken b xs r ≡ false)
unfolding lines_of is_taken
broken_is b xs r e = (
  sym (ap (λ (t : Bool). cond t
      (cond (within (yields b xs) r) (passage (run b (singly xs)) (Ok tt) (yields b xs)) (refused b NoRoom))
      (refused b Broken)) e),
  ap (λ (t : Bool). t && within (yields b xs) r) e,
)

-- ---- where there is room, each output begins with all that it is handed

module _ (b : Board) (xs k m s q : List ℕ) (w : within (needed (front_of b) xs) (room_in k m s q) ≡ true) where
  abbrev room : Fits (needed (front_of b) xs) (room_in k m s q)
  room = tested (needed (front_of b) xs) (room_in k m s q) w

  all_reached : reached (front_of b) xs k m s q ≡ needed (front_of b) xs
  all_reached =
      let f = front_of b in
      simp (
        behind_all k 0 (to_each Keyboard f xs) (omega (arith, room.keyboard)),
        behind_all m 0 (to_each Modem f xs) (omega (arith, room.modem)),
        behind_all s 0 (to_each Socket f xs) (omega (arith, room.socket)),
        behind_all q 0 (asks f xs) (omega (arith, room.requests)),
        zero-add,
      )

  pub all_handed : {p : Played} → p ≡ played b xs k m s q
      → passage p.next (Ok tt) p.used ≡ passage (heard_whole b xs) (Ok tt) (needed (front_of b) xs)
  unfolding played
  all_handed e =
      ap (λ (n : Played). passage n.next (Ok tt) n.used) e
      ∙ ap (passage (heard_whole b xs) (Ok tt)) all_reached

  pub all_written : InBoard b
      → (written k 0 (to_each Keyboard (front_of b) xs) ≡ left_in true (handed Keyboard b xs) k)
      × (written m 0 (to_each Modem (front_of b) xs) ≡ left_in true (handed Modem b xs) m)
      × (written s 0 (to_each Socket (front_of b) xs) ≡ left_in true (handed Socket b xs) s)
      × (written q 0 (asks (front_of b) xs) ≡ left_in true (asked b xs) q)
  all_written i =
      let out : (us vs out : List ℕ) → us ≡ vs → length vs ≤ length out → written out 0 vs ≡ left_in true us out =
      λ us vs out e h. begins out vs h ∙ ap (λ (ws : List ℕ). left_in true ws out) (sym e) in (
        out _ _ k (handed_is b i xs Keyboard tt) room.keyboard,
        out _ _ m (handed_is b i xs Modem tt) room.modem,
        out _ _ s (handed_is b i xs Socket tt) room.socket,
        out _ _ q (asked_is b i xs) room.requests,
      )
