-- When a piece is taken, what it comes to then, and what it leaves else. Assumes nothing.
use mathlib.Core.Path.{◌≡◌, refl, sym, ap, ap₂, ◌∙◌}
use mathlib.Core.Bool.{Bool, true, false, cond, ◌&&◌}
use mathlib.Core.List.{List}
use Prim.Native.Nat.{ℕ}
use lib.ListN.{length, take, drop}
use lib.Seq.{take-append_seam, drop-append_seam}
use native.Mathlib.Omega.{arith}
use Rattle.line_receiver.proofs.Ranges.{count_in}
use Rattle.laws.proofs.Computed.{and_left, and_right, holds, is_true, fails}
use Rattle.links_wiring.specs.declared.Module.{Module}
use Rattle.links_wiring.specs.declared.Module.TheVariants.{Screen, Keyboard, Modem, Socket}
use Rattle.board_front.specs.declared.Room.{Room}
use Rattle.board_front.specs.Fitting.{within}
use Rattle.board_front.specs.Ample.{Ample}
use Rattle.board_front.proofs.Amply.{amply}
use Rattle.board_front.proofs.Rooms.{tested as fits-tested, passes}
use Rattle.board.specs.declared.Board.{Board}
use Rattle.board.specs.Boards.{in_range, front_of}
use Rattle.board.specs.Runs.{run, Outside, InBoard}
use Rattle.board.proofs.Ranges.{tested}
use Rattle.std.specs.Prelude.{Ok}
use Rattle.board_pieces.specs.declared.Refusal.TheVariants.{NoRoom, Broken}
use Rattle.board_pieces.specs.declared.Passage.{Passage}
use Rattle.board_passing.specs.declared.Outputs.{Outputs}
use Rattle.board_pieces.specs.Pieces.{LeftIn, singly, handed, asked, yields, passage, refused, lines_of, is_taken, left_in}
use Rattle.board_pieces.specs.Claims.{wrote, TakenWhole, NothingTaken, RoomFor}
use Rattle.board_pieces.proofs.Numbered.{kept}
use Rattle.board_pieces.proofs.Single.{is_taken_lem}

-- ---- a piece is taken exactly where the board is in range and each output has room

in_range_lem : (b : Board) (xs : List ℕ) (r : Room) → is_taken b xs r ≡ true → in_range b ≡ true
unfolding is_taken
in_range_lem b xs r e = is_true (in_range b) (and_left (in_range b) (within (yields b xs) r) (holds e))

enough : (b : Board) (xs : List ℕ) (r : Room) → is_taken b xs r ≡ true → within (yields b xs) r ≡ true
unfolding is_taken
enough b xs r e = let w = within (yields b xs) r in is_true w (and_right (in_range b) w (holds e))

pub has_room : (b : Board) (xs : List ℕ) (r : Room) → is_taken b xs r ≡ true → (in_range b ≡ true) × RoomFor b xs r
has_room b xs r e =
    let f = fits-tested (yields b xs) r (enough b xs r e) in (
      in_range_lem b xs r e,
      record { keyboard = f.keyboard; modem = f.modem; socket = f.socket; requests = f.requests },
    )

pub takes : (b : Board) (xs : List ℕ) (r : Room) → in_range b ≡ true → RoomFor b xs r → is_taken b xs r ≡ true
unfolding is_taken
takes b xs r i f =
    ap₂ (λ (s t : Bool). s && t) i
    (passes (yields b xs) r
    (record { keyboard = f.keyboard; modem = f.modem; socket = f.socket; requests = f.requests }))

-- whatever the bytes, where each output is long enough for any
pub surely_taken : (b : Board) → InBoard b → (xs : List ℕ) (r : Room) → Ample (length xs) r → is_taken b xs r ≡ true
surely_taken b i xs r a =
    let few = count_in b.receiver i.receiver.range in
    is_taken_lem b i xs r true (tested b i) (amply (front_of b) xs r (omega (arith, few)) a)

-- ---- what it comes to

pub when_taken : (b : Board) (xs : List ℕ) (r : Room) → is_taken b xs r ≡ true
    → lines_of b xs r ≡ passage (run b (singly xs)) (Ok tt) (yields b xs)
unfolding lines_of
when_taken b xs r e =
    ap₂ (λ (s t : Bool). cond s
    (cond t (passage (run b (singly xs)) (Ok tt) (yields b xs)) (refused b NoRoom)) (refused b Broken))
    (in_range_lem b xs r e) (enough b xs r e)

pub counted : (b : Board) (xs : List ℕ) (r : Room) → is_taken b xs r ≡ true → (m : Module) → Outside m
    → wrote m (lines_of b xs r) ≡ length (handed m b xs)
counted b xs r e Screen u = absurd u
counted b xs r e Keyboard u = ap (wrote Keyboard) (when_taken b xs r e)
counted b xs r e Modem u = ap (wrote Modem) (when_taken b xs r e)
counted b xs r e Socket u = ap (wrote Socket) (when_taken b xs r e)

pub taken_whole : (b : Board) (xs : List ℕ) (r : Room) → is_taken b xs r ≡ true → TakenWhole b xs r
taken_whole b xs r e =
    record {
      next = ap (λ (p : Passage). p.next) (when_taken b xs r e);
      counts = counted b xs r e;
      requests = ap (λ (p : Passage). p.used.requests) (when_taken b xs r e);
      begins =
          λ vs out. ap (λ (t : Bool). take (length vs) (left_in t vs out)) e
          ∙ take-append_seam vs (drop (length vs) out);
      beyond =
          λ vs out. ap (λ (t : Bool). drop (length vs) (left_in t vs out)) e
          ∙ drop-append_seam vs (drop (length vs) out);
    }

-- ---- what it leaves

pub same : {t : Bool} → t ≡ false → (vs out : List ℕ) → out ≡ left_in t vs out
same e vs out = sym (ap (λ (t : Bool). left_in t vs out) e)

-- the outputs
pub untouched : (b : Board) (xs : List ℕ) (o : Outputs) {t : Bool} → t ≡ false → LeftIn t b xs o o
untouched b xs o e =
    record {
      keyboard = same e (handed Keyboard b xs) o.keyboard.now;
      modem = same e (handed Modem b xs) o.modem.now;
      socket = same e (handed Socket b xs) o.socket.now;
      requests = same e (asked b xs) o.requests.now;
    }

-- a refusal writes nothing
none_written : (b c : Board) (n : Room) (i w : Bool) → i && w ≡ false → (count : Passage → ℕ)
    → count (refused b NoRoom) ≡ 0 → count (refused b Broken) ≡ 0
    → count (cond i (cond w (passage c (Ok tt) n) (refused b NoRoom)) (refused b Broken)) ≡ 0
none_written b c n true true f count p q = absurd (fails f tt)
none_written b c n true false f count p q = p
none_written b c n false w f count p q = q

pub nothing_taken : (b : Board) (xs : List ℕ) (r : Room) → is_taken b xs r ≡ false → NothingTaken b xs r
unfolding lines_of is_taken
nothing_taken b xs r e =
    let none : (count : Passage → ℕ) → count (refused b NoRoom) ≡ 0 → count (refused b Broken) ≡ 0
    → count (lines_of b xs r) ≡ 0 =
    none_written b (run b (singly xs)) (yields b xs) (in_range b) (within (yields b xs) r) e in
    record {
      next = kept b xs r e;
      counts = λ m. counts none m;
      requests = none (λ (p : Passage). p.used.requests) refl refl;
      outputs = λ vs out. ap (λ (t : Bool). left_in t vs out) e;
    }
  where
    counts : ((count : Passage → ℕ) → count (refused b NoRoom) ≡ 0 → count (refused b Broken) ≡ 0
        → count (lines_of b xs r) ≡ 0) → (m : Module) → wrote m (lines_of b xs r) ≡ 0
    counts none Screen = refl
    counts none Keyboard = none (wrote Keyboard) refl refl
    counts none Modem = none (wrote Modem) refl refl
    counts none Socket = none (wrote Socket) refl refl
