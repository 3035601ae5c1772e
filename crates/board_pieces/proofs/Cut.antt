-- A piece cut in two: what the two calls come to is what the one comes to. Assumes nothing.
use mathlib.Core.Path.{◌≡◌, sym, ap, ap₂, ◌∙◌}
use mathlib.Core.Bool.{Bool, true}
use mathlib.Core.List.{List, ◌++◌, append_assoc}
use Prim.Native.Nat.{ℕ, ◌+◌}
use native.Mathlib.Omega.{arith}
use lib.ListN.{length, drop, length-append}
use lib.Seq.{take-append_seam, drop-append_seam, drop-drop}
use Rattle.links_wiring.specs.declared.Module.{Module}
use Rattle.links_wiring.specs.declared.Module.TheVariants.{Screen, Keyboard, Modem, Socket}
use Rattle.board_front.specs.declared.Room.{Room}
use Rattle.board.specs.declared.Board.{Board}
use Rattle.board.specs.Runs.{run, Outside, InBoard}
use Rattle.board.proofs.Ranges.{tested}
use Rattle.board.proofs.Parts.{apart}
use Rattle.std.specs.Prelude.{Ok}
use Rattle.board_pieces.specs.declared.Passage.{Passage}
use Rattle.board_pieces.specs.Pieces.{singly, handed, asked, yields, passage, lines_of, is_taken, left_in}
use Rattle.board_pieces.specs.Claims.{wrote, RoomFor}
use Rattle.board_pieces.specs.Cuts.{behind_it, second_of, second_taken, behind_first, InTwo}
use Rattle.board_pieces.proofs.Numbered.{cut_run, cut_handed, cut_asked}
use Rattle.board_pieces.proofs.Taken.{has_room, takes, when_taken, counted}

-- ---- outputs, one written behind the other

behind_first_lem : (us vs out : List ℕ)
    → left_in true (us ++ vs) out ≡ behind_first (length us) (left_in true vs) (left_in true us out)
behind_first_lem us vs out =
    let rest = drop (length us) out in
    append_assoc us vs (drop (length (us ++ vs)) out)
    ∙ ap (λ (ws : List ℕ). us ++ (vs ++ ws))
    (ap (λ (n : ℕ). drop n out) (length-append us vs) ∙ sym (drop-drop (length vs) (length us) out))
    ∙ ap₂ (λ (x y : List ℕ). x ++ (vs ++ drop (length vs) y)) (sym (take-append_seam us rest))
    (sym (drop-append_seam us rest))

-- ---- both calls, where there is room for the whole

module _ (b : Board) (i : InBoard b) (xs ys : List ℕ) (r : Room) where
  abbrev c : Board
  c = run b (singly xs)

  i' : InBoard c
  i' = (apart (singly xs) b i).range

  -- what each module gets of the whole, and what the modem is asked
  long : (m : Module) → length (handed m b (xs ++ ys)) ≡ length (handed m b xs) + length (handed m c ys)
  long m = ap length (cut_handed m b xs ys) ∙ length-append (handed m b xs) (handed m c ys)

  long_asked : length (asked b (xs ++ ys)) ≡ length (asked b xs) + length (asked c ys)
  long_asked = ap length (cut_asked b xs ys) ∙ length-append (asked b xs) (asked c ys)

  -- the room behind what the first call wrote
  abbrev rest : Room
  rest = behind_it (passage c (Ok tt) (yields b xs)) r

  module _ (e : is_taken b (xs ++ ys) r ≡ true) where
    fits : RoomFor b (xs ++ ys) r
    fits = (has_room b (xs ++ ys) r e).1

    first_taken : is_taken b xs r ≡ true
    first_taken =
        takes b xs r (tested b i)
        (record {
          keyboard = omega (arith, fits.keyboard, long Keyboard);
          modem = omega (arith, fits.modem, long Modem);
          socket = omega (arith, fits.socket, long Socket);
          requests = omega (arith, fits.requests, long_asked);
        })

    then_taken : is_taken c ys rest ≡ true
    then_taken =
        takes c ys rest (tested c i')
        (record {
          keyboard = omega (arith, fits.keyboard, long Keyboard);
          modem = omega (arith, fits.modem, long Modem);
          socket = omega (arith, fits.socket, long Socket);
          requests = omega (arith, fits.requests, long_asked);
        })

    first_is : lines_of b xs r ≡ passage c (Ok tt) (yields b xs)
    first_is = when_taken b xs r first_taken

    second_is : second_of b xs ys r ≡ passage (run c (singly ys)) (Ok tt) (yields c ys)
    second_is =
        ap (λ (p : Passage). lines_of p.next ys (behind_it p r)) first_is ∙ when_taken c ys rest then_taken

    second_taken_lem : second_taken b xs ys r ≡ true
    second_taken_lem = ap (λ (p : Passage). is_taken p.next ys (behind_it p r)) first_is ∙ then_taken

    whole_is : lines_of b (xs ++ ys) r ≡ passage (run b (singly (xs ++ ys))) (Ok tt) (yields b (xs ++ ys))
    whole_is = when_taken b (xs ++ ys) r e

    -- a count of the whole, of the first and of the second call
    adds : (count : Passage → ℕ)
        → count (passage (run b (singly (xs ++ ys))) (Ok tt) (yields b (xs ++ ys)))
        ≡ count (passage c (Ok tt) (yields b xs)) + count (passage (run c (singly ys)) (Ok tt) (yields c ys))
        → count (lines_of b (xs ++ ys) r) ≡ count (lines_of b xs r) + count (second_of b xs ys r)
    adds count sum =
        ap count whole_is ∙ sum ∙ sym (ap₂ (λ (m n : ℕ). m + n) (ap count first_is) (ap count second_is))

    add_up : (m : Module) → Outside m
        → wrote m (lines_of b (xs ++ ys) r) ≡ wrote m (lines_of b xs r) + wrote m (second_of b xs ys r)
    add_up Screen u = absurd u
    add_up Keyboard u = adds (wrote Keyboard) (long Keyboard)
    add_up Modem u = adds (wrote Modem) (long Modem)
    add_up Socket u = adds (wrote Socket) (long Socket)

    -- an output: what the whole hands out there is what both calls do, and the first wrote so many
    written : (whole : List ℕ) (part : Board → List ℕ) (us out : List ℕ) (n : ℕ) → whole ≡ us ++ part c → n ≡ length us
        → left_in (is_taken b (xs ++ ys) r) whole out
        ≡ behind_first n (left_in (second_taken b xs ys r) (part (lines_of b xs r).next))
        (left_in (is_taken b xs r) us out)
    written whole part us out n h k =
        ap₂ (λ (t : Bool) (vs : List ℕ). left_in t vs out) e h ∙ behind_first_lem us (part c) out
        ∙ sym (ap₂ (λ (t u : Bool). behind_first n (left_in t (part (lines_of b xs r).next)) (left_in u us out))
        second_taken_lem first_taken
        ∙ ap₂ (λ (m : ℕ) (p : Passage). behind_first m (left_in true (part p.next)) (left_in true us out)) k first_is)

    handed_so : (m : Module) → Outside m → (out : List ℕ)
        → left_in (is_taken b (xs ++ ys) r) (handed m b (xs ++ ys)) out
        ≡ behind_first (wrote m (lines_of b xs r))
        (left_in (second_taken b xs ys r) (handed m (lines_of b xs r).next ys))
        (left_in (is_taken b xs r) (handed m b xs) out)
    handed_so m u out =
        written (handed m b (xs ++ ys)) (λ (d : Board). handed m d ys) (handed m b xs) out (wrote m (lines_of b xs r))
        (cut_handed m b xs ys) (counted b xs r first_taken m u)

    pub in_two : InTwo b xs ys r
    in_two =
        record {
          first = first_taken;
          second = second_taken_lem;
          next =
              ap (λ (p : Passage). p.next) whole_is ∙ cut_run b xs ys
              ∙ sym (ap (λ (p : Passage). p.next) second_is);
          answer = ap (λ (p : Passage). p.answer) whole_is;
          first_answer = ap (λ (p : Passage). p.answer) first_is;
          second_answer = ap (λ (p : Passage). p.answer) second_is;
          counts = add_up;
          requests = adds (λ (p : Passage). p.used.requests) long_asked;
          handed_out = handed_so;
          asked_for =
              λ out. written (asked b (xs ++ ys)) (λ (d : Board). asked d ys) (asked b xs) out (lines_of b xs r).used.requests
              (cut_asked b xs ys) (ap (λ (p : Passage). p.used.requests) first_is);
        }

  -- ---- and where both calls are taken, there is room for the whole

  pub in_one : is_taken b xs r ≡ true → second_taken b xs ys r ≡ true → is_taken b (xs ++ ys) r ≡ true
  in_one e f =
      let p = when_taken b xs r e in
      let n = (has_room b xs r e).1 in
      let m = (has_room c ys rest (sym (ap (λ (q : Passage). is_taken q.next ys (behind_it q r)) p) ∙ f)).1 in
      takes b (xs ++ ys) r (tested b i)
      (record {
        keyboard = omega (arith, n.keyboard, m.keyboard, long Keyboard);
        modem = omega (arith, n.modem, m.modem, long Modem);
        socket = omega (arith, n.socket, m.socket, long Socket);
        requests = omega (arith, n.requests, m.requests, long_asked);
      })
