-- The number of a piece, what a refusal leaves, and a piece cut in two. Assumes nothing.
use mathlib.Core.Path.{◌≡◌, refl, sym, ap, ◌∙◌}
use mathlib.Core.Bool.{Bool, true, false, cond, not, ◌&&◌}
use mathlib.Core.List.{List, [], ◌∷◌, ◌++◌, append_assoc}
use Prim.Native.Nat.{ℕ}
use Rattle.laws.proofs.Computed.{fails}
use Rattle.numbers.specs.Numbers.{number_of}
use Rattle.links_wiring.specs.declared.Module.{Module}
use Rattle.board.specs.declared.Board.{Board}
use Rattle.board.specs.Boards.{in_range}
use Rattle.board.specs.Calls.{at_line}
use Rattle.board.specs.Runs.{run, out_to, request, handed_to, requests}
use Rattle.std.specs.Prelude.{Result, Ok, Err}
use Rattle.board_pieces.specs.declared.Refusal.{Refusal}
use Rattle.board_pieces.specs.declared.Refusal.TheVariants.{NoRoom, Broken}
use Rattle.board_front.specs.declared.Room.{Room}
use Rattle.board_front.specs.Fitting.{within}
use Rattle.board_pieces.specs.Pieces.{told, singly, handed, asked, yields, passage, refused, lines_of, is_taken}
use Rattle.board_pieces.specs.Pieces.{lines_told}

answer_by : Bool → Bool → Result (Unit {0}) Refusal
answer_by i w = cond i (cond w (Ok tt) (Err NoRoom)) (Err Broken)

by_tests : (b c : Board) (n : Room) (i w : Bool)
    → (cond i (cond w (passage c (Ok tt) n) (refused b NoRoom)) (refused b Broken)).answer ≡ answer_by i w
unfolding answer_by
by_tests b c n true true = refl
by_tests b c n true false = refl
by_tests b c n false true = refl
by_tests b c n false false = refl

told_by : (i w : Bool) → told (answer_by i w)
    ≡ record {
      number =
          number_of
          (record {
            wrong_length = false;
            broken_state = not i;
            too_large = false;
            no_room = not w;
            repeat = false;
          });
      named = [];
    }
unfolding answer_by
told_by true true = refl
told_by true false = refl
told_by false true = refl
told_by false false = refl

pub numbers : (b : Board) (xs : List ℕ) (r : Room) → told (lines_of b xs r).answer ≡ lines_told b xs r
unfolding lines_of
numbers b xs r =
    let w = within (yields b xs) r in
    ap told (by_tests b (run b (singly xs)) (yields b xs) (in_range b) w) ∙ told_by (in_range b) w

-- a piece that is not taken leaves the board as it was
pub kept : (b : Board) (xs : List ℕ) (r : Room) → is_taken b xs r ≡ false → (lines_of b xs r).next ≡ b
unfolding lines_of is_taken
kept b xs r e = go (in_range b) (within (yields b xs) r) e
  where
    go : (i w : Bool) → i && w ≡ false
        → (cond i (cond w (passage (run b (singly xs)) (Ok tt) (yields b xs)) (refused b NoRoom)) (refused b Broken)).next
        ≡ b
    go true true f = absurd (fails f tt)
    go true false f = refl
    go false true f = refl
    go false false f = refl

-- ---- a piece cut in two

pub cut_run : (b : Board) (xs ys : List ℕ) → run b (singly (xs ++ ys)) ≡ run (run b (singly xs)) (singly ys)
cut_run b [] ys = refl
cut_run b (x ∷ xs) ys = cut_run (at_line b x).next xs ys

pub cut_handed : (m : Module) (b : Board) (xs ys : List ℕ)
    → handed m b (xs ++ ys) ≡ handed m b xs ++ handed m (run b (singly xs)) ys
unfolding handed_to
cut_handed m b [] ys = refl
cut_handed m b (x ∷ xs) ys =
    let o = at_line b x in
    ap (λ (vs : List ℕ). out_to m o ++ vs) (cut_handed m o.next xs ys)
    ∙ sym (append_assoc (out_to m o) (handed m o.next xs) (handed m (run o.next (singly xs)) ys))

pub cut_asked : (b : Board) (xs ys : List ℕ) → asked b (xs ++ ys) ≡ asked b xs ++ asked (run b (singly xs)) ys
unfolding requests
cut_asked b [] ys = refl
cut_asked b (x ∷ xs) ys =
    let o = at_line b x in
    ap (λ (vs : List ℕ). request o ++ vs) (cut_asked o.next xs ys)
    ∙ sym (append_assoc (request o) (asked o.next xs) (asked (run o.next (singly xs)) ys))
