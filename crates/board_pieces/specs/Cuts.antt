-- A piece cut in two, and both parts handed in one after the other. Assumes nothing.
use Rattle.std.specs.Prelude.{◌≡◌, Ok, Bool, true, List, ◌++◌, ℕ, ◌+◌, take, drop}
use Rattle.links_wiring.specs.declared.Module.{Module}
use Rattle.board_front.specs.declared.Room.{Room}
use Rattle.board_front.specs.Fitting.{less}
use Rattle.board.specs.declared.Board.{Board}
use Rattle.board.specs.Runs.{Outside}
use Rattle.board_pieces.specs.declared.Passage.{Passage}
use Rattle.board_pieces.specs.Pieces.{handed, asked, lines_of, is_taken, left_in}
use Rattle.board_pieces.specs.Claims.{wrote}

-- the room behind what a call wrote
abbrev pub behind_it : Passage → Room → Room
behind_it p r = less r p.used

-- the second call: on the board that the first hands back, with the room behind what that wrote
abbrev pub second_of : Board → List ℕ → List ℕ → Room → Passage
second_of b xs ys r = let p = lines_of b xs r in lines_of p.next ys (behind_it p r)

abbrev pub second_taken : Board → List ℕ → List ℕ → Room → Bool
second_taken b xs ys r = let p = lines_of b xs r in is_taken p.next ys (behind_it p r)

-- an output of which a call is lent what stands behind its first n bytes
abbrev pub behind_first : ℕ → (List ℕ → List ℕ) → List ℕ → List ℕ
behind_first n call out = take n out ++ call (drop n out)

-- two calls come to what one comes to: both are taken, the board is the same, what they wrote adds up, and each output
-- is the same, the second call being lent what stands behind what the first wrote there
pub record InTwo (b : Board) (xs ys : List ℕ) (r : Room) : Type 0 where
  pub first : is_taken b xs r ≡ true
  pub second : second_taken b xs ys r ≡ true
  pub next : (lines_of b (xs ++ ys) r).next ≡ (second_of b xs ys r).next
  pub answer : (lines_of b (xs ++ ys) r).answer ≡ Ok tt
  pub first_answer : (lines_of b xs r).answer ≡ Ok tt
  pub second_answer : (second_of b xs ys r).answer ≡ Ok tt
  pub counts :
      (m : Module) → Outside m
      → wrote m (lines_of b (xs ++ ys) r) ≡ wrote m (lines_of b xs r) + wrote m (second_of b xs ys r)
  pub requests : (lines_of b (xs ++ ys) r).used.requests ≡ (lines_of b xs r).used.requests + (second_of b xs ys r).used.requests
  pub handed_out :
      (m : Module) → Outside m → (out : List ℕ)
      → left_in (is_taken b (xs ++ ys) r) (handed m b (xs ++ ys)) out
      ≡ behind_first (wrote m (lines_of b xs r))
      (left_in (second_taken b xs ys r) (handed m (lines_of b xs r).next ys)) (left_in (is_taken b xs r) (handed m b xs) out)
  pub asked_for :
      (out : List ℕ)
      → left_in (is_taken b (xs ++ ys) r) (asked b (xs ++ ys)) out
      ≡ behind_first (lines_of b xs r).used.requests
      (left_in (second_taken b xs ys r) (asked (lines_of b xs r).next ys)) (left_in (is_taken b xs r) (asked b xs) out)
