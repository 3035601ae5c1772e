-- A piece of line bytes with a note on each of them. Assumes nothing.
use Rattle.std.specs.Prelude.{Bool, false, cond, not, ◌&&◌, List, [], ℕ, leb, length}
use Rattle.numbers.specs.Numbers.{Conditions, number_of, Told}
use Rattle.line_turns.specs.Notes.{notes_of}
use Rattle.board_front.specs.declared.Room.{Room}
use Rattle.board_front.specs.Fitting.{within}
use Rattle.board.specs.declared.Board.{Board}
use Rattle.board.specs.Boards.{in_range}
use Rattle.board_pieces.specs.declared.Refusal.TheVariants.{NoRoom, Broken}
use Rattle.board_pieces.specs.declared.Passage.{Passage}
use Rattle.board_pieces.specs.Pieces.{yields, refused, lines_of, is_taken}

-- the notes: what each byte was to the board's receiver
abbrev pub noted : Board → List ℕ → List ℕ
noted b xs = notes_of b.receiver xs

-- as without notes where there are places for them, n; else an output is too short; 5 before 4
unfoldable pub noted_of : Board → List ℕ → Room → ℕ → Passage
noted_of b xs r n =
    cond (leb (length xs) n) (lines_of b xs r) (cond (in_range b) (refused b NoRoom) (refused b Broken))

-- "a state handed in lies outside the ranges"; an output is too short, that of the notes too
abbrev pub noted_conditions : Board → List ℕ → Room → ℕ → Conditions
noted_conditions b xs r n =
    record {
      wrong_length = false;
      broken_state = not (in_range b);
      too_large = false;
      no_room = not (leb (length xs) n && within (yields b xs) r);
      repeat = false;
    }

abbrev pub noted_told : Board → List ℕ → Room → ℕ → Told
noted_told b xs r n = record { number = number_of (noted_conditions b xs r n); named = [] }

-- whether the piece is taken
unfoldable pub is_noted : Board → List ℕ → Room → ℕ → Bool
is_noted b xs r n = leb (length xs) n && is_taken b xs r
