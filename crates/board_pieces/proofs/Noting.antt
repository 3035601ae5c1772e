-- A piece with notes comes to what it comes to without them, where there are places for them. Assumes nothing.
use mathlib.Core.Path.{◌≡◌, refl, sym, ap, ap₂, ◌∙◌}
use mathlib.Core.Bool.{Bool, true, false, cond, not, ◌&&◌}
use mathlib.Core.List.{List, [], ◌++◌}
use Prim.Native.Nat.{ℕ, ◌≤◌, ◌<◌}
use native.Mathlib.Omega.{arith}
use lib.Dec.{leb}
use lib.ListN.{length}
use borrow.Author.Tests.{leb-true, le-leb, lt-leb}
use Rattle.lent.specs.Memory.{written}
use Rattle.lent.proofs.Behind.{begins}
use Rattle.numbers.specs.Numbers.{number_of, Told}
use Rattle.line_receiver.specs.declared.Receiver.{Receiver}
use Rattle.line_turns.specs.Notes.{notes_of}
use Rattle.line_turns.proofs.Held.{notes_append}
use Rattle.line_turns.proofs.Steps.{notes_many}
use Rattle.board_front.specs.declared.Room.{Room}
use Rattle.board_front.specs.Fitting.{within}
use Rattle.board.specs.declared.Board.{Board}
use Rattle.board.specs.Boards.{in_range}
use Rattle.board.specs.Runs.{run, InBoard}
use Rattle.board_pieces.specs.declared.Refusal.TheVariants.{NoRoom, Broken}
use Rattle.board_pieces.specs.declared.Passage.{Passage}
use Rattle.board_pieces.specs.Pieces.{told, singly, yields, refused, lines_of, is_taken, left_in}
use Rattle.board_pieces.specs.Noted.{noted, noted_of, noted_told, is_noted}
use Rattle.board_pieces.proofs.Numbered.{numbers}
use Rattle.board_pieces.proofs.Single.{receiver_is}

-- the number of a broken state, or of no room
abbrev told_if : Bool → Bool → Told
told_if broken short =
    record {
      number =
          number_of
          (record { wrong_length = false; broken_state = broken; too_large = false; no_room = short; repeat = false });
      named = [];
    }

module _ (b : Board) (xs : List ℕ) (r : Room) (n : ℕ) where
  abbrev by : Bool → Bool → Passage
  by places range = cond places (lines_of b xs r) (cond range (refused b NoRoom) (refused b Broken))

  -- there are places
  pub places : length xs ≤ n → (lines_of b xs r ≡ noted_of b xs r n) × (is_taken b xs r ≡ is_noted b xs r n)
  unfolding noted_of is_noted
  places h =
      let e = sym (le-leb (length xs) n h) in
      (ap (λ (t : Bool). by t (in_range b)) e, ap (λ (t : Bool). t && is_taken b xs r) e)

  -- there are too few
  module _ (h : n < length xs) where
    pub not_taken : is_noted b xs r n ≡ false
    unfolding is_noted
    not_taken = ap (λ (t : Bool). t && is_taken b xs r) (lt-leb (length xs) n h)

    pub too_few : (t : Bool) → in_range b ≡ t → cond t (refused b NoRoom) (refused b Broken) ≡ noted_of b xs r n
    unfolding noted_of
    too_few t e = sym (ap₂ by (lt-leb (length xs) n h) e)

  told_by : (t i : Bool) → leb (length xs) n ≡ t → in_range b ≡ i → told (noted_of b xs r n).answer ≡ noted_told b xs r n
  unfolding noted_of
  told_by true i e f =
      ap (λ (u : Bool). told (by u (in_range b)).answer) e ∙ numbers b xs r
      ∙ sym (ap (λ (u : Bool). told_if (not (in_range b)) (not (u && within (yields b xs) r))) e)
  told_by false true e f =
      ap₂ (λ (u v : Bool). told (by u v).answer) e f
      ∙ sym (ap₂ (λ (u v : Bool). told_if (not v) (not (u && within (yields b xs) r))) e f)
  told_by false false e f =
      ap₂ (λ (u v : Bool). told (by u v).answer) e f
      ∙ sym (ap₂ (λ (u v : Bool). told_if (not v) (not (u && within (yields b xs) r))) e f)

  pub noted_numbers : told (noted_of b xs r n).answer ≡ noted_told b xs r n
  noted_numbers = told_by (leb (length xs) n) (in_range b) refl refl

-- where there is a place for each note, all are written
pub all_noted : (r : Receiver) (xs out : List ℕ)
    → cond (leb (length xs) (length out)) (written out 0 (notes_of r xs)) out
    ≡ left_in (leb (length xs) (length out)) (notes_of r xs) out
all_noted r xs out = go (leb (length xs) (length out)) refl
  where
    go : (t : Bool) → leb (length xs) (length out) ≡ t
        → cond t (written out 0 (notes_of r xs)) out ≡ left_in t (notes_of r xs) out
    go true e = begins out (notes_of r xs) (omega (arith, notes_many r xs, leb-true (length xs) (length out) e))
    go false e = refl

-- the notes on the parts of a piece are those on the whole
pub notes_cut : (b : Board) → InBoard b → (xs ys : List ℕ)
    → noted b (xs ++ ys) ≡ noted b xs ++ noted (run b (singly xs)) ys
notes_cut b i xs ys =
    notes_append xs ys b.receiver
    ∙ ap (λ (q : Receiver). noted b xs ++ notes_of q ys) (sym (receiver_is b i xs))
