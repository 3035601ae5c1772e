-- What the claims on the screen speak of (01, "Screen cells"). Assumes nothing.
use Rattle.std.specs.Prelude.{◌≡◌, List, [], ◌∷◌, ◌++◌, ℕ, zero, suc, replicate}
use Rattle.screen_cursor.specs.declared.Place.{Place}
use Rattle.screen_motion.specs.Moves.{right_of}
use Rattle.screen_sequences.specs.declared.Sequence.TheVariants.{Free}
use Rattle.screen_attributes.specs.Attributing.{start_of}
use Rattle.screen_planning.specs.Changing.{with_sequence}
use Rattle.screen_page.specs.declared.Screen.{Screen}
use Rattle.screen_page.specs.Pages.{with_pen}
use Rattle.screen.specs.Screens.{advanced}
use Rattle.screen.specs.Calls.{stepped}

-- ---- places in writing order

-- the first n places from x on: each is right of the one before it
abbrev pub onwards : ℕ → Place → List Place
onwards zero x = []
onwards (suc n) x = x ∷ onwards n (right_of x)

pub data Among (x : Place) : List Place → Type 0 where
  here : {ys : List Place} → Among x (x ∷ ys)
  later : {y : Place} {ys : List Place} → Among x ys → Among x (y ∷ ys)

-- ---- sequences

-- the same screen, with nothing unfinished
abbrev pub ended : Screen → Screen
ended s = with_pen s (with_sequence s.pen Free)

-- US and the codes r and c, with i and j times NUL between
abbrev pub addressing : ℕ → ℕ → ℕ → ℕ → List ℕ
addressing i j r c = 31 ∷ replicate i 0 ++ (r ∷ replicate j 0 ++ (c ∷ []))

-- t has the cursor at place x, start attributes and nothing unfinished; the last character is that of s, and the cursor
-- is shown as there
pub record Starts (s t : Screen) (x : Place) : Type 0 where
  pub place : t.pen.here.place ≡ x
  pub attributes : t.pen.here.attributes ≡ start_of
  pub sequence : t.pen.sequence ≡ Free
  pub last : t.pen.last ≡ s.pen.last
  pub shown : t.pen.shown ≡ s.pen.shown

-- ---- row 0

-- US, 4/0 and the column's code c, with i and j times NUL between
abbrev pub entering_row0 : ℕ → ℕ → ℕ → List ℕ
entering_row0 i j c = addressing i j 64 c

-- after each of the values the cursor is in row 0
pub data StaysInRow0 : Screen → List ℕ → Type 0 where
  done : {s : Screen} → StaysInRow0 s []
  next : {s : Screen} {b : ℕ} {bs : List ℕ} → (advanced s b).pen.here.place.row ≡ 0 → StaysInRow0 (advanced s b) bs
      → StaysInRow0 s (b ∷ bs)

-- ---- single calls

-- the screen after calls of `step`, one for each value
abbrev pub singly : Screen → List ℕ → Screen
singly s [] = s
singly s (b ∷ bs) = singly (stepped s b).screen bs
