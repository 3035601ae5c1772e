-- What reading gives: the number in every case, the cell, and the cells of a fresh screen. Assumes nothing.
use mathlib.Core.Path.{◌≡◌, refl}
use mathlib.Core.Bool.{Bool, true, false, cond}
use mathlib.Core.List.{[], ◌∷◌}
use Prim.Native.Nat.{ℕ}
use lib.ListN.{get_or-replicate}
use Rattle.screen_cursor.specs.declared.Place.{Place}
use Rattle.screen_cursor.specs.Places.{at, On, on_screen, index_of}
use Rattle.screen_cursor.proofs.Tested.{on_true, true_on, index_low}
use Rattle.screen_cells.specs.Cells.{blank_of}
use Rattle.screen_page.specs.declared.Screen.{Screen}
use Rattle.std.specs.Prelude.{Ok, Err, Option, Some, None}
use Rattle.screen_cells.specs.declared.Cell.{Cell}
use Rattle.screen_page.specs.declared.Cursor.{Cursor}
use Rattle.screen_page.specs.declared.Cursor.TheVariants.{Hidden, Shown}
use Rattle.screen_page.specs.Pages.{fresh_screen, cell_at}
use Rattle.screen_page.specs.Ranges.{broken}
use Rattle.screen_page.specs.Reading.{read, torn, pointed, read_number, cursor_number}

-- ---- numbers: 5 for a broken screen, and else 0

pub read_number_lem : (s : Screen) (r c : ℕ) → read_number (read s r c) ≡ cond (broken s) (5 ∷ []) (0 ∷ [])
unfolding read
read_number_lem s r c = go (broken s) (cond (on_screen (at r c)) (Some (cell_at s (at r c))) None)
  where
    go : (t : Bool) (u : Option Cell) → read_number (cond t (Err torn) (Ok u)) ≡ cond t (5 ∷ []) (0 ∷ [])
    go true u = refl
    go false u = refl

pub cursor_number_lem : (s : Screen) → cursor_number (pointed s) ≡ cond (broken s) (5 ∷ []) (0 ∷ [])
unfolding pointed
cursor_number_lem s = go (broken s) (cond s.pen.shown (Shown s.pen.here.place) (Hidden s.pen.here.place))
  where
    go : (t : Bool) (u : Cursor) → cursor_number (cond t (Err torn) (Ok u)) ≡ cond t (5 ∷ []) (0 ∷ [])
    go true u = refl
    go false u = refl

-- ---- what is read

-- the cell at a place of the screen
pub reads_cell : (s : Screen) (r c : ℕ) → broken s ≡ false → On (at r c) → read s r c ≡ Ok (Some (cell_at s (at r c)))
unfolding read
reads_cell s r c e h = simp (e, on_true (at r c) h)

pub reads_off : (s : Screen) (r c : ℕ) → broken s ≡ false → (On (at r c) → ⊥) → read s r c ≡ Ok None
unfolding read
reads_off s r c e f = simp (e, not_on (on_screen (at r c)) refl)
  where
    not_on : (t : Bool) → on_screen (at r c) ≡ t → on_screen (at r c) ≡ false
    not_on true g = absurd (f (true_on (at r c) g))
    not_on false g = g

-- the cursor's place, and whether it is shown
pub points : (s : Screen) → broken s ≡ false
    → pointed s ≡ Ok (cond s.pen.shown (Shown s.pen.here.place) (Hidden s.pen.here.place))
unfolding pointed
points s e = simp e

-- ---- a fresh screen

-- every cell of it is blank
pub fresh_blank : (x : Place) → On x → cell_at fresh_screen x ≡ blank_of
unfolding fresh_screen
fresh_blank x h = get_or-replicate 1000 (index_of x) blank_of blank_of (index_low h)
