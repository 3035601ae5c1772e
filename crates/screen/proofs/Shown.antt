-- The cells of characters: one at the cursor, and the places that REP writes. Assumes nothing.
use mathlib.Core.Path.{◌≡◌, refl, sym, ap, ◌∙◌, subst, subst⁻¹}
use mathlib.Core.Bool.{Bool, true, false}
use mathlib.Core.Logic.{◌⊎◌, inl, inr, ⊎_elim}
use Prim.Native.Nat.{ℕ, zero, suc, ◌-◌, ◌≤◌}
use native.Mathlib.Omega.{arith}
use lib.Dec.{eqb}
use lib.ListN.{length, length-set, set, get_or}
use lib.Seq.{get_or-set_same, get_or-set_other}
use borrow.Author.Tests.{eqb-true, eqb-false}
use Rattle.std.specs.Prelude.{Some}
use Rattle.screen_cursor.specs.declared.Place.{Place}
use Rattle.screen_cursor.specs.Places.{On, index_of}
use Rattle.screen_cursor.proofs.Tested.{index_low}
use Rattle.screen_motion.specs.Moves.{right_of}
use Rattle.screen_sequences.specs.declared.Sequence.TheVariants.{Repeat}
use Rattle.screen_cells.specs.declared.Character.{Character}
use Rattle.screen_cells.specs.declared.Cell.{Cell}
use Rattle.screen_cells.specs.Cells.{blank_of}
use Rattle.screen_attributes.specs.declared.Attributes.{Attributes}
use Rattle.screen_writing.specs.Writing.{after_writing}
use Rattle.screen_writing.specs.Having.{Has, AlikeButZone}
use Rattle.screen_writing.proofs.Having.{written_has, written_alike}
use Rattle.screen_writing.proofs.Twice.{written_twice}
use Rattle.screen_pen.specs.Strokes.{stroke}
use Rattle.screen_page.specs.declared.Screen.{Screen}
use Rattle.screen_page.specs.Pages.{cell_at}
use Rattle.screen_page.specs.Ranges.{InScreen}
use Rattle.screen.specs.Screens.{written, written_times, advanced}
use Rattle.screen.specs.Claims.{onwards, Among, here, later, ended}
use Rattle.screen.proofs.Repeated.{again_step}
use Rattle.screen.proofs.Touched.{moved, moved_right, moved_on, times_place}

-- ---- one character

-- what is stored at the cursor
stored : (s : Screen) (c : Character) (x : Place) → On s.pen.here.place → length s.cells ≡ 1000
    → index_of x ≡ index_of s.pen.here.place → cell_at (written s c) x ≡ (stroke s.pen c).cell
unfolding written
stored s c x h l e =
    ap (λ (i : ℕ). get_or (set s.cells (index_of s.pen.here.place) (stroke s.pen c).cell) i blank_of) e
    ∙ get_or-set_same s.cells (index_of s.pen.here.place) (stroke s.pen c).cell blank_of
    (omega (arith, l, index_low h))

-- it is that character, with the ink, flash and inverse in force, and the ground in force with it
pub character_there : (s : Screen) (c : Character) → InScreen s
    → Has (cell_at (written s c) s.pen.here.place) c s.pen.here.attributes (written s c).pen.here.attributes.zone.ground
unfolding written
character_there s c h =
    subst⁻¹ (λ (k : Cell). Has k c s.pen.here.attributes (written s c).pen.here.attributes.zone.ground)
    (stored s c s.pen.here.place h.pen.here.place h.thousand refl)
    (written_has s.pen.here.attributes c)

-- and it moves the cursor right, is the last character, and leaves all but the grounds
pub character_leaves : (s : Screen) (c : Character)
    → ((written s c).pen.here.place ≡ right_of s.pen.here.place) × ((written s c).pen.last ≡ Some c)
    × AlikeButZone s.pen.here.attributes (written s c).pen.here.attributes
unfolding written
character_leaves s c = (refl, refl, written_alike s.pen.here.attributes c)

-- ---- the same one again and again

-- of one place more, the last or one of the others
among_split : (n : ℕ) (x : Place) {y : Place} → Among y (onwards (suc n) x)
    → Among y (onwards n x) ⊎ (y ≡ moved n x)
among_split zero x here = inr refl
among_split zero x {y = y} (later m) = elim m [ ]
among_split (suc n) x here = inl here
among_split (suc n) x {y} (later m) =
    ⊎_elim (λ (i : Among y (onwards n (right_of x))). inl (later i)) (λ e. inr (e ∙ moved_right n x))
    (among_split n (right_of x) m)

module _ (s : Screen) (c : Character) (h : On s.pen.here.place) (l : length s.cells ≡ 1000) where
  abbrev after : ℕ → Screen
  after n = written_times s c n

  long : (n : ℕ) → length (after n).cells ≡ 1000
  unfolding written_times written
  long zero = l
  long (suc n) = length-set (after n).cells (index_of (after n).pen.here.place) _ ∙ long n

  on : (n : ℕ) → On (after n).pen.here.place
  on n = subst⁻¹ On (times_place s c n) (moved_on n h)

  -- ink, flash and inverse stay
  alike : (n : ℕ) → AlikeButZone s.pen.here.attributes (after n).pen.here.attributes
  unfolding written_times written
  alike zero = record { set = refl; ink = refl; flash = refl; inverse = refl }
  alike (suc n) =
      let k = alike n in
      let w = written_alike (after n).pen.here.attributes c in
      record {
        set = w.set ∙ k.set;
        ink = w.ink ∙ k.ink;
        flash = w.flash ∙ k.flash;
        inverse = w.inverse ∙ k.inverse;
      }

  -- and from the first one on the ground does
  same : (n : ℕ) → (after (suc n)).pen.here.attributes ≡ after_writing s.pen.here.attributes c
  unfolding written_times written
  same zero = refl
  same (suc n) =
      ap (λ (b : Attributes). after_writing b c) (same n) ∙ written_twice s.pen.here.attributes c

  -- the cell of one of them
  abbrev Fits : ℕ → Cell → Type 0
  Fits n k = Has k c s.pen.here.attributes (after n).pen.here.attributes.zone.ground

  newest : (n : ℕ) → Fits (suc n) (stroke (after n).pen c).cell
  unfolding written_times written
  newest n =
      let w = written_has (after n).pen.here.attributes c in
      let k = alike n in
      record {
        character = w.character;
        ink = w.ink ∙ k.ink;
        ground = w.ground;
        flash = w.flash ∙ k.flash;
        inverse = w.inverse ∙ k.inverse;
      }

  at_cursor : (n : ℕ) (x : Place) → index_of x ≡ index_of (after n).pen.here.place → Fits (suc n) (cell_at (after (suc n)) x)
  unfolding written_times
  at_cursor n x e = subst⁻¹ (Fits (suc n)) (stored (after n) c x (on n) (long n) e) (newest n)

  -- one written before stays, or is written over with the same
  earlier : (n : ℕ) (x : Place) (t : Bool) → eqb (index_of x) (index_of (after (suc n)).pen.here.place) ≡ t
      → Fits (suc n) (cell_at (after (suc n)) x) → Fits (suc (suc n)) (cell_at (after (suc (suc n))) x)
  unfolding written_times written
  earlier n x true e f = at_cursor (suc n) x (eqb-true _ _ e)
  earlier n x false e f =
      subst⁻¹ (Fits (suc (suc n)))
      (get_or-set_other (after (suc n)).cells (index_of (after (suc n)).pen.here.place) (index_of x) _ blank_of
      (eqb-false _ _ e))
      (subst (λ (b : Attributes). Has (cell_at (after (suc n)) x) c s.pen.here.attributes b.zone.ground)
      (same n ∙ sym (same (suc n))) f)

  kept : (n : ℕ) (x : Place) → Among x (onwards n s.pen.here.place) → Fits n (cell_at (after n) x)
      → Fits (suc n) (cell_at (after (suc n)) x)
  kept zero x i f = elim i [ ]
  kept (suc n) x i f = earlier n x _ refl f

  pub times_there : (n : ℕ) (x : Place) → Among x (onwards n s.pen.here.place) → Fits n (cell_at (after n) x)
  times_there zero x m = elim m [ ]
  times_there (suc n) x m =
      ⊎_elim (λ (i : Among x (onwards n s.pen.here.place)). kept n x i (times_there n x i))
      (λ e. at_cursor n x (ap index_of (e ∙ sym (times_place s c n)))) (among_split n s.pen.here.place m)

-- each of the n minus 64 places that REP n writes holds the last character
pub again_there : (s : Screen) (c : Character) (n : ℕ) (x : Place) → InScreen s → s.pen.sequence ≡ Repeat
    → s.pen.last ≡ Some c → 64 ≤ n → Among x (onwards (n - 64) s.pen.here.place)
    → Has (cell_at (advanced s n) x) c s.pen.here.attributes (advanced s n).pen.here.attributes.zone.ground
again_there s c n x h q e k m =
    subst⁻¹ (λ (t : Screen). Has (cell_at t x) c s.pen.here.attributes t.pen.here.attributes.zone.ground)
    (again_step s c n q e k)
    (times_there (ended s) c h.pen.here.place h.thousand (n - 64) x m)
