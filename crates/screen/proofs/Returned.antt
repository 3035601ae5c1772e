-- Row 0: LF there brings back what stood just before the US that entered it. Assumes nothing.
use mathlib.Core.Path.{◌≡◌, refl, ap, ◌∙◌}
use mathlib.Core.List.{List}
use Prim.Native.Nat.{ℕ, zero, suc, ◌-◌, ◌≤◌}
use lib.Dec.{lit≤}
use Rattle.screen_cursor.specs.Places.{at}
use Rattle.screen_sequences.specs.declared.Sequence.TheVariants.{Free, Separator}
use Rattle.screen_cells.specs.declared.Character.{Character}
use Rattle.screen_pen.specs.declared.Pen.{Pen}
use Rattle.screen_pen.specs.declared.Spot.{Spot}
use Rattle.screen_pen.specs.Strokes.{after_times}
use Rattle.screen_planning.specs.declared.Asked.{Asked}
use Rattle.screen_planning.specs.declared.Asked.TheVariants.{Nothing, Blank, Put}
use Rattle.screen_planning.specs.Changing.{with_sequence}
use Rattle.screen_planning.specs.Obeying.{start_at}
use Rattle.screen_planning.specs.Planning.{ordered, planned, finished, pen_after}
use Rattle.screen_planning.specs.Grounds.{fate, outcome}
use Rattle.screen_planning.proofs.Fates.{value_fate}
use Rattle.screen_planning.proofs.Row0.{kept_stays, entered, entering_row, lf_back}
use Rattle.screen_page.specs.declared.Screen.{Screen}
use Rattle.screen_page.specs.Pages.{with_pen}
use Rattle.screen.specs.Screens.{written, written_times, applied, advanced, advanced_by}
use Rattle.screen.specs.Claims.{entering_row0, StaysInRow0, done, next}
use Rattle.screen.proofs.Repeated.{step_plan}
use Rattle.screen.proofs.Addressed.{us_screen}

-- ---- the pen after one value

times_pen : (s : Screen) (c : Character) (n : ℕ) → (written_times s c n).pen ≡ after_times s.pen c n
unfolding written_times written after_times
times_pen s c zero = refl
times_pen s c (suc n) = ap (λ (p : Pen). again p) (times_pen s c n)
  where
    again : Pen → Pen
    again p = after_times p c 1

applied_pen : (s : Screen) (p : Pen) (o : Asked) → (applied s p o).pen ≡ finished p o
unfolding applied
applied_pen s p Nothing = refl
applied_pen s p Blank = refl
applied_pen s p (Put c n) = times_pen (with_pen s p) c n

-- it is that of the pen alone: no cell matters
pub step_pen : (s : Screen) (b : ℕ) → (advanced s b).pen ≡ pen_after s.pen b
unfolding advanced
step_pen s b = applied_pen s (planned s.pen b).pen (planned s.pen b).asked

-- so what becomes of the grounds is what becomes of them in the pen
pub step_fate : (s : Screen) (b : ℕ)
    → (advanced s b).pen.here.attributes.zone ≡ outcome s.pen (fate s.pen (ordered s.pen b))
step_fate s b = ap (λ (p : Pen). p.here.attributes.zone) (step_pen s b) ∙ value_fate s.pen b

-- ---- US into row 0

-- the screen in row 0
pub entering : (s : Screen) (i j c : ℕ) → (s.pen.sequence ≡ Separator → ⊥) → 1 ≤ s.pen.here.place.row
    → 65 ≤ c → c ≤ 104 → advanced_by s (entering_row0 i j c) ≡ with_pen s (entered s.pen c)
entering s i j c e r h k =
    us_screen s i j 64 c e (record { lowest = lit≤ tt; highest = lit≤ tt; first = h; last = k })
    ∙ ap (λ (p : Pen). with_pen s (start_at p (at 0 (c - 64)))) (entering_row (with_sequence s.pen Free) r)

-- ---- while the cursor stays there

stays_kept : {s : Screen} {bs : List ℕ} → s.pen.here.place.row ≡ 0 → StaysInRow0 s bs
    → ((advanced_by s bs).pen.kept ≡ s.pen.kept) × ((advanced_by s bs).pen.here.place.row ≡ 0)
unfolding advanced_by
stays_kept e done = (refl, e)
stays_kept {s} e (next {b = b} f t) =
    let r = stays_kept f t in
    (r.0 ∙ ap (λ (p : Pen). p.kept) (step_pen s b) ∙ kept_stays s.pen b e, r.1)

-- ---- LF

-- a screen as US left it in row 0, after values that stay there
back : (s e : Screen) (c : ℕ) (bs : List ℕ) → e ≡ with_pen s (entered s.pen c) → StaysInRow0 e bs
    → ((advanced_by e bs).pen.sequence ≡ Separator → ⊥)
    → ((advanced (advanced_by e bs) 10).pen.here.place ≡ s.pen.here.place)
    × ((advanced (advanced_by e bs) 10).pen.here.attributes ≡ s.pen.here.attributes)
    × ((advanced (advanced_by e bs) 10).cells ≡ (advanced_by e bs).cells)
unfolding applied
back s e c bs f t q =
    let r = stays_kept (ap (λ (x : Screen). x.pen.here.place.row) f) t in
    let g = step_plan (advanced_by e bs) 10 _ (lf_back (advanced_by e bs).pen q r.1) in
    let k = r.0 ∙ ap (λ (x : Screen). x.pen.kept) f in (
      ap (λ (x : Screen). x.pen.here.place) g ∙ ap (λ (x : Spot). x.place) k,
      ap (λ (x : Screen). x.pen.here.attributes) g ∙ ap (λ (x : Spot). x.attributes) k,
      ap (λ (x : Screen). x.cells) g,
    )

pub returned : (s : Screen) (i j c : ℕ) (bs : List ℕ) → (s.pen.sequence ≡ Separator → ⊥) → 1 ≤ s.pen.here.place.row
    → 65 ≤ c → c ≤ 104
    → let e = advanced_by s (entering_row0 i j c) in let f = advanced_by e bs in
    StaysInRow0 e bs → (f.pen.sequence ≡ Separator → ⊥)
    → ((advanced f 10).pen.here.place ≡ s.pen.here.place) × ((advanced f 10).pen.here.attributes ≡ s.pen.here.attributes)
    × ((advanced f 10).cells ≡ f.cells)
returned s i j c bs q r h k t u = back s (advanced_by s (entering_row0 i j c)) c bs (entering s i j c q r h k) t u
