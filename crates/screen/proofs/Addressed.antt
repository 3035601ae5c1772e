-- FF, RS and US: where they lead, with which attributes, and what they leave. Assumes nothing.
use mathlib.Core.Path.{◌≡◌, refl, ap, ◌∙◌}
use mathlib.Core.Bool.{Bool, true, false, cond}
use mathlib.Core.List.{List, [], ◌∷◌, ◌++◌}
use Prim.Native.Nat.{ℕ, zero, suc, ◌-◌, ◌≤◌}
use native.Mathlib.Omega.{arith}
use lib.Dec.{eqb, lit≤}
use lib.ListN.{replicate}
use borrow.Author.Tests.{ne_eqb}
use Rattle.screen_cursor.specs.declared.Place.{Place}
use Rattle.screen_cursor.specs.Places.{at}
use Rattle.screen_sequences.specs.declared.Sequence.{Sequence}
use Rattle.screen_sequences.specs.declared.Sequence.TheVariants.{Free, Separator, Address, Row}
use Rattle.screen_sequences.specs.Sequences.{control, opens}
use Rattle.screen_sequences.proofs.Codes.{heard_code, heard_control}
use Rattle.screen_pen.specs.declared.Pen.{Pen}
use Rattle.screen_planning.specs.Naming.{Names}
use Rattle.screen_planning.specs.Changing.{with_sequence}
use Rattle.screen_planning.specs.Obeying.{start_at, keeping, entering, obeyed}
use Rattle.screen_planning.proofs.Plans.{plan_heard}
use Rattle.screen_planning.proofs.Addressed.{us_there, us_nowhere}
use Rattle.screen_page.specs.declared.Screen.{Screen}
use Rattle.screen_page.specs.Pages.{with_pen}
use Rattle.screen.specs.Screens.{applied, advanced, advanced_by}
use Rattle.screen.specs.Claims.{ended, addressing, Starts}
use Rattle.screen.proofs.Repeated.{step_plan, nul_step}

-- ---- FF and RS

-- to row 1, column 1 with start attributes; what is kept stays
ff_pen : (s : Screen) → (s.pen.sequence ≡ Separator → ⊥)
    → (advanced s 12).pen ≡ start_at (with_sequence s.pen Free) (at 1 1)
unfolding obeyed applied
ff_pen s e =
    ap (λ (x : Screen). x.pen)
    (step_plan s 12 _ (plan_heard s.pen 12 (control 12) (heard_control s.pen.sequence 12 e (lit≤ tt) (lit≤ tt))))

started : (s t : Screen) (x : Place) → t.pen ≡ start_at (with_sequence s.pen Free) x
    → Starts s t x × (t.pen.kept ≡ s.pen.kept)
started s t x e = (
  record {
    place = ap (λ (p : Pen). p.here.place) e;
    attributes = ap (λ (p : Pen). p.here.attributes) e;
    sequence = ap (λ (p : Pen). p.sequence) e;
    last = ap (λ (p : Pen). p.last) e;
    shown = ap (λ (p : Pen). p.shown) e;
  },
  ap (λ (p : Pen). p.kept) e,
)

pub ff_starts : (s : Screen) → (s.pen.sequence ≡ Separator → ⊥)
    → Starts s (advanced s 12) (at 1 1) × ((advanced s 12).pen.kept ≡ s.pen.kept)
ff_starts s e = started s (advanced s 12) (at 1 1) (ff_pen s e)

rs_screen : (s : Screen) → (s.pen.sequence ≡ Separator → ⊥)
    → advanced s 30 ≡ with_pen s (start_at (with_sequence s.pen Free) (at 1 1))
unfolding obeyed applied
rs_screen s e =
    step_plan s 30 _ (plan_heard s.pen 30 (control 30) (heard_control s.pen.sequence 30 e (lit≤ tt) (lit≤ tt)))

pub rs_starts : (s : Screen) → (s.pen.sequence ≡ Separator → ⊥)
    → Starts s (advanced s 30) (at 1 1) × ((advanced s 30).pen.kept ≡ s.pen.kept)
    × ((advanced s 30).cells ≡ s.cells)
rs_starts s e =
    let t = started s (advanced s 30) (at 1 1) (ap (λ (x : Screen). x.pen) (rs_screen s e)) in
    (t.0, t.1, ap (λ (x : Screen). x.cells) (rs_screen s e))

-- ---- US

-- NULs change nothing
nuls : (s : Screen) (i : ℕ) (bs : List ℕ) → advanced_by s (replicate i 0 ++ bs) ≡ advanced_by s bs
unfolding advanced_by
nuls s zero bs = refl
nuls s (suc i) bs = ap (λ (x : Screen). advanced_by x (replicate i 0 ++ bs)) (nul_step s) ∙ nuls s i bs

with : Screen → Sequence → Screen
with s q = with_pen s (with_sequence s.pen q)

us : (s : Screen) → (s.pen.sequence ≡ Separator → ⊥) → advanced s 31 ≡ with s Address
unfolding with obeyed applied
us s e =
    step_plan s 31 _
    (plan_heard s.pen 31 (control 31) (heard_control s.pen.sequence 31 e (lit≤ tt) (lit≤ tt)))

row : (s : Screen) (r : ℕ) → 32 ≤ r → advanced (with s Address) r ≡ with s (Row r)
unfolding with obeyed applied
row s r h =
    step_plan (with s Address) r _
    (plan_heard (with s Address).pen r (opens (Row r)) (heard_code Address r h))

-- US and both its codes, by what the second does
both : (s t : Screen) (i j r c : ℕ) → (s.pen.sequence ≡ Separator → ⊥) → 32 ≤ r → advanced (with s (Row r)) c ≡ t
    → advanced_by s (addressing i j r c) ≡ t
unfolding advanced_by
both s t i j r c e h f =
    ap (λ (x : Screen). advanced_by x (replicate i 0 ++ (r ∷ replicate j 0 ++ (c ∷ [])))) (us s e)
    ∙ nuls (with s Address) i (r ∷ replicate j 0 ++ (c ∷ []))
    ∙ ap (λ (x : Screen). advanced_by x (replicate j 0 ++ (c ∷ []))) (row s r h)
    ∙ nuls (with s (Row r)) j (c ∷ [])
    ∙ f

-- where they name a place
pub us_screen : (s : Screen) (i j r c : ℕ) → (s.pen.sequence ≡ Separator → ⊥) → Names r c
    → advanced_by s (addressing i j r c)
    ≡ with_pen s (start_at (entering (with_sequence s.pen Free) (r - 64)) (at (r - 64) (c - 64)))
unfolding with applied
us_screen s i j r c e n =
    both s _ i j r c e (omega (arith, n.lowest))
    (step_plan (with s (Row r)) c _ (us_there (with s (Row r)).pen r c refl n))

-- what a start at a place leaves alone
left : (p q : Pen) (x : Place) → q ≡ start_at p x
    → (q.here.place ≡ x) × (q.sequence ≡ p.sequence) × (q.last ≡ p.last) × (q.shown ≡ p.shown)
left p q x e = (
  ap (λ (y : Pen). y.here.place) e,
  ap (λ (y : Pen). y.sequence) e,
  ap (λ (y : Pen). y.last) e,
  ap (λ (y : Pen). y.shown) e,
)

-- and so entering row 0
entered : (p q : Pen) (x : Place) (t u : Bool)
    → q ≡ start_at (cond t (cond u p (keeping p)) p) x
    → (q.here.place ≡ x) × (q.sequence ≡ p.sequence) × (q.last ≡ p.last) × (q.shown ≡ p.shown)
entered p q x true true e = left p q x e
entered p q x true false e = left (keeping p) q x e
entered p q x false u e = left p q x e

pub us_starts : (s : Screen) (i j r c : ℕ) → (s.pen.sequence ≡ Separator → ⊥) → Names r c
    → let t = advanced_by s (addressing i j r c) in Starts s t (at (r - 64) (c - 64)) × (t.cells ≡ s.cells)
us_starts s i j r c e n =
    let f = us_screen s i j r c e n in
    let k =
    entered (with_sequence s.pen Free) (advanced_by s (addressing i j r c)).pen (at (r - 64) (c - 64))
    (eqb (r - 64) 0) (eqb s.pen.here.place.row 0) (ap (λ (x : Screen). x.pen) f)
    in (
      record {
        place = k.0;
        attributes = ap (λ (x : Screen). x.pen.here.attributes) f;
        sequence = k.1;
        last = k.2;
        shown = k.3;
      },
      ap (λ (x : Screen). x.cells) f,
    )

-- what is kept stays, unless row 0 is entered from another row
pub us_kept : (s : Screen) (i j r c : ℕ) → (s.pen.sequence ≡ Separator → ⊥) → Names r c → 65 ≤ r
    → (advanced_by s (addressing i j r c)).pen.kept ≡ s.pen.kept
us_kept s i j r c e n h =
    ap (λ (x : Screen). x.pen.kept) (us_screen s i j r c e n)
    ∙ ap (λ (t : Bool). (cond t (cond (eqb s.pen.here.place.row 0) p (keeping p)) p).kept)
    (ne_eqb (r - 64) 0 (λ f. omega (arith, h, f)))
  where
    p : Pen
    p = with_sequence s.pen Free

-- where they name none, all three are dropped
pub us_dropped : (s : Screen) (i j r c : ℕ) → (s.pen.sequence ≡ Separator → ⊥) → 32 ≤ r → 32 ≤ c
    → (Names r c → ⊥) → advanced_by s (addressing i j r c) ≡ ended s
unfolding with applied
us_dropped s i j r c e h k f =
    both s _ i j r c e h (step_plan (with s (Row r)) c _ (us_nowhere (with s (Row r)).pen r c refl k f))
