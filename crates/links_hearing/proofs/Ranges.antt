-- An unfinished sequence is in range exactly when each of its codes is at most 127, and stays so; what is passed on is
-- a value of 0 to 127. Assumes nothing.
use mathlib.Core.Path.{◌≡◌, refl}
use mathlib.Core.Bool.{true, ◌&&◌}
use mathlib.Core.List.{List, [], ◌∷◌}
use Prim.Native.Nat.{ℕ, ◌≤◌, ◌<◌}
use native.Mathlib.Omega.{arith}
use lib.Dec.{leb, eqb}
use borrow.Author.Tests.{leb-true, le-leb}
use Rattle.laws.proofs.Computed.{chosen, and_left, and_right, holds, is_true, both}
use Rattle.values.specs.Large.{Values}
use Rattle.values.proofs.Found.{values_none, values_cons, values_head, values_tail}
use Rattle.links_hearing.specs.declared.Unfinished.{Unfinished}
use Rattle.links_hearing.specs.declared.Unfinished.TheVariants.{Free, Escape, Pro1, Pro2, Pro2With}
use Rattle.links_hearing.specs.declared.Unfinished.TheVariants.{Pro3, Pro3With, Pro3Both}
use Rattle.links_hearing.specs.declared.Heard.{Heard}
use Rattle.links_commands.specs.Commands.{pro2, pro3, SmallOrder}
use Rattle.links_commands.proofs.Known.{small_ordered}
use Rattle.links_hearing.specs.Hearing.{codes_of, in_range, heard}

-- ESC and the codes behind it
after_esc : (vs : List ℕ) → Values vs → Values (27 ∷ vs)
after_esc vs h = values_cons 27 vs (omega arith) h

after_pro : (p : ℕ) (vs : List ℕ) → p < 128 → Values vs → Values (27 ∷ p ∷ vs)
after_pro p vs l h = after_esc (p ∷ vs) (values_cons p vs l h)

pub tested : (u : Unfinished) → in_range u ≡ true → Values (codes_of u)
unfolding in_range
tested Free e = values_none
tested Escape e = after_esc [] values_none
tested Pro1 e = after_pro 57 [] (omega arith) values_none
tested Pro2 e = after_pro 58 [] (omega arith) values_none
tested (Pro2With x) e =
    after_pro 58 (x ∷ []) (omega arith) (values_cons x [] (omega (arith, leb-true x 127 e)) values_none)
tested Pro3 e = after_pro 59 [] (omega arith) values_none
tested (Pro3With x) e =
    after_pro 59 (x ∷ []) (omega arith) (values_cons x [] (omega (arith, leb-true x 127 e)) values_none)
tested (Pro3Both x y) e =
    let a = is_true (leb x 127) (and_left (leb x 127) (leb y 127) (holds e)) in
    let b = is_true (leb y 127) (and_right (leb x 127) (leb y 127) (holds e)) in
    after_pro 59 (x ∷ y ∷ []) (omega arith)
    (values_cons x (y ∷ []) (omega (arith, leb-true x 127 a))
    (values_cons y [] (omega (arith, leb-true y 127 b)) values_none))

small : (x : ℕ) (vs : List ℕ) → Values (x ∷ vs) → leb x 127 ≡ true
small x vs h = le-leb x 127 (omega (arith, values_head x vs h))

codes : (p : ℕ) (vs : List ℕ) → Values (27 ∷ p ∷ vs) → Values vs
codes p vs h = values_tail p vs (values_tail 27 (p ∷ vs) h)

pub passed : (u : Unfinished) → Values (codes_of u) → in_range u ≡ true
unfolding in_range
passed Free h = refl
passed Escape h = refl
passed Pro1 h = refl
passed Pro2 h = refl
passed (Pro2With x) h = small x [] (codes 58 (x ∷ []) h)
passed Pro3 h = refl
passed (Pro3With x) h = small x [] (codes 59 (x ∷ []) h)
passed (Pro3Both x y) h =
    let xy = codes 59 (x ∷ y ∷ []) h in
    is_true (leb x 127 && leb y 127)
    (both (leb x 127) (leb y 127) (holds (small x (y ∷ []) xy)) (holds (small y [] (values_tail x (y ∷ []) xy))))

-- a value of 0 to 127 keeps it in range
Kept : Heard → Type 0
Kept h = in_range h.unfinished ≡ true

pub kept : (u : Unfinished) (v : ℕ) → in_range u ≡ true → v ≤ 127 → in_range (heard u v).unfinished ≡ true
unfolding in_range heard Kept
kept Free v e h = chosen Kept (eqb v 27) (λ f. refl) (λ f. refl)
kept Escape v e h =
    chosen Kept (eqb v 57) (λ f. refl)
    (λ f. chosen Kept (eqb v 58) (λ g. refl) (λ g. chosen Kept (eqb v 59) (λ k. refl) (λ k. refl)))
kept Pro1 v e h = refl
kept Pro2 v e h = le-leb v 127 h
kept (Pro2With x) v e h = refl
kept Pro3 v e h = le-leb v 127 h
kept (Pro3With x) v e h =
    is_true (leb x 127 && leb v 127) (both (leb x 127) (leb v 127) (holds e) (holds (le-leb v 127 h)))
kept (Pro3Both x y) v e h = refl

-- ---- what is passed on

PassesSmall : Heard → Type 0
PassesSmall h = SmallOrder h.order

pub small_order : (u : Unfinished) (v : ℕ) → v < 128 → SmallOrder (heard u v).order
unfolding heard PassesSmall
small_order Free v h = chosen PassesSmall (eqb v 27) (λ e. tt) (λ e. h)
small_order Escape v h =
    chosen PassesSmall (eqb v 57) (λ e. tt)
    (λ e. chosen PassesSmall (eqb v 58) (λ f. tt) (λ f. chosen PassesSmall (eqb v 59) (λ g. tt) (λ g. h)))
small_order Pro1 v h = tt
small_order Pro2 v h = tt
small_order (Pro2With x) v h = small_ordered (pro2 x v)
small_order Pro3 v h = tt
small_order (Pro3With x) v h = tt
small_order (Pro3Both x y) v h = small_ordered (pro3 x y v)
