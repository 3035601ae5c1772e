-- The page says one thing: a run has one course. Assumes nothing.
use mathlib.Core.Path.{◌≡◌, refl, sym, ap, ap₂, subst}
use mathlib.Core.List.{List, [], ◌∷◌, ◌++◌}
use Prim.Native.Nat.{ℕ}
use native.Mathlib.Omega.{arith}
use Rattle.std.specs.Prelude.{Some}
use Rattle.block_maker.specs.Making.{values_of}
use Rattle.block_reader.specs.Judging.{verdict}
use Rattle.block_reader.specs.Claims.{NoneNear, OnlyNear}
use Rattle.line_receiver.specs.Runs.{Event, Sent}
use Rattle.line_receiver.specs.Page.{passes, Stand, Rule, plain, held, taken, refused, dropped, resumed, again}
use Rattle.line_receiver.specs.Page.{midway_ask, idle_ask, switched_on, switched_off, Course, done, next}

pub same_block : {B C D : List ℕ} → OnlyNear B C → OnlyNear B D → C ≡ D
same_block {B} {C} {D} p q = q.only C p.near p.is_valid

pub not_both : {B C : List ℕ} → OnlyNear B C → NoneNear B → ⊥
not_both {B} {C} p n = n C p.near p.is_valid

one_rule : {s t u : Stand} {e : Event} {o p : Sent} → Rule s e o t → Rule s e p u → (o ≡ p) × (t ≡ u)
one_rule plain plain = (refl, refl)
one_rule (held h) (held k) = (refl, refl)
one_rule (held h) (taken k c) = absurd (omega (arith, h, k))
one_rule (held h) (refused k c) = absurd (omega (arith, h, k))
one_rule (taken h c) (held k) = absurd (omega (arith, h, k))
one_rule (taken {h = l} {b = b} h c) (taken k d) =
    (ap (λ (C : List ℕ). passes (values_of C) (Some (verdict (l ++ (b ∷ []))))) (same_block c d), refl)
one_rule (taken h c) (refused k d) = absurd (not_both c d)
one_rule (refused h c) (held k) = absurd (omega (arith, h, k))
one_rule (refused h c) (taken k d) = absurd (not_both d c)
one_rule (refused h c) (refused k d) = (refl, refl)
one_rule (dropped n) (dropped m) = (refl, refl)
one_rule (dropped n) (resumed m) = absurd (n m)
one_rule (resumed n) (dropped m) = absurd (m n)
one_rule (resumed n) (resumed m) = (refl, refl)
one_rule again again = (refl, refl)
one_rule midway_ask midway_ask = (refl, refl)
one_rule idle_ask idle_ask = (refl, refl)
one_rule switched_on switched_on = (refl, refl)
one_rule switched_off switched_off = (refl, refl)

pub one_course : {s t u : Stand} {es : List Event} {os ps : List Sent} → Course s es os t → Course s es ps u
    → (os ≡ ps) × (t ≡ u)
one_course done done = (refl, refl)
one_course {u = u} {ps = ps} (next {t = t} {es = es} a c) (next {os = qs} b d) =
    let r = one_rule a b in
    let i = one_course c (subst (λ (v : Stand). Course v es qs u) (sym r.1) d) in
    (ap₂ (λ (o : Sent) (os : List Sent). o ∷ os) r.0 i.0, i.1)
