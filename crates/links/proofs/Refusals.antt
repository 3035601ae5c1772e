-- Refusals: 5 before 2, the state handed back, and nothing sent. Assumes nothing.
use mathlib.Core.Path.{◌≡◌, refl, sym, ap, ◌∙◌}
use mathlib.Core.Bool.{Bool, true, false, not}
use Prim.Native.Nat.{ℕ, ◌<◌}
use native.Mathlib.Omega.{arith}
use lib.Dec.{ltb}
use borrow.Author.Tests.{ltb-false}
use Rattle.laws.proofs.Computed.{fails}
use Rattle.numbers.specs.Numbers.{told_of}
use Rattle.std.specs.Prelude.{Ok}
use Rattle.links_wiring.specs.Tables.{local_table, connected_table}
use Rattle.links_hearing.specs.Hearing.{heard}
use Rattle.links.specs.declared.Links.{Links}
use Rattle.links.specs.declared.Refusal.TheVariants.{TooLarge, Broken}
use Rattle.links.specs.declared.Outcome.{Outcome}
use Rattle.links.specs.States.{unfinished, in_range}
use Rattle.links.specs.Calls.{told, refused, choosing, from_ear, from_keyboard}
use Rattle.links.specs.Runs.{Call, key, value, to_local, to_connected, obey, too_large, call_told}
use Rattle.links.proofs.Steps.{accepted, key_accepted, table_chosen, answer_heard}

pub broken : (c : Call) (l : Links) → in_range l ≡ false → obey c l ≡ refused l Broken
unfolding choosing from_ear from_keyboard
broken (key v) l i = simp i
broken (value e v) l i = simp i
broken to_local l i = simp i
broken to_connected l i = simp i

pub large : (c : Call) (l : Links) → in_range l ≡ true → too_large c ≡ true → obey c l ≡ refused l TooLarge
unfolding from_ear from_keyboard
large (key v) l i h = simp (i, h)
large (value e v) l i h = simp (i, h)
large to_local l i h = absurd (fails (sym h) tt)
large to_connected l i h = absurd (fails (sym h) tt)

pub small : (v : ℕ) → ltb 127 v ≡ false → v < 128
small v h = omega (arith, ltb-false 127 v h)

pub taken_else : (c : Call) (l : Links) → in_range l ≡ true → too_large c ≡ false → (obey c l).answer ≡ Ok tt
taken_else (key v) l i h = ap (λ (o : Outcome). o.answer) (key_accepted l v i (small v h))
taken_else (value e v) l i h =
    ap (λ (o : Outcome). o.answer) (accepted e l v i (small v h)) ∙ answer_heard e l (heard (unfinished l e) v)
taken_else to_local l i h = ap (λ (o : Outcome). o.answer) (table_chosen l local_table i)
taken_else to_connected l i h = ap (λ (o : Outcome). o.answer) (table_chosen l connected_table i)

-- ---- the numbers come of the conditions

pub numbers : (c : Call) (l : Links) → told (obey c l).answer ≡ call_told c l
numbers c l = go (in_range l) (too_large c) refl refl
  where
    go : (i t : Bool) → in_range l ≡ i → too_large c ≡ t → told (obey c l).answer ≡ told_of (not i) t 0
    go true true e f = ap (λ (o : Outcome). told o.answer) (large c l e f)
    go true false e f = ap told (taken_else c l e f)
    go false t e f = ap (λ (o : Outcome). told o.answer) (broken c l e)
