-- Each value of a command, heard after those before it, and values that are no command's. Assumes nothing.
use mathlib.Core.Path.{◌≡◌, refl}
use mathlib.Core.List.{List, [], ◌∷◌, ◌++◌}
use Prim.Native.Nat.{ℕ, zero, suc, ◌+◌, ◌<◌}
use native.Mathlib.Omega.{arith}
use borrow.Author.Tests.{ne_eqb}
use lib.ListN.{length, get_or, take}
use Rattle.links_hearing.specs.declared.Unfinished.{Unfinished}
use Rattle.links_hearing.specs.declared.Unfinished.TheVariants.{Free, Escape}
use Rattle.links_commands.specs.declared.Order.TheVariants.{Nothing, Pass, Pair}
use Rattle.links_commands.specs.Commands.{Command, pro1, pro2, pro3, spelled, beginning, last_of, ordered}
use Rattle.links_hearing.specs.Hearing.{codes_of, does, heard, left_after}

-- some values, then others
pub left_append : (u : Unfinished) (vs ws : List ℕ) → left_after u (vs ++ ws) ≡ left_after (left_after u vs) ws
left_append u [] ws = refl
left_append u (v ∷ vs) ws = left_append (heard u v).unfinished vs ws

-- the codes so far are unfinished
pub midway : (c : Command) (k : ℕ) → k < length (spelled c)
    → codes_of (left_after Free (take k (spelled c))) ≡ take k (spelled c)
unfolding heard
midway (pro1 x) zero h = refl
midway (pro1 x) (suc zero) h = refl
midway (pro1 x) (suc (suc zero)) h = refl
midway (pro1 x) (suc (suc (suc k))) h = absurd (omega (arith, h))
midway (pro2 x y) zero h = refl
midway (pro2 x y) (suc zero) h = refl
midway (pro2 x y) (suc (suc zero)) h = refl
midway (pro2 x y) (suc (suc (suc zero))) h = refl
midway (pro2 x y) (suc (suc (suc (suc k)))) h = absurd (omega (arith, h))
midway (pro3 x y z) zero h = refl
midway (pro3 x y z) (suc zero) h = refl
midway (pro3 x y z) (suc (suc zero)) h = refl
midway (pro3 x y z) (suc (suc (suc zero))) h = refl
midway (pro3 x y z) (suc (suc (suc (suc zero)))) h = refl
midway (pro3 x y z) (suc (suc (suc (suc (suc k))))) h = absurd (omega (arith, h))

-- behind the last, nothing is
pub over : (c : Command) → left_after Free (spelled c) ≡ Free
unfolding heard
over (pro1 x) = refl
over (pro2 x y) = refl
over (pro3 x y z) = refl

-- the last ends the sequence, with the command's order
pub ends : (c : Command) → heard (left_after Free (beginning c)) (last_of c) ≡ does (ordered c)
unfolding heard
ends (pro1 x) = refl
ends (pro2 x y) = refl
ends (pro3 x y z) = refl

-- no other orders anything
pub waits : (c : Command) (k : ℕ) → k + 1 < length (spelled c)
    → (heard (left_after Free (take k (spelled c))) (get_or (spelled c) k 0)).order ≡ Nothing
unfolding heard
waits (pro1 x) zero h = refl
waits (pro1 x) (suc zero) h = refl
waits (pro1 x) (suc (suc k)) h = absurd (omega (arith, h))
waits (pro2 x y) zero h = refl
waits (pro2 x y) (suc zero) h = refl
waits (pro2 x y) (suc (suc zero)) h = refl
waits (pro2 x y) (suc (suc (suc k))) h = absurd (omega (arith, h))
waits (pro3 x y z) zero h = refl
waits (pro3 x y z) (suc zero) h = refl
waits (pro3 x y z) (suc (suc zero)) h = refl
waits (pro3 x y z) (suc (suc (suc zero))) h = refl
waits (pro3 x y z) (suc (suc (suc (suc k)))) h = absurd (omega (arith, h))

-- ---- values that are no command's

-- with nothing unfinished any value but ESC is passed on
pub plain : (v : ℕ) → (v ≡ 27 → ⊥) → heard Free v ≡ does (Pass v)
unfolding heard
plain v n = simp (ne_eqb v 27 n)

-- ESC is held
pub esc_held : left_after Free (27 ∷ []) ≡ Escape
unfolding heard
esc_held = refl

-- after it, any code but the three is passed on with it
pub paired : (v : ℕ) → (v ≡ 57 → ⊥) → (v ≡ 58 → ⊥) → (v ≡ 59 → ⊥) → heard Escape v ≡ does (Pair v)
unfolding heard
paired v a b c = simp (ne_eqb v 57 a, ne_eqb v 58 b, ne_eqb v 59 c)
