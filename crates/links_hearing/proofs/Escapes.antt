-- ESC that begins no command, written out. Assumes nothing.
use mathlib.Core.Path.{◌≡◌, refl}
use mathlib.Core.List.{List, [], ◌∷◌}
use Prim.Native.Nat.{ℕ}
use Rattle.links_commands.specs.declared.Order.{Order}
use Rattle.links_commands.specs.declared.Order.TheVariants.{Nothing, Pass, Pair}
use Rattle.links_hearing.specs.declared.Unfinished.{Unfinished}
use Rattle.links_hearing.specs.declared.Unfinished.TheVariants.{Free}
use Rattle.links_hearing.specs.Hearing.{heard}

-- the order of each value
abbrev pub orders_of : Unfinished → List ℕ → List Order
orders_of u [] = []
orders_of u (v ∷ vs) = (heard u v).order ∷ orders_of (heard u v).unfinished vs

-- ESC with its next code: 3/8, 3/C, and ESC, behind which 3/9 is a value by itself
pub pairs_written :
    orders_of Free (27 ∷ 56 ∷ 27 ∷ 60 ∷ 27 ∷ 27 ∷ 57 ∷ [])
    ≡ Nothing ∷ Pair 56 ∷ Nothing ∷ Pair 60 ∷ Nothing ∷ Pair 27 ∷ Pass 57 ∷ []
unfolding heard
pairs_written = refl
