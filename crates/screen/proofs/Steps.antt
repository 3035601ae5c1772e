-- Values one after the other. Assumes nothing.
use mathlib.Core.Path.{◌≡◌, refl}
use mathlib.Core.List.{List, [], ◌∷◌, ◌++◌}
use Prim.Native.Nat.{ℕ, ◌+◌, ◌<◌}
use native.Mathlib.Numerals.{add-one}
use lib.ListN.{length, take, get_or}
use lib.Seq.{take-suc}
use Rattle.screen_page.specs.declared.Screen.{Screen}
use Rattle.screen.specs.Screens.{advanced, advanced_by}

-- some, then others
pub by_append : (s : Screen) (bs cs : List ℕ) → advanced_by s (bs ++ cs) ≡ advanced_by (advanced_by s bs) cs
unfolding advanced_by
by_append s [] cs = refl
by_append s (b ∷ bs) cs = by_append (advanced s b) bs cs

-- one more
pub by_one : (s : Screen) (bs : List ℕ) (i : ℕ) → i < length bs
    → advanced_by s (take (i + 1) bs) ≡ advanced (advanced_by s (take i bs)) (get_or bs i 0)
unfolding advanced_by
by_one s bs i h = simp (add-one, take-suc bs i 0 h) (by_append s (take i bs) (get_or bs i 0 ∷ []))
