-- The codes of each unfinished sequence, and what the next value makes of it, written out. Assumes nothing.
use mathlib.Core.Path.{◌≡◌, refl}
use mathlib.Core.List.{List, [], ◌∷◌, map}
use Rattle.links_hearing.specs.declared.Unfinished.{Unfinished}
use Rattle.links_hearing.specs.declared.Unfinished.TheVariants.{Free, Escape, Pro1, Pro2, Pro2With}
use Rattle.links_hearing.specs.declared.Unfinished.TheVariants.{Pro3, Pro3With, Pro3Both}
use Rattle.links_hearing.specs.Hearing.{codes_of, heard}

-- "nothing, ESC alone, or ESC, 3/9 to 3/B and fewer codes than it takes"
abbrev pub each : List Unfinished
each = Free ∷ Escape ∷ Pro1 ∷ Pro2 ∷ Pro2With 98 ∷ Pro3 ∷ Pro3With 97 ∷ Pro3Both 97 88 ∷ []

pub codes_written :
    map codes_of each
    ≡ [] ∷ (27 ∷ []) ∷ (27 ∷ 57 ∷ []) ∷ (27 ∷ 58 ∷ []) ∷ (27 ∷ 58 ∷ 98 ∷ [])
    ∷ (27 ∷ 59 ∷ []) ∷ (27 ∷ 59 ∷ 97 ∷ []) ∷ (27 ∷ 59 ∷ 97 ∷ 88 ∷ []) ∷ []
codes_written = refl

-- what is unfinished behind the value 5/1
pub next_written :
    map (λ (u : Unfinished). (heard u 81).unfinished) each
    ≡ Free ∷ Free ∷ Free ∷ Pro2With 81 ∷ Free ∷ Pro3With 81 ∷ Pro3Both 97 81 ∷ Free ∷ []
unfolding heard
next_written = refl
