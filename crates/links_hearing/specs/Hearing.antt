-- What one value means after the codes that its module sent before it (01, "Links and commands"). Assumes nothing.
use Rattle.std.specs.Prelude.{Bool, true, cond, ◌&&◌, List, [], ◌∷◌, ℕ, leb, eqb}
use Rattle.links_hearing.specs.declared.Unfinished.{Unfinished}
use Rattle.links_hearing.specs.declared.Unfinished.TheVariants.{Free, Escape, Pro1, Pro2, Pro2With}
use Rattle.links_hearing.specs.declared.Unfinished.TheVariants.{Pro3, Pro3With, Pro3Both}
use Rattle.links_commands.specs.declared.Order.{Order}
use Rattle.links_commands.specs.declared.Order.TheVariants.{Nothing, Pass, Pair}
use Rattle.links_hearing.specs.declared.Heard.{Heard}
use Rattle.links_commands.specs.Commands.{pro1, pro2, pro3, ordered}

-- "nothing, ESC alone, or ESC, 3/9 to 3/B and fewer codes than it takes": the codes so far
abbrev pub codes_of : Unfinished → List ℕ
codes_of Free = []
codes_of Escape = 27 ∷ []
codes_of Pro1 = 27 ∷ 57 ∷ []
codes_of Pro2 = 27 ∷ 58 ∷ []
codes_of (Pro2With x) = 27 ∷ 58 ∷ x ∷ []
codes_of Pro3 = 27 ∷ 59 ∷ []
codes_of (Pro3With x) = 27 ∷ 59 ∷ x ∷ []
codes_of (Pro3Both x y) = 27 ∷ 59 ∷ x ∷ y ∷ []

-- "each at most 127"
unfoldable pub in_range : Unfinished → Bool
in_range Free = true
in_range Escape = true
in_range Pro1 = true
in_range Pro2 = true
in_range (Pro2With x) = leb x 127
in_range Pro3 = true
in_range (Pro3With x) = leb x 127
in_range (Pro3Both x y) = leb x 127 && leb y 127

-- the code is taken, and nothing is done yet
abbrev pub holds : Unfinished → Heard
holds u = record { unfinished = u; order = Nothing }

-- nothing is unfinished, and this is to be done
abbrev pub does : Order → Heard
does o = record { unfinished = Free; order = o }

-- ESC waits for its next code; any other value is passed on
abbrev pub begun : ℕ → Heard
begun v = cond (eqb v 27) (holds Escape) (does (Pass v))

-- "PRO1, PRO2, PRO3 are 1/B then 3/9, 3/A, 3/B"; "ESC that begins no command is passed on with its next code, whatever
-- that is"
abbrev pub escaped : ℕ → Heard
escaped v = cond (eqb v 57) (holds Pro1) (cond (eqb v 58) (holds Pro2) (cond (eqb v 59) (holds Pro3) (does (Pair v))))

-- "After PRO1, PRO2 or PRO3 exactly one, two or three codes are taken, whatever they are"
unfoldable pub heard : Unfinished → ℕ → Heard
heard Free v = begun v
heard Escape v = escaped v
heard Pro1 x = does (ordered (pro1 x))
heard Pro2 x = holds (Pro2With x)
heard (Pro2With x) y = does (ordered (pro2 x y))
heard Pro3 x = holds (Pro3With x)
heard (Pro3With x) y = holds (Pro3Both x y)
heard (Pro3Both x y) z = does (ordered (pro3 x y z))

-- what is unfinished after some values
abbrev pub left_after : Unfinished → List ℕ → Unfinished
left_after u [] = u
left_after u (v ∷ vs) = left_after (heard u v).unfinished vs
