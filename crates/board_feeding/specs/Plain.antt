-- Values that go along the links of the modem as they are (01, "Links and commands"). Assumes nothing.
use Rattle.std.specs.Prelude.{Bool, true, false, ◌&&◌, not, List, [], ◌∷◌, ℕ, ltb, eqb}
use Rattle.links_hearing.specs.declared.Unfinished.{Unfinished}
use Rattle.links_hearing.specs.declared.Unfinished.TheVariants.{Free, Escape, Pro1, Pro2, Pro2With}
use Rattle.links_hearing.specs.declared.Unfinished.TheVariants.{Pro3, Pro3With, Pro3Both}
use Rattle.links.specs.declared.Links.{Links}
use Rattle.links.specs.States.{in_range}

-- a value, and not ESC (1/11)
abbrev pub plain : ℕ → Bool
plain v = ltb v 128 && not (eqb v 27)

abbrev pub all_plain : List ℕ → Bool
all_plain [] = true
all_plain (v ∷ vs) = plain v && all_plain vs

-- nothing unfinished
abbrev pub is_free : Unfinished → Bool
is_free Free = true
is_free Escape = false
is_free Pro1 = false
is_free Pro2 = false
is_free (Pro2With a) = false
is_free Pro3 = false
is_free (Pro3With a) = false
is_free (Pro3Both a b) = false

-- links in range with nothing unfinished from the modem, and plain values
unfoldable pub are_plain : Links → List ℕ → Bool
are_plain l vs = is_free l.unfinished.modem && (in_range l && all_plain vs)
