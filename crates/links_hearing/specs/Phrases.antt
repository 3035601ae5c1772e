-- What modem or socket says, in whole phrases, and what of it flows on (01, "Links and commands"). Assumes nothing.
use Rattle.std.specs.Prelude.{◌≡◌, List, [], ◌∷◌, ◌++◌, ℕ}
use Rattle.links_hearing.specs.declared.Unfinished.{Unfinished}
use Rattle.links_commands.specs.Commands.{Command, spelled}
use Rattle.links_hearing.specs.Hearing.{codes_of}

-- a value by itself; ESC and its next code; a command
pub data Phrase : Type 0 where
  alone : ℕ → Phrase
  escape : ℕ → Phrase
  command : Command → Phrase

abbrev pub values_of : Phrase → List ℕ
values_of (alone v) = v ∷ []
values_of (escape v) = 27 ∷ v ∷ []
values_of (command c) = spelled c

-- "Commands .. are taken out of the flow"
abbrev pub flowing : Phrase → List ℕ
flowing (alone v) = v ∷ []
flowing (escape v) = 27 ∷ v ∷ []
flowing (command c) = []

-- a value by itself is no ESC, and a code after ESC begins no command
abbrev pub Proper : Phrase → Type 0
Proper (alone v) = v ≡ 27 → ⊥
Proper (escape v) = (v ≡ 57 → ⊥) × (v ≡ 58 → ⊥) × (v ≡ 59 → ⊥)
Proper (command c) = Unit {0}

-- phrases one after another
abbrev pub AllProper : List Phrase → Type 0
AllProper [] = Unit {0}
AllProper (p ∷ ps) = Proper p × AllProper ps

abbrev pub all_values : List Phrase → List ℕ
all_values [] = []
all_values (p ∷ ps) = values_of p ++ all_values ps

abbrev pub all_flowing : List Phrase → List ℕ
all_flowing [] = []
all_flowing (p ∷ ps) = flowing p ++ all_flowing ps

-- values are phrases, and then the beginning of one
pub record Phrased (vs : List ℕ) : Type 0 where
  pub phrases : List Phrase
  pub rest : Unfinished
  pub proper : AllProper phrases
  pub whole : vs ≡ all_values phrases ++ codes_of rest
