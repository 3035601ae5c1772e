-- A page that the sender sends. Assumes nothing.
use Rattle.std.specs.Prelude.{List, [], ◌∷◌}
use Rattle.links_hearing.specs.Phrases.{Phrase, alone, escape, command}

-- no command stands among these phrases: values by themselves, and ESC with its next code
abbrev pub NoCommand : List Phrase → Type 0
NoCommand [] = Unit {0}
NoCommand (alone v ∷ ps) = NoCommand ps
NoCommand (escape v ∷ ps) = NoCommand ps
NoCommand (command c ∷ ps) = ⊥
