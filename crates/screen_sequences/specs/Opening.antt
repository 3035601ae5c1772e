-- "an unfinished sequence that the rules below leave open" (01, "Screen cells"). Assumes nothing.
use Rattle.std.specs.Prelude.{◌≡◌, List, [], ◌∷◌, ℕ}
use Rattle.values.specs.Large.{Values}
use Rattle.screen_sequences.specs.declared.Sequence.{Sequence}
use Rattle.screen_sequences.specs.declared.Sequence.TheVariants.{Free}
use Rattle.screen_sequences.specs.Sequences.{heard}

-- what is unfinished after these values
abbrev pub opened : Sequence → List ℕ → Sequence
opened q [] = q
opened q (b ∷ bs) = opened (heard q b).sequence bs

-- some values of 0 to 127 lead to it, from nothing unfinished
pub record LeftOpen (q : Sequence) : Type 0 where
  pub values : List ℕ
  pub small : Values values
  pub leads : opened Free values ≡ q
