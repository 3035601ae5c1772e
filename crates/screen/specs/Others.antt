-- A value that is more than a character. Assumes nothing.
use Rattle.std.specs.Prelude.{Bool, ◌||◌, not, ℕ, ltb}
use Rattle.screen_sequences.specs.Sequences.{is_free}
use Rattle.screen_pen.specs.declared.Pen.{Pen}

-- something is unfinished, or the value is a C0 code
unfoldable pub is_other : Pen → ℕ → Bool
is_other p b = not (is_free p.sequence) || ltb b 32
