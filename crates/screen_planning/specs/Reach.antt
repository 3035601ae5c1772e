-- How far a value can reach among the cells (01, "Screen cells"). Assumes nothing.
use Rattle.std.specs.Prelude.{Bool, cond, ◌&&◌, not, ℕ, ◌-◌, ltb, eqb}
use Rattle.screen_sequences.specs.declared.Sequence.{Sequence}
use Rattle.screen_sequences.specs.declared.Sequence.TheVariants.{Free, Escape, Long, Control, Separator, Repeat}
use Rattle.screen_sequences.specs.declared.Sequence.TheVariants.{Single, Address, Row}
use Rattle.screen_sequences.specs.Sequences.{is_separator}

-- at most so many cells are written by a code from 2/0: one with nothing unfinished or after SS2, n minus 64 after REP
abbrev pub reach : Sequence → ℕ → ℕ
reach Free c = 1
reach Single c = 1
reach Repeat c = c - 64
reach Escape c = 0
reach Long c = 0
reach Control c = 0
reach Separator c = 0
reach Address c = 0
reach (Row r) c = 0

-- a C0 code writes none
abbrev pub writes : Sequence → ℕ → ℕ
writes q b = cond (ltb 31 b) (reach q b) 0

-- FF, unless SEP drops it
abbrev pub clears : Sequence → ℕ → Bool
clears q b = eqb b 12 && not (is_separator q)
