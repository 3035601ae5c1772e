-- The receiver's state (01, "The receiver"). Assumes nothing.
use Rattle.std.specs.Prelude.{◌≡◌, Bool, true, false, not, ℕ, length, replicate}
use Rattle.numbers.specs.Numbers.{Conditions, refusable}
use Rattle.line_phases.specs.declared.Phase.{Phase}
use Rattle.line_phases.specs.Phases.{at_start, in_range as all_in_range}
use Rattle.line_receiver.specs.declared.Receiver.{Receiver}

abbrev pub in_range : Receiver → Bool
in_range r = all_in_range r.number r.count r.phase

-- "a state handed in lies outside the ranges this page gives"; "In the receiver a repeat is a request: the call
-- answers 0"
abbrev pub call_conditions : Receiver → Conditions
call_conditions r = refusable (not (in_range r)) false

-- a state in range, with its array of seventeen bytes: the array of every receiver has them, a list need not
pub record InReceiver (r : Receiver) : Type 0 where
  pub range : in_range r ≡ true
  pub array : length r.held ≡ 17

-- nothing held
abbrev pub emptied : ℕ → Phase → Receiver
emptied x p = record { held = replicate 17 0; count = 0; number = x; phase = p }

-- "A new receiver is off, number 0, nothing held or seen"
abbrev pub new_receiver : Receiver
new_receiver = emptied 0 at_start
