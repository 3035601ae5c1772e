-- What each call answers, hands back and sends, for any state and any value (01, "Links and commands", "Numbers
-- given"). Assumes nothing.
use Rattle.std.specs.Prelude.{Result, Ok, Err, cond, [], ◌∷◌, ℕ, ltb}
use Rattle.numbers.specs.Numbers.{Told}
use Rattle.links_wiring.specs.declared.Module.TheVariants.{Keyboard}
use Rattle.links_wiring.specs.Each.{Table}
use Rattle.links_wiring.specs.Tables.{local_table, connected_table}
use Rattle.links_commands.specs.declared.Order.TheVariants.{Pass}
use Rattle.links_hearing.specs.declared.Heard.{Heard}
use Rattle.links_hearing.specs.Hearing.{heard}
use Rattle.links_sending.specs.Sending.{Sent, silence, obeyed}
use Rattle.links.specs.declared.Links.{Links}
use Rattle.links_hearing.specs.declared.ears.Ear.{Ear}
use Rattle.links_hearing.specs.declared.ears.Ear.TheVariants.{Modem as modem, Socket as socket}
use Rattle.links.specs.declared.Refusal.{Refusal}
use Rattle.links.specs.declared.Refusal.TheVariants.{TooLarge, Broken}
use Rattle.links.specs.declared.Outcome.{Outcome}
use Rattle.links_hearing.specs.Ears.{name_of}
use Rattle.links.specs.States.{unfinished, left, in_range}

-- the number of each answer, and what it names: a single value stands at place 0
abbrev pub told : Result (Unit {0}) Refusal → Told
told (Ok taken) = record { number = 0; named = [] }
told (Err TooLarge) = record { number = 2; named = 0 ∷ [] }
told (Err Broken) = record { number = 5; named = [] }

-- ---- what a call hands back

abbrev pub giving : Links → Result (Unit {0}) Refusal → Sent → Outcome
giving next answer sent = record { next = next; answer = answer; sent = sent }

abbrev pub taken : Links → Sent → Outcome
taken next sent = giving next (Ok tt) sent

-- "that state handed back", and nothing sent
abbrev pub refused : Links → Refusal → Outcome
refused l refusal = giving l (Err refusal) silence

-- 5 before 2
abbrev pub unless_refused : Links → ℕ → Outcome → Outcome
unless_refused l v o = cond (in_range l) (cond (ltb 127 v) (refused l TooLarge) o) (refused l Broken)

-- ---- the host chooses a table

-- what is unfinished stays
abbrev pub with_table : Links → Table → Links
with_table l t = record { table = t; unfinished = l.unfinished }

unfoldable pub choosing : Links → Table → Outcome
choosing l t = cond (in_range l) (taken (with_table l t) silence) (refused l Broken)

abbrev pub with_local : Links → Outcome
with_local l = choosing l local_table

abbrev pub with_connected : Links → Outcome
with_connected l = choosing l connected_table

-- ---- a value is handed in

-- what was heard from an ear: its own sequence follows, and its order is obeyed
unfoldable pub taking : Links → Ear → Heard → Outcome
taking l e h =
    let done = obeyed l.table (name_of e) h.order in taken (left l e done.table h.unfinished) done.sent

unfoldable pub from_ear : Links → Ear → ℕ → Outcome
from_ear l e v = unless_refused l v (taking l e (heard (unfinished l e) v))

abbrev pub from_modem : Links → ℕ → Outcome
from_modem l v = from_ear l modem v

abbrev pub from_socket : Links → ℕ → Outcome
from_socket l v = from_ear l socket v

-- "Commands are heard from modem and socket only": a key is passed on, whatever it is
unfoldable pub from_keyboard : Links → ℕ → Outcome
from_keyboard l v = unless_refused l v (taken l (obeyed l.table Keyboard (Pass v)).sent)
