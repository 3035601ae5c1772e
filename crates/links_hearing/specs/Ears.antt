-- The two modules that are heard for commands (01, "Links and commands"). Assumes nothing.
use Rattle.std.specs.Prelude.{Bool, ◌&&◌}
use Rattle.links_wiring.specs.declared.Module.{Module}
use Rattle.links_wiring.specs.declared.Module.TheVariants.{Modem, Socket}
use Rattle.links_hearing.specs.declared.Unfinished.{Unfinished}
use Rattle.links_hearing.specs.declared.Unfinished.TheVariants.{Free}
use Rattle.links_hearing.specs.declared.ears.Sequences.{Sequences}
use Rattle.links_hearing.specs.declared.ears.Ear.{Ear}
use Rattle.links_hearing.specs.declared.ears.Ear.TheVariants.{Modem as modem, Socket as socket}
use Rattle.links_hearing.specs.Hearing.{in_range}

-- "Commands are heard from modem and socket only"
abbrev pub name_of : Ear → Module
name_of modem = Modem
name_of socket = Socket

-- "each of the two has its own unfinished sequence"
abbrev pub own_of : Ear → Unfinished → Unfinished → Unfinished
own_of modem m s = m
own_of socket m s = s

-- nothing unfinished from either
abbrev pub free : Sequences
free = record { modem = Free; socket = Free }

-- with this unfinished from an ear; the other's stays
abbrev pub going_on : Sequences → Ear → Unfinished → Sequences
going_on s modem u = record { modem = u; socket = s.socket }
going_on s socket u = record { modem = s.modem; socket = u }

-- "each at most 127"
abbrev pub both_in_range : Sequences → Bool
both_in_range s = in_range s.modem && in_range s.socket
