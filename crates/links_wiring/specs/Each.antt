-- One thing for each module (01, "Links and commands"). Assumes nothing.
use Rattle.std.specs.Prelude.{Bool, cond}
use Rattle.links_wiring.specs.declared.Module.{Module}
use Rattle.links_wiring.specs.declared.Module.TheVariants.{Screen, Keyboard, Modem, Socket}
use Rattle.links_wiring.specs.declared.Each.{Each}

-- the receivers that one sender reaches
abbrev pub Row : Type 0
Row = Each Bool

-- a row for each sender
abbrev pub Table : Type 0
Table = Each Row

-- the same for every module
abbrev pub all : {T : Type 0} → T → Each T
all x = record { screen = x; keyboard = x; modem = x; socket = x }

-- that of one module
abbrev pub of : {T : Type 0} → Each T → Module → T
of e Screen = e.screen
of e Keyboard = e.keyboard
of e Modem = e.modem
of e Socket = e.socket

-- with another for one module
abbrev pub with : {T : Type 0} → Each T → Module → T → Each T
with e Screen x = record { screen = x; keyboard = e.keyboard; modem = e.modem; socket = e.socket }
with e Keyboard x = record { screen = e.screen; keyboard = x; modem = e.modem; socket = e.socket }
with e Modem x = record { screen = e.screen; keyboard = e.keyboard; modem = x; socket = e.socket }
with e Socket x = record { screen = e.screen; keyboard = e.keyboard; modem = e.modem; socket = x }

-- one thing for each module that a row marks, and another for each that it does not
abbrev pub either : {T : Type 0} → Row → T → T → Each T
either w x y =
    record {
      screen = cond w.screen x y;
      keyboard = cond w.keyboard x y;
      modem = cond w.modem x y;
      socket = cond w.socket x y;
    }
