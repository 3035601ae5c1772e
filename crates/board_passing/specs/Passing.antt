-- Values handed to the links as the modem's, and what each module gets of them written to its output. Assumes nothing.
use Rattle.std.specs.Prelude.{◌≡◌, List, ℕ}
use Rattle.lent.specs.Memory.{written, behind}
use Rattle.links_wiring.specs.declared.Each.{Each}
use Rattle.links_wiring.specs.declared.Module.TheVariants.{Screen, Keyboard, Modem, Socket}
use Rattle.links.specs.declared.Links.{Links}
use Rattle.links.specs.Runs.{run}
use Rattle.board_feeding.specs.Feeding.{from_line, got}
use Rattle.board_front.specs.declared.Room.{Room}
use Rattle.board_front.specs.Fitting.{room_in}
use Rattle.board_passing.specs.declared.Onward.{Onward}
use Rattle.board_passing.specs.declared.Outputs.{Outputs}

-- bytes for each module, or its output: what is gathered for the screen, and the others'
abbrev pub Outs : Type 0
Outs = Each (List ℕ)

abbrev pub outs : List ℕ → List ℕ → List ℕ → List ℕ → Outs
outs g k m s = record { screen = g; keyboard = k; modem = m; socket = s }

-- what is gathered for the screen, and what the lent outputs hold
abbrev pub held : List ℕ → Outputs → Outs
held g o = outs g o.keyboard.now o.modem.now o.socket.now

-- the room in each of the four
abbrev pub room_of : Outputs → Room
room_of o = room_in o.keyboard.now o.modem.now o.socket.now o.requests.now

-- the same outputs are lent
pub record SameOutputs (o p : Outputs) : Type 0 where
  pub keyboard : p.keyboard.ghost_name ≡ o.keyboard.ghost_name
  pub modem : p.modem.ghost_name ≡ o.modem.ghost_name
  pub socket : p.socket.ghost_name ≡ o.socket.ghost_name
  pub requests : p.requests.ghost_name ≡ o.requests.ghost_name

-- what each gets of some values
abbrev pub sent_all : Links → List ℕ → Outs
sent_all l vs =
    outs (got Screen l (from_line vs)) (got Keyboard l (from_line vs)) (got Modem l (from_line vs))
    (got Socket l (from_line vs))

-- these bytes written to the outputs, and the places behind them
abbrev pub written_all : Outs → ℕ → Room → Outs → Outs
written_all o g u w =
    outs (written o.screen g w.screen) (written o.keyboard u.keyboard w.keyboard)
    (written o.modem u.modem w.modem) (written o.socket u.socket w.socket)

abbrev pub behind_all : Links → Outs → ℕ → Room → Outs → Onward
behind_all l o g u w =
    record {
      links = l;
      gathered = behind o.screen g w.screen;
      used =
          record {
            keyboard = behind o.keyboard u.keyboard w.keyboard;
            modem = behind o.modem u.modem w.modem;
            socket = behind o.socket u.socket w.socket;
            requests = u.requests;
          };
    }

-- the links behind the values with those places, and the outputs
unfoldable pub onward : Links → List ℕ → ℕ → Room → Outs → Onward
onward l vs g u o = behind_all (run l (from_line vs)) o g u (sent_all l vs)

unfoldable pub handed_out : Links → List ℕ → ℕ → Room → Outs → Outs
handed_out l vs g u o = written_all o g u (sent_all l vs)
