-- Values handed to the links one after the other (01, "Links and commands"). Assumes nothing.
use Rattle.std.specs.Prelude.{List, [], ◌∷◌, ◌++◌, map, ℕ, ◌+◌, ◌≤◌, length, take, drop}
use Rattle.few.specs.declared.Few.{Few}
use Rattle.few.specs.Bytes.{few, contents}
use Rattle.links_wiring.specs.declared.Module.{Module}
use Rattle.links_wiring.specs.declared.Module.TheVariants.{Screen, Keyboard, Modem, Socket}
use Rattle.links_wiring.specs.declared.Each.{Each}
use Rattle.links_sending.specs.Sending.{Sent}
use Rattle.links.specs.declared.Links.{Links}
use Rattle.links_hearing.specs.declared.ears.Ear.TheVariants.{Modem as modem}
use Rattle.links.specs.Runs.{Call, value, obey, given, run}
use Rattle.board_feeding.specs.declared.Fed.{Fed}

-- ---- runs of the links

-- values of the modem, one call each
abbrev pub from_line : List ℕ → List Call
from_line vs = map (value modem) vs

-- all that a module gets in a run, in its order
unfoldable pub got : Module → Links → List Call → List ℕ
got m l [] = []
got m l (c ∷ cs) = given l c m ++ got m (obey c l).next cs

-- ---- what a module gets, in seventy-five places

-- the bytes, and 0 past them
abbrev pub outlet : List ℕ → Few 75
outlet vs = few 75 vs

-- what each module gets
abbrev pub Shares : Type 0
Shares = Each (Few 75)

abbrev pub shares_of : (Module → List ℕ) → Shares
shares_of g =
    record {
      screen = outlet (g Screen);
      keyboard = outlet (g Keyboard);
      modem = outlet (g Modem);
      socket = outlet (g Socket);
    }

abbrev pub nobody : Shares
nobody = shares_of (λ m. [])

-- ---- handing on

-- the links after these values, and what each module got of them
unfoldable pub fed : Links → List ℕ → Fed
fed l vs = record { links = run l (from_line vs); shares = shares_of (λ m. got m l (from_line vs)) }

-- the places suffice
pub record Enough (w : Shares) : Type 0 where
  pub screen : w.screen.count ≤ 75
  pub keyboard : w.keyboard.count ≤ 75
  pub modem : w.modem.count ≤ 75
  pub socket : w.socket.count ≤ 75

-- ---- one more call's bytes behind those there are

abbrev pub appended : Few 75 → Few 5 → Few 75
appended o b =
    record {
      codes = take o.count o.codes ++ contents b ++ drop (o.count + length (contents b)) o.codes;
      count = o.count + length (contents b);
    }

abbrev pub gathered : Shares → Sent → Shares
gathered w s =
    record {
      screen = appended w.screen s.screen;
      keyboard = appended w.keyboard s.keyboard;
      modem = appended w.modem s.modem;
      socket = appended w.socket s.socket;
    }
