-- Line bytes heard by the receiver and the links behind it (01, "What the board does"). Assumes nothing.
use Rattle.std.specs.Prelude.{List, [], ◌∷◌, ◌++◌, map, ℕ}
use Rattle.few.specs.Bytes.{few, contents}
use Rattle.links_wiring.specs.declared.Module.{Module}
use Rattle.line_receiver.specs.declared.Receiver.{Receiver}
use Rattle.line_receiver.specs.declared.Stepped.{Stepped}
use Rattle.line_receiver.specs.Calls.{stepped}
use Rattle.line_receiver.specs.Runs.{Event, byte, run as receiver_run, sent_by, sent, all_asked}
use Rattle.links.specs.declared.Links.{Links}
use Rattle.links.specs.Runs.{Call, run as links_run}
use Rattle.board_feeding.specs.Feeding.{from_line, got, nobody, fed}
use Rattle.board_front.specs.declared.Front.{Front}
use Rattle.board_front.specs.declared.Heard.{Heard}

-- what the receiver hands out: its values go through the links as the modem's, and its request out
abbrev pub sent_on : Links → Stepped → Heard
sent_on l s =
    let g = fed l (contents s.values) in
    record {
      front = record { receiver = s.next; links = g.links };
      shares = g.shares;
      request = s.request;
    }

-- one byte
unfoldable pub heard_by : Front → ℕ → Heard
heard_by f x = sent_on f.links (stepped f.receiver x)

-- nothing is heard: the receiver and the links as they were, and nothing for anybody
abbrev pub unheard : Front → Heard
unheard f = record { front = f; shares = nobody; request = few 2 [] }

-- ---- many bytes

abbrev pub bytes : List ℕ → List Event
bytes xs = map byte xs

-- the calls of the links that come of them
unfoldable pub calls : Receiver → List ℕ → List Call
calls r [] = []
calls r (x ∷ xs) = from_line (sent_by (stepped r x)).passed ++ calls (stepped r x).next xs

abbrev pub behind : Front → List ℕ → Front
behind f xs =
    record { receiver = receiver_run f.receiver (bytes xs); links = links_run f.links (calls f.receiver xs) }

abbrev pub to_each : Module → Front → List ℕ → List ℕ
to_each m f xs = got m f.links (calls f.receiver xs)

abbrev pub asks : Front → List ℕ → List ℕ
asks f xs = all_asked (sent f.receiver (bytes xs))
