-- What each call answers, hands back and hands out, for any board and any value (01, "Numbers given"). Assumes
-- nothing.
use Rattle.std.specs.Prelude.{Result, Ok, Err, cond, [], ℕ}
use Rattle.line_receiver.specs.declared.Stepped.{Stepped}
use Rattle.line_receiver.specs.Calls.{stepped, switched_on as receiver_on, switched_off as receiver_off}
use Rattle.line_receiver.specs.Calls.{asked_again as receiver_asked}
use Rattle.links_sending.specs.Sending.{gets}
use Rattle.links.specs.declared.Refusal.{Refusal}
use Rattle.links.specs.declared.Refusal.TheVariants.{Broken}
use Rattle.links.specs.declared.Outcome.{Outcome as LinksOutcome}
use Rattle.links.specs.Calls.{from_keyboard, from_socket, with_local as links_local, with_connected as links_connected}
use Rattle.few.specs.Bytes.{few, contents}
use Rattle.board_feeding.specs.Feeding.{outlet, shares_of}
use Rattle.screen.specs.Calls.{ran}
use Rattle.board_front.specs.declared.Front.{Front}
use Rattle.board_front.specs.declared.Heard.{Heard}
use Rattle.board_front.specs.LineBytes.{sent_on}
use Rattle.board.specs.declared.Board.{Board}
use Rattle.board.specs.declared.Outcome.{Outcome}
use Rattle.board.specs.Boards.{in_range}

-- ---- what a call hands back

-- the board as it was, and nothing handed out
abbrev pub refused : Board → Refusal → Outcome
refused b refusal =
    record {
      next = b;
      answer = Err refusal;
      keyboard = outlet [];
      modem = outlet [];
      socket = outlet [];
      request = few 2 [];
    }

-- the receiver and the links that have heard, the screen with its share written, and the rest handed out
abbrev pub joined : Board → Heard → Result (Unit {0}) Refusal → Outcome
joined b h a =
    record {
      next = record {
        receiver = h.front.receiver;
        links = h.front.links;
        screen = (ran b.screen (contents h.shares.screen)).screen;
      };
      answer = a;
      keyboard = h.shares.keyboard;
      modem = h.shares.modem;
      socket = h.shares.socket;
      request = h.request;
    }

-- ---- the receiver's calls: what it hands out is sent on

abbrev pub followed : Board → Stepped → Outcome
followed b s = joined b (sent_on b.links s) (Ok tt)

unfoldable pub following : Board → Stepped → Outcome
following b s = cond (in_range b) (followed b s) (refused b Broken)

abbrev pub at_line : Board → ℕ → Outcome
at_line b x = following b (stepped b.receiver x)

abbrev pub switched_on : Board → Outcome
switched_on b = following b (receiver_on b.receiver)

abbrev pub switched_off : Board → Outcome
switched_off b = following b (receiver_off b.receiver)

abbrev pub asked_again : Board → Outcome
asked_again b = following b (receiver_asked b.receiver)

-- ---- the links' calls: what they send goes its way, and their answer is the board's

-- the receiver hears nothing
abbrev pub heard_of : Board → LinksOutcome → Heard
heard_of b o =
    let front : Front = record { receiver = b.receiver; links = o.next } in
    record { front = front; shares = shares_of (gets o.sent); request = few 2 [] }

abbrev pub passed_on : Board → LinksOutcome → Outcome
passed_on b o = joined b (heard_of b o) o.answer

unfoldable pub passing : Board → LinksOutcome → Outcome
passing b o = cond (in_range b) (passed_on b o) (refused b Broken)

abbrev pub at_key : Board → ℕ → Outcome
at_key b v = passing b (from_keyboard b.links v)

abbrev pub at_socket : Board → ℕ → Outcome
at_socket b v = passing b (from_socket b.links v)

abbrev pub with_local : Board → Outcome
with_local b = passing b (links_local b.links)

abbrev pub with_connected : Board → Outcome
with_connected b = passing b (links_connected b.links)
