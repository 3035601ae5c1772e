-- `board_playing::play` meets its contract. Assumes nothing.
use Rattle.std.proofs.Common.{◌≡◌, ◌-◌, ◌≤◌, length, take}
use Rattle.links_wiring.specs.declared.Module.TheVariants.{Screen}
use Rattle.board_front.specs.declared.Front.{Front}
use Rattle.board_front.specs.LineBytes.{to_each}
use Rattle.line_turns.specs.Notes.{notes_of}
use Rattle.board_passing.specs.Passing.{SameOutputs}
use Rattle.board_playing.proofs.SoFar.{SoFar, notes_left}
use Rattle.board_playing.proofs.Gathered.{Shown}
use Rattle.board_playing.proofs.play.Given as goal

abbrev pub invariant-loop-i : goal.invariant-loop-i
invariant-loop-i l =
    let f : Front = record { receiver = l.initial.receiver; links = l.initial.state.links } in
    let ys = take l.i l.piece in
    let o = l.initial.outputs in record {
      within : l.i ≤ length l.piece;
      outputs : SoFar f ys o.keyboard.now o.modem.now o.socket.now o.requests.now l.receiver l.state
          l.outputs.keyboard.now l.outputs.modem.now l.outputs.socket.now l.outputs.requests.now;
      same : SameOutputs o l.outputs;
      shown : Shown l.initial.screen (to_each Screen f ys) l.screen l.gathered l.state.gathered;
      notes : l.notes ≡ notes_left l.noted (notes_of l.initial.receiver ys) l.initial.notes;
      held : length l.receiver.held ≡ 17;
    }

abbrev pub decreases-loop-i : goal.decreases-loop-i
decreases-loop-i l = length l.piece - l.i
