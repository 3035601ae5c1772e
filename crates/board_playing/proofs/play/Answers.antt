-- `board_playing::play` meets its contract. Assumes nothing.
use Rattle.std.proofs.Common.{◌≡◌, refl, ap, ap₂, ◌∙◌, Bool, true, false, List, [], ◌∷◌, ◌++◌, ℕ, ◌+◌, ◌-◌, ◌≤◌, leb, length, take, take_all, replicate, rules, arith}
use mathlib.Core.Path.{subst⁻¹}
use Prim.Native.Nat.{zero-le}
use Rattle.std.proofs.Math.ListN.{length-replicate}
use borrow.Author.Tests.{leb-true}
use Rattle.laws.proofs.Lists.{length_mapped}
use Rattle.few.specs.Bytes.{contents}
use Rattle.lent.specs.Memory.{written, behind}
use Rattle.values.specs.Large.{Values}
use Rattle.links_wiring.specs.declared.Module.TheVariants.{Screen}
use Rattle.board_feeding.specs.Feeding.{from_line, got}
use Rattle.board_feeding.proofs.Suffices.{small_got, suffices}
use Rattle.screen_page.specs.declared.Screen.{Screen as Page}
use Rattle.screen.specs.Calls.{ran}
use Rattle.board_front.specs.declared.Front.{Front}
use Rattle.board_front.specs.declared.Room.{Room}
use Rattle.board_front.specs.LineBytes.{calls, to_each}
use Rattle.board.specs.Boards.{front_of}
use Rattle.board_passing.specs.declared.Onward.{Onward}
use Rattle.board_passing.specs.Passing.{onward}
use Rattle.line_turns.specs.declared.Turn.{Turn}
use Rattle.line_turns.specs.Notes.{notes_of}
use Rattle.board_playing.proofs.SoFar.{SoFar, begun_none, each, notes_then, played_on, gathered_on, turned}
use Rattle.board_playing.proofs.SoFar.{all_played, notes_left, notes_long, notes_on, noted_so_far}
use Rattle.board_playing.proofs.Gathered.{Shown, begun, whole, flushed, added}
use Rattle.board_playing.proofs.play.Goals as goal
use Rattle.board_playing.proofs.play.Goals.{then-state, else-state}

none_noted : (t : Bool) (out : List ℕ) → out ≡ notes_left t [] out
none_noted true out = (begun_none out).bytes
none_noted false out = refl

pub loop-i-init : goal.loop-i-init
unfolding calls got
loop-i-init c =
    let a = c.args in
    let o = a.outputs.now in
    let Unwritten : Room → Type 0 =
    λ u. SoFar (front_of a.board) [] o.keyboard.now o.modem.now o.socket.now o.requests.now a.board.receiver
    (record { links = a.board.links; gathered = 0; used = u })
    o.keyboard.now o.modem.now o.socket.now o.requests.now in
    let g = c.well_formed.0 in record {
      within = zero-le;
      outputs = subst⁻¹ Unwritten c.none.ensures (record {
        front = refl;
        keyboard = begun_none o.keyboard.now;
        modem = begun_none o.modem.now;
        socket = begun_none o.socket.now;
        requests = begun_none o.requests.now;
      });
      same = record { keyboard = refl; modem = refl; socket = refl; requests = refl };
      shown = begun a.board.screen (replicate 4096 0) (length-replicate {A = ℕ} 4096 0);
      notes = none_noted (leb (length a.piece.now) (length a.notes.now)) a.notes.now;
      held = search (rules, g);
    }

pub note-requires : goal.note-requires
note-requires c =
    let a = c.args in
    let l = c.loop-i in
    let t = turned l.receiver a.piece.now l.i c.take_turn-turn.result l.invariant.held c.loop-i-test.true c.take_turn-turn.ensures in
    let noted : Bool = leb (length a.piece.now) (length a.notes.now) in
    let long : length l.notes ≡ length a.notes.now =
    ap length l.invariant.notes ∙ notes_long noted (notes_of a.board.receiver (take l.i a.piece.now)) a.notes.now in
    record {
      took_nonzero = t.taken.some;
      took_in_bounds = λ e. omega (arith, leb-true (length a.piece.now) (length a.notes.now) e, t.within, long);
    }

pub overflow_add-i : goal.overflow_add-i
overflow_add-i c =
    let l = c.loop-i in
    let t = turned l.receiver c.args.piece.now l.i c.take_turn-turn.result l.invariant.held c.loop-i-test.true c.take_turn-turn.ensures in
    let within : l.i + c.take_turn-turn.result.took ≤ length c.args.piece.now = t.within in
    search (rules, within)

pub loop-i-smaller : goal.loop-i-smaller
loop-i-smaller c =
    let l = c.loop-i in
    let t = turned l.receiver c.args.piece.now l.i c.take_turn-turn.result l.invariant.held c.loop-i-test.true c.take_turn-turn.ensures in
    omega (arith, t.within, t.taken.some)

-- what is asked goes to an output and a place that passing values on leaves as they were
asked_on : {A : Type 0} (put : List ℕ → ℕ → List ℕ → A) {out out' : List ℕ} {at at' : ℕ} {ws ws' : List ℕ}
    → out ≡ out' → at ≡ at' → ws ≡ ws' → put out at ws ≡ put out' at' ws'
asked_on put {out} {out'} {at} {at'} {ws} {ws'} o a w =
    ap₂ (λ (l : List ℕ) (n : ℕ). put l n ws) o a ∙ ap (put out' at') w

-- the screen given what is gathered, or not, and then what the turn hands on
pub loop-i-preserved : goal.loop-i-preserved
unfolding onward
loop-i-preserved c =
    let a = c.args in
    let l = c.loop-i in
    let turn : Turn = c.take_turn-turn.result in
    let xs : List ℕ = a.piece.now in
    let i : ℕ = l.i in
    let f : Front = front_of a.board in
    let noted : Bool = leb (length xs) (length a.notes.now) in
    let t = turned l.receiver xs i turn l.invariant.held c.loop-i-test.true c.take_turn-turn.ensures in
    let all : List ℕ = to_each Screen f (take i xs) in
    let g = c.well_formed.0 in
    let thousand : length a.board.screen.cells ≡ 1000 = search (rules, length_mapped, g) in
    let fifteen : length turn.stepped.values.codes ≡ 15 = search (rules, c.take_turn-turn.type_inv) in
    let seventeen : length turn.stepped.next.held ≡ 17 = search (rules, c.take_turn-turn.type_inv) in
    let small : Values all = small_got Screen f.links (calls f.receiver (take i xs)) in
    let j = c.if-state in
    let o = a.outputs.now in
    let Gathering : Page → Onward → Type 0 =
    λ u p. Shown a.board.screen all u l.gathered p.gathered
    × SoFar f (take i xs) o.keyboard.now o.modem.now o.socket.now o.requests.now l.receiver p
    l.outputs.keyboard.now l.outputs.modem.now l.outputs.socket.now l.outputs.requests.now
    × (p.gathered ≤ 4021) in
    let now : Gathering j.screen j.state =
    elim j.branch [
      | then-state w ↦
          subst⁻¹ (Gathering j.screen) w.state-is (
            flushed l.invariant.shown thousand small j.screen
                (w.screen-is ∙ w.show-screen.ensures ∙ ap (λ (vs : List ℕ). (ran l.screen vs).screen) w.first.ensures),
            record {
              front = l.invariant.outputs.front;
              keyboard = l.invariant.outputs.keyboard;
              modem = l.invariant.outputs.modem;
              socket = l.invariant.outputs.socket;
              requests = l.invariant.outputs.requests;
            },
            zero-le,
          )
      | else-state w ↦
          subst⁻¹ (λ (u : Page). Gathering u j.state) w.screen-is
          (subst⁻¹ (Gathering l.screen) w.state-is (l.invariant.shown, l.invariant.outputs, omega (arith, w.if-state.false)))
    ] in
    let p = j.state in
    let shown_now : List ℕ = got Screen p.links (from_line (contents turn.stepped.values)) in
    let shown_few : length shown_now ≤ 75 =
    suffices Screen p.links turn.stepped.values.codes turn.stepped.values.count (omega (arith, fifteen)) in
    let x = c.pass_on-state.ensures in
    let put = c.add-state.ensures in
    let place_then : c.pass_on-state.result.used.requests ≡ p.used.requests =
    ap (λ (y : Onward). y.used.requests) x.value in
    let ns = notes_of f.receiver (take i xs) in
    let on = gathered_on f xs i turn now.1 t.taken p.gathered l.gathered x.value x.left in
    let place : noted ≡ true → i ≡ behind a.notes.now 0 ns =
    λ e. omega (
      arith,
      leb-true (length xs) (length a.notes.now) e,
      c.loop-i-test.true,
      noted_so_far f.receiver xs i (omega (arith, c.loop-i-test.true)),
    ) in record {
      within = t.within;
      outputs = played_on f xs i turn now.1 t.taken p.gathered l.gathered x.value x.left
          (put.value ∙ asked_on behind x.unasked place_then c.bytes-asked.ensures)
          (put.left ∙ asked_on written x.unasked place_then c.bytes-asked.ensures);
      same = record {
        keyboard = x.same.keyboard ∙ l.invariant.same.keyboard;
        modem = x.same.modem ∙ l.invariant.same.modem;
        socket = x.same.socket ∙ l.invariant.same.socket;
        requests = x.same.requests ∙ l.invariant.same.requests;
      };
      shown = added now.0 shown_now (omega (arith, shown_few, now.2)) on.0 on.1 (each f xs i turn now.1 t.taken Screen);
      notes = c.note.ensures
          ∙ notes_on noted ns (replicate (turn.took - 1) 0 ++ (turn.note ∷ []))
          (notes_of f.receiver (take (i + turn.took) xs)) a.notes.now l.notes i
          l.invariant.notes place (notes_then f xs i turn now.1 t.taken);
      held = seventeen;
    }

pub returns-clause-value : goal.returns-clause-value
returns-clause-value c =
    let a = c.args in
    let l = c.loop-i in
    let f : Front = front_of a.board in
    let g = c.well_formed.0 in
    let thousand : length a.board.screen.cells ≡ 1000 = search (rules, length_mapped, g) in
    let e : take l.i a.piece.now ≡ a.piece.now = take_all l.i a.piece.now (omega arith) in
    let small = small_got Screen f.links (calls f.receiver (take l.i a.piece.now)) in
    all_played a.board l.invariant.outputs
    (c.show.ensures ∙ ap (λ (vs : List ℕ). (ran l.screen vs).screen) c.first-2.ensures ∙ whole l.invariant.shown thousand small) e
