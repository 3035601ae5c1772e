-- `board_pieces::hear_piece` meets its contract. Assumes nothing.
use Rattle.std.proofs.Common.{◌≡◌, refl, sym, ap, ◌∙◌, Bool, true, false, ◌&&◌, List, ℕ, leb, length, rules}
use Rattle.laws.proofs.Lists.{length_mapped}
use Rattle.links_wiring.specs.declared.Module.TheVariants.{Keyboard, Modem, Socket}
use Rattle.board_front.specs.Fitting.{within, needed}
use Rattle.board.specs.Boards.{in_range, front_of}
use Rattle.board.specs.Runs.{InBoard}
use Rattle.board.proofs.Ranges.{passed_in}
use Rattle.board_passing.specs.Passing.{room_of}
use Rattle.board_pieces.specs.Pieces.{handed, asked, is_taken, left_in}
use Rattle.board_pieces.specs.Noted.{noted}
use Rattle.board_pieces.proofs.Single.{taken_is, short_is, is_taken_lem, broken_is, all_handed, all_written}
use Rattle.board_pieces.proofs.Noting.{all_noted}
use Rattle.board_pieces.proofs.Taken.{untouched, same}
use Rattle.board_pieces.proofs.hear_piece.Goals as goal

pub returns-then-not-in_range : goal.returns-then-not-in_range
returns-then-not-in_range c =
    let b = c.args.board in
    let xs = c.args.piece.now in
    let o = c.args.outputs.now in
    let e : in_range b ≡ false = sym c.in_range.ensures ∙ c.if-not-in_range.true in
    let n = broken_is b xs (room_of o) e in record {
      value = c.refuse.ensures ∙ n.0;
      left = untouched b xs o n.1;
      same = record { keyboard = refl; modem = refl; socket = refl; requests = refl };
      noted = same (ap (λ (t : Bool). t && leb (length xs) (length c.args.notes.now)) n.1) (noted b xs) c.args.notes.now;
    }

pub returns-then-not-fits : goal.returns-then-not-fits
returns-then-not-fits c =
    let b = c.args.board in
    let xs = c.args.piece.now in
    let o = c.args.outputs.now in
    let g = c.well_formed.0 in
    let range : in_range b ≡ true = sym c.in_range.ensures ∙ c.if-not-in_range.false in
    let whole : InBoard b = passed_in b (search (rules, g)) (search (rules, length_mapped, g)) range in
    let w : within (needed (front_of b) xs) (room_of o) ≡ false =
    ap (within (needed (front_of b) xs)) (sym c.room.ensures) ∙ sym c.fits.ensures ∙ c.if-not-fits.true in
    let t : is_taken b xs (room_of o) ≡ false = is_taken_lem b whole xs (room_of o) false range w in record {
      value = c.refuse-then-not-fits.ensures ∙ short_is b whole xs (room_of o) range w;
      left = untouched b xs o t;
      same = record { keyboard = refl; modem = refl; socket = refl; requests = refl };
      noted = same (ap (λ (u : Bool). u && leb (length xs) (length c.args.notes.now)) t) (noted b xs) c.args.notes.now;
    }

pub returns : goal.returns
returns c =
    let b = c.args.board in
    let xs = c.args.piece.now in
    let o = c.args.outputs.now in
    let g = c.well_formed.0 in
    let range : in_range b ≡ true = sym c.in_range.ensures ∙ c.if-not-in_range.false in
    let whole : InBoard b = passed_in b (search (rules, g)) (search (rules, length_mapped, g)) range in
    let w : within (needed (front_of b) xs) (room_of o) ≡ true =
    ap (within (needed (front_of b) xs)) (sym c.room.ensures) ∙ sym c.fits.ensures ∙ c.if-not-fits.false in
    let e = c.play-played.ensures in
    let y : is_taken b xs (room_of o) ≡ true = is_taken_lem b whole xs (room_of o) true range w in
    let all = all_written b xs o.keyboard.now o.modem.now o.socket.now o.requests.now w whole in
    let taken : (vs out : List ℕ) → left_in true vs out ≡ left_in (is_taken b xs (room_of o)) vs out =
    λ vs out. sym (ap (λ (u : Bool). left_in u vs out) y) in record {
      value = all_handed b xs o.keyboard.now o.modem.now o.socket.now o.requests.now w e.value
          ∙ taken_is b whole xs (room_of o) range w;
      left = record {
        keyboard = e.keys ∙ all.0 ∙ taken (handed Keyboard b xs) o.keyboard.now;
        modem = e.line ∙ all.1 ∙ taken (handed Modem b xs) o.modem.now;
        socket = e.port ∙ all.2 ∙ taken (handed Socket b xs) o.socket.now;
        requests = e.asked ∙ all.3 ∙ taken (asked b xs) o.requests.now;
      };
      same = e.same;
      noted = e.noted ∙ all_noted b.receiver xs c.args.notes.now
          ∙ sym (ap (λ (u : Bool). left_in (u && leb (length xs) (length c.args.notes.now)) (noted b xs) c.args.notes.now) y);
    }
