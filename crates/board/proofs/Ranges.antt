-- The test that the calls make passes just the boards whose parts are in range. Assumes nothing.
use mathlib.Core.Path.{◌≡◌, refl}
use mathlib.Core.Bool.{true, ◌&&◌, not}
use lib.ListN.{length}
use Rattle.laws.proofs.Computed.{and_left, and_right, holds, is_true}
use Rattle.values.specs.Large.{Values}
use Rattle.values.proofs.Found.{values_none}
use Rattle.links_wiring.specs.declared.Module.TheVariants.{Screen, Keyboard, Modem, Socket}
use Rattle.links_wiring.specs.Tables.{NoneItself}
use Rattle.links_hearing.specs.Hearing.{codes_of}
use Rattle.links_hearing.specs.declared.ears.Ear.{Ear}
use Rattle.links_hearing.specs.declared.ears.Ear.TheVariants.{Modem as modem, Socket as socket}
use Rattle.line_receiver.specs.States.{in_range as receiver_in_range}
use Rattle.line_receiver.proofs.Kept.{new_in}
use Rattle.links.specs.States.{unfinished, in_range as links_in_range}
use Rattle.links.specs.Runs.{InLinks}
use Rattle.links.proofs.Ranges.{not_true, passed, tested as links-tested}
use Rattle.screen_page.specs.Ranges.{broken}
use Rattle.screen_page.proofs.Stays.{true_screen, whole, unbroken, fresh_in_range}
use Rattle.board.specs.declared.Board.{Board}
use Rattle.board.specs.Boards.{fresh_board, in_range}
use Rattle.board.specs.Runs.{InBoard}

pub tested : (b : Board) → InBoard b → in_range b ≡ true
unfolding in_range
tested b i = simp (i.receiver.range, passed b.links i.links, unbroken i.screen)

fresh_links : InLinks fresh_board.links
fresh_links = record { none_itself = alone; small = none }
  where
    alone : NoneItself fresh_board.links.table
    alone Screen = refl
    alone Keyboard = refl
    alone Modem = refl
    alone Socket = refl

    none : (e : Ear) → Values (codes_of (unfinished fresh_board.links e))
    none modem = values_none
    none socket = values_none

pub fresh_in : InBoard fresh_board
fresh_in = record { receiver = new_in; links = fresh_links; screen = fresh_in_range }

-- what the test passes is in range: the arrays of every board have their lengths
pub passed_in : (b : Board) → length b.receiver.held ≡ 17 → length b.screen.cells ≡ 1000 → in_range b ≡ true
    → InBoard b
unfolding in_range
passed_in b held cells e =
    let r = receiver_in_range b.receiver in
    let l = links_in_range b.links in
    let s = not (broken b.screen) in
    let rest = and_right r (l && s) (holds e) in
    record {
      receiver = record { range = is_true r (and_left r (l && s) (holds e)); array = held };
      links = links-tested b.links (is_true l (and_left l s rest));
      screen = true_screen b.screen cells (whole b.screen (not_true (broken b.screen) (and_right l s rest)));
    }
