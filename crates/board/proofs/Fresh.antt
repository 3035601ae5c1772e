-- What a fresh board is: off, with the local table, and blank. Assumes nothing.
use mathlib.Core.Path.{◌≡◌, refl}
use mathlib.Core.Bool.{false}
use mathlib.Core.List.{[], ◌∷◌}
use lib.ListN.{replicate}
use Rattle.line_phases.specs.declared.Phase.TheVariants.{Off}
use Rattle.links_replies.specs.Replies.{status_of, statuses_of}
use Rattle.links_hearing.specs.declared.Unfinished.TheVariants.{Free}
use Rattle.links_hearing.specs.declared.ears.Ear.{Ear}
use Rattle.links_hearing.specs.declared.ears.Ear.TheVariants.{Modem as modem, Socket as socket}
use Rattle.links.specs.States.{unfinished}
use Rattle.screen_page.specs.Pages.{fresh_screen}
use Rattle.board.specs.Boards.{fresh_board}

pub fresh_receiver : (fresh_board.receiver.phase ≡ Off) × (fresh_board.receiver.number ≡ 0)
    × (fresh_board.receiver.count ≡ 0)
fresh_receiver = (refl, refl, refl)

-- the statuses of screen, keyboard, modem and socket
pub fresh_statuses : statuses_of fresh_board.links.table ≡ 77 ∷ 66 ∷ 70 ∷ 74 ∷ []
unfolding status_of
fresh_statuses = refl

pub fresh_free : (e : Ear) → unfinished fresh_board.links e ≡ Free
fresh_free modem = refl
fresh_free socket = refl

pub fresh_screen_lem :
    (fresh_board.screen.cells
    ≡ replicate 1000 (record { character = record { set = 1; code = 32 }; ink = 7; ground = 0; flash = false; inverse = false }))
    × (fresh_board.screen.pen.here.place.row ≡ 1) × (fresh_board.screen.pen.here.place.column ≡ 1)
    × (fresh_board.screen.pen.shown ≡ false)
unfolding fresh_screen
fresh_screen_lem = (refl, refl, refl, refl)
