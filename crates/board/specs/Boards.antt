-- A board: receiver, links and screen (01, "What the board does"). Assumes nothing.
use Rattle.std.specs.Prelude.{Bool, ◌&&◌, not}
use Rattle.line_receiver.specs.States.{new_receiver, in_range as receiver_in_range}
use Rattle.links.specs.States.{local_links, in_range as links_in_range}
use Rattle.screen_page.specs.Pages.{fresh_screen}
use Rattle.screen_page.specs.Ranges.{broken}
use Rattle.board_front.specs.declared.Front.{Front}
use Rattle.board.specs.declared.Board.{Board}

-- "A new receiver is off"; the local table, nothing unfinished; "a fresh screen"
abbrev pub fresh_board : Board
fresh_board = record { receiver = new_receiver; links = local_links; screen = fresh_screen }

-- what hears the line
abbrev pub front_of : Board → Front
front_of b = record { receiver = b.receiver; links = b.links }

-- each part within "the ranges this page gives for receiver, screen or links"
unfoldable pub in_range : Board → Bool
in_range b = receiver_in_range b.receiver && (links_in_range b.links && not (broken b.screen))
