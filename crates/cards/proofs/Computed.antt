-- The bench cards, computed. Assumes nothing.
use mathlib.Core.Path.{refl}
use mathlib.Core.List.{List, [], ◌∷◌, ◌++◌}
use Rattle.values.specs.Large.{first_large}
use Rattle.block_division.specs.Division.{low_bits, bits, reduce, divide, check_bits}
use Rattle.block_parity.specs.Parity.{ones, even, all_even, with_parity}
use Rattle.block_validity.specs.Block.{code_bits, remainder, valid}
use Rattle.block_validity.specs.Changed.{flip}
use Rattle.block_maker.specs.Making.{useful, sealed, block_of}
use Rattle.block_reader.specs.Judging.{try_from, verdict, left, handed}
use Rattle.screen_cells.specs.Characters.{good_character}
use Rattle.screen_sheet.specs.Clearing.{cleared}
use Rattle.screen_sheet.specs.Within.{all_good}
use Rattle.screen_pen.specs.Pens.{good_spot, in_range as pen_in_range}
use Rattle.screen_planning.specs.Obeying.{gone, obeyed}
use Rattle.screen_page.specs.Pages.{fresh_screen}
use Rattle.screen_page.specs.Ranges.{in_range, broken}
use Rattle.screen.specs.Screens.{written, written_times, applied, advanced, advanced_by}
use Rattle.screen.specs.Calls.{ran}
use Rattle.cards.specs.Cards.{Card, EachHolds, block_cards, line_cards, screen_cards, cards}

on_blocks : EachHolds block_cards
unfolding low_bits bits reduce divide check_bits ones even all_even with_parity code_bits remainder valid
    flip first_large useful sealed block_of try_from verdict left handed
on_blocks = (
  (refl, refl),
  (
    (refl, refl),
    (
      (refl, refl, refl),
      (
        (refl, refl, refl),
        ((refl, refl, refl), ((refl, refl, refl), ((refl, refl, refl), ((refl, refl, refl), tt)))),
      ),
    ),
  ),
)

on_the_line : EachHolds line_cards
unfolding low_bits bits reduce divide ones even all_even with_parity code_bits remainder valid flip try_from verdict left
on_the_line = ((refl, refl, refl), ((refl, refl, refl), ((refl, refl, refl), tt)))

on_the_screen : EachHolds screen_cards
unfolding first_large cleared good_character all_good good_spot pen_in_range gone obeyed
    fresh_screen written written_times applied advanced advanced_by in_range broken ran
on_the_screen = (refl, (refl, (refl, tt)))

pub each_append : (cs ds : List Card) → EachHolds cs → EachHolds ds → EachHolds (cs ++ ds)
each_append [] ds p q = q
each_append (c ∷ cs) ds p q = (p.0, each_append cs ds p.1 q)

pub bench : EachHolds cards
bench =
    each_append block_cards (line_cards ++ screen_cards) on_blocks
    (each_append line_cards screen_cards on_the_line on_the_screen)
