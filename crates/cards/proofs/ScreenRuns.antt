-- Our own cards of the screen, computed. Assumes nothing.
use mathlib.Core.Path.{refl}
use mathlib.Core.List.{◌++◌}
use Rattle.values.specs.Large.{first_large}
use Rattle.screen_cells.specs.Characters.{good_character}
use Rattle.screen_sheet.specs.Clearing.{cleared}
use Rattle.screen_sheet.specs.Within.{all_good}
use Rattle.screen_pen.specs.Pens.{good_spot, in_range as pen_in_range}
use Rattle.screen_planning.specs.Obeying.{gone, obeyed}
use Rattle.screen_page.specs.Pages.{fresh_screen}
use Rattle.screen_page.specs.Ranges.{in_range, broken}
use Rattle.screen.specs.Screens.{written, written_times, applied, advanced, advanced_by}
use Rattle.screen.specs.Calls.{ran}
use Rattle.cards.specs.Cards.{EachHolds}
use Rattle.cards.specs.ScreenAttributes.{colour_cards, attribute_cards}
use Rattle.cards.specs.ScreenPlaces.{move_cards, row0_cards, place_cards}
use Rattle.cards.specs.ScreenSequences.{repeat_cards, sequence_cards, open_cards}
use Rattle.cards.specs.ScreenCards.{screen_runs}
use Rattle.cards.proofs.Computed.{each_append}

on_colours : EachHolds colour_cards
unfolding first_large cleared good_character all_good good_spot pen_in_range gone obeyed
    fresh_screen written written_times applied advanced advanced_by in_range broken ran
on_colours = (refl, (refl, (refl, (refl, (refl, tt)))))

on_attributes : EachHolds attribute_cards
unfolding first_large cleared good_character all_good good_spot pen_in_range gone obeyed
    fresh_screen written written_times applied advanced advanced_by in_range broken ran
on_attributes = (refl, (refl, (refl, (refl, (refl, (refl, (refl, (refl, (refl, tt)))))))))

on_moves : EachHolds move_cards
unfolding first_large cleared good_character all_good good_spot pen_in_range gone obeyed
    fresh_screen written written_times applied advanced advanced_by in_range broken ran
on_moves = (refl, (refl, (refl, (refl, (refl, tt)))))

on_row_0 : EachHolds row0_cards
unfolding first_large cleared good_character all_good good_spot pen_in_range gone obeyed
    fresh_screen written written_times applied advanced advanced_by in_range broken ran
on_row_0 = (refl, (refl, (refl, (refl, (refl, tt)))))

on_places : EachHolds place_cards
unfolding first_large cleared good_character all_good good_spot pen_in_range gone obeyed
    fresh_screen written written_times applied advanced advanced_by in_range broken ran
on_places = (refl, (refl, (refl, (refl, (refl, (refl, tt))))))

on_repeats : EachHolds repeat_cards
unfolding first_large cleared good_character all_good good_spot pen_in_range gone obeyed
    fresh_screen written written_times applied advanced advanced_by in_range broken ran
on_repeats = (refl, (refl, (refl, (refl, (refl, tt)))))

on_sequences : EachHolds sequence_cards
unfolding first_large cleared good_character all_good good_spot pen_in_range gone obeyed
    fresh_screen written written_times applied advanced advanced_by in_range broken ran
on_sequences = (refl, (refl, (refl, (refl, (refl, (refl, (refl, tt)))))))

left_open : EachHolds open_cards
unfolding first_large cleared good_character all_good good_spot pen_in_range gone obeyed
    fresh_screen written written_times applied advanced advanced_by in_range broken ran
left_open = (refl, (refl, (refl, (refl, (refl, (refl, (refl, (refl, tt))))))))

pub ours : EachHolds screen_runs
ours =
    each_append (colour_cards ++ attribute_cards)
    ((move_cards ++ (row0_cards ++ place_cards)) ++ (repeat_cards ++ (sequence_cards ++ open_cards)))
    (each_append colour_cards attribute_cards on_colours on_attributes)
    (each_append (move_cards ++ (row0_cards ++ place_cards)) (repeat_cards ++ (sequence_cards ++ open_cards))
    (each_append move_cards (row0_cards ++ place_cards) on_moves (each_append row0_cards place_cards on_row_0 on_places))
    (each_append repeat_cards (sequence_cards ++ open_cards) on_repeats
    (each_append sequence_cards open_cards on_sequences left_open)))
