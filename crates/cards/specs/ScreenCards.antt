-- Our own cards of the screen, as one list beside W1 to W14. Assumes nothing.
use Rattle.std.specs.Prelude.{List, ◌++◌}
use Rattle.cards.specs.Cards.{Card}
use Rattle.cards.specs.ScreenAttributes.{colour_cards, attribute_cards}
use Rattle.cards.specs.ScreenPlaces.{move_cards, row0_cards, place_cards}
use Rattle.cards.specs.ScreenSequences.{repeat_cards, sequence_cards, open_cards}

abbrev pub screen_runs : List Card
screen_runs =
    (colour_cards ++ attribute_cards) ++ ((move_cards ++ (row0_cards ++ place_cards))
    ++ (repeat_cards ++ (sequence_cards ++ open_cards)))
