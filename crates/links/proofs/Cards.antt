-- The cards of the links, computed. Assumes nothing.
use mathlib.Core.Path.{refl}
use mathlib.Core.List.{List, [], ◌∷◌, ◌++◌}
use Rattle.links_wiring.specs.Tables.{self_linked}
use Rattle.links_replies.specs.Replies.{status_of, reply_of}
use Rattle.links_hearing.specs.Hearing.{heard, in_range as sequence_in_range}
use Rattle.links_changes.specs.Linking.{linked}
use Rattle.links_sending.specs.Sending.{obeyed}
use Rattle.links.specs.States.{in_range}
use Rattle.links.specs.Calls.{choosing, taking, from_ear, from_keyboard}
use Rattle.links.specs.Cards.{LinkCard, EachHolds, asking, setting, clearing, selves, unknown, pairs, apart, typed}
use Rattle.links.specs.Cards.{flowing, chosen, refusals, together, link_cards}

on_asking : EachHolds asking
unfolding self_linked status_of reply_of heard sequence_in_range linked obeyed in_range choosing taking from_ear from_keyboard
on_asking = (refl, (refl, (refl, (refl, tt))))

on_setting : EachHolds setting
unfolding self_linked status_of reply_of heard sequence_in_range linked obeyed in_range choosing taking from_ear from_keyboard
on_setting = (refl, (refl, (refl, (refl, (refl, (refl, tt))))))

on_clearing : EachHolds clearing
unfolding self_linked status_of reply_of heard sequence_in_range linked obeyed in_range choosing taking from_ear from_keyboard
on_clearing = (refl, (refl, (refl, (refl, (refl, tt)))))

on_selves : EachHolds selves
unfolding self_linked status_of reply_of heard sequence_in_range linked obeyed in_range choosing taking from_ear from_keyboard
on_selves = (refl, (refl, tt))

on_unknown : EachHolds unknown
unfolding self_linked status_of reply_of heard sequence_in_range linked obeyed in_range choosing taking from_ear from_keyboard
on_unknown = (refl, (refl, (refl, (refl, (refl, (refl, (refl, (refl, tt))))))))

on_pairs : EachHolds pairs
unfolding self_linked status_of reply_of heard sequence_in_range linked obeyed in_range choosing taking from_ear from_keyboard
on_pairs = (refl, (refl, (refl, (refl, (refl, tt)))))

on_apart : EachHolds apart
unfolding self_linked status_of reply_of heard sequence_in_range linked obeyed in_range choosing taking from_ear from_keyboard
on_apart = (refl, (refl, (refl, (refl, (refl, (refl, tt))))))

on_keys : EachHolds typed
unfolding self_linked status_of reply_of heard sequence_in_range linked obeyed in_range choosing taking from_ear from_keyboard
on_keys = (refl, (refl, tt))

on_flowing : EachHolds flowing
unfolding self_linked status_of reply_of heard sequence_in_range linked obeyed in_range choosing taking from_ear from_keyboard
on_flowing = (refl, (refl, (refl, tt)))

on_choosing : EachHolds chosen
unfolding self_linked status_of reply_of heard sequence_in_range linked obeyed in_range choosing taking from_ear from_keyboard
on_choosing = (refl, (refl, (refl, (refl, (refl, (refl, tt))))))

on_refusals : EachHolds refusals
unfolding self_linked status_of reply_of heard sequence_in_range linked obeyed in_range choosing taking from_ear from_keyboard
on_refusals = (refl, (refl, (refl, (refl, (refl, tt)))))

-- ---- all of them

each_append : (cs ds : List LinkCard) → EachHolds cs → EachHolds ds → EachHolds (cs ++ ds)
each_append [] ds p q = q
each_append (c ∷ cs) ds p q = (p.0, each_append cs ds p.1 q)

AllHold : List (List LinkCard) → Type 0
AllHold [] = Unit {0}
AllHold (cs ∷ css) = EachHolds cs × AllHold css

all_together : (css : List (List LinkCard)) → AllHold css → EachHolds (together css)
unfolding AllHold
all_together [] p = tt
all_together (cs ∷ css) p = each_append cs (together css) p.0 (all_together css p.1)

pub link_cards_lem : EachHolds link_cards
unfolding AllHold
link_cards_lem =
    all_together
    (asking ∷ setting ∷ clearing ∷ selves ∷ unknown ∷ pairs ∷ apart ∷ typed ∷ flowing ∷ chosen ∷ refusals ∷ []) (
      on_asking,
      (
        on_setting,
        (
          on_clearing,
          (
            on_selves,
            (
              on_unknown,
              (
                on_pairs,
                (
                  on_apart,
                  (
                    on_keys,
                    (
                      on_flowing,
                      (
                        on_choosing,
                        (
                          on_refusals,
                          tt,
                        ),
                      ),
                    ),
                  ),
                ),
              ),
            ),
          ),
        ),
      ),
    )
