-- Links set and cleared, written out field by field. Assumes nothing.
use mathlib.Core.Path.{◌≡◌, refl}
use mathlib.Core.Bool.{true, false}
use mathlib.Core.List.{[], ◌∷◌}
use Rattle.links_wiring.specs.declared.Module.TheVariants.{Screen, Keyboard, Modem, Socket}
use Rattle.links_wiring.specs.Tables.{local_table, connected_table}
use Rattle.links_wiring.specs.Reading.{all_reached}
use Rattle.links_commands.specs.declared.Order.TheVariants.{Link}
use Rattle.links_changes.specs.Linking.{linked, table_after}

-- keyboard to screen is set
pub set_written :
    all_reached (table_after local_table (Link Screen Keyboard true))
    ≡ [] ∷ (Screen ∷ Modem ∷ Socket ∷ []) ∷ (Screen ∷ []) ∷ (Screen ∷ []) ∷ []
unfolding linked
set_written = refl

-- modem to screen is cleared
pub cleared_written :
    all_reached (table_after connected_table (Link Screen Modem false))
    ≡ [] ∷ (Modem ∷ []) ∷ (Socket ∷ []) ∷ (Modem ∷ []) ∷ []
unfolding linked
cleared_written = refl

-- a module and itself: as it was
pub itself_written :
    all_reached (table_after local_table (Link Screen Screen true))
    ≡ [] ∷ (Modem ∷ Socket ∷ []) ∷ (Screen ∷ []) ∷ (Screen ∷ []) ∷ []
unfolding linked
itself_written = refl
