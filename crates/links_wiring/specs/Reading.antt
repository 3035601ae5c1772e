-- A table read field by field, as the receivers that each sender reaches. Assumes nothing.
use Rattle.std.specs.Prelude.{cond, List, [], ◌∷◌, ◌++◌}
use Rattle.links_wiring.specs.declared.Module.{Module}
use Rattle.links_wiring.specs.declared.Module.TheVariants.{Screen, Keyboard, Modem, Socket}
use Rattle.links_wiring.specs.Each.{Row, Table}

-- in the order screen, keyboard, modem, socket
abbrev pub reached_by : Row → List Module
reached_by w =
    cond w.screen (Screen ∷ []) [] ++ (cond w.keyboard (Keyboard ∷ []) []
    ++ (cond w.modem (Modem ∷ []) [] ++ cond w.socket (Socket ∷ []) []))

abbrev pub all_reached : Table → List (List Module)
all_reached t =
    reached_by t.screen ∷ reached_by t.keyboard ∷ reached_by t.modem ∷ reached_by t.socket ∷ []
