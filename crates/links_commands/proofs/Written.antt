-- Commands written out, code by code, as 01 and 001 have them (part 2, chapter 6, sections 1 to 3). Assumes nothing.
use mathlib.Core.Path.{◌≡◌, refl}
use mathlib.Core.Bool.{true, false}
use mathlib.Core.List.{[], ◌∷◌, map}
use Rattle.links_wiring.specs.declared.Module.TheVariants.{Screen, Keyboard, Modem, Socket}
use Rattle.links_commands.specs.declared.Order.TheVariants.{Nothing, Link, Ask}
use Rattle.links_commands.specs.Commands.{pro1, pro2, pro3, spelled, ordered}

-- "1/B then 3/9, 3/A, 3/B and one, two, three codes"
pub spelled_written :
    map spelled (pro1 65 ∷ pro2 65 66 ∷ pro3 65 66 67 ∷ [])
    ≡ (27 ∷ 57 ∷ 65 ∷ []) ∷ (27 ∷ 58 ∷ 65 ∷ 66 ∷ []) ∷ (27 ∷ 59 ∷ 65 ∷ 66 ∷ 67 ∷ []) ∷ []
spelled_written = refl

-- the commands on each receiver: 6/2 asks
pub asks_written :
    map ordered (pro2 98 88 ∷ pro2 98 89 ∷ pro2 98 90 ∷ pro2 98 91 ∷ [])
    ≡ Ask Screen ∷ Ask Keyboard ∷ Ask Modem ∷ Ask Socket ∷ []
asks_written = refl

-- 6/1 sets, receiver before sender
pub sets_written :
    map ordered (pro3 97 88 81 ∷ pro3 97 89 80 ∷ pro3 97 90 83 ∷ pro3 97 91 82 ∷ [])
    ≡ Link Screen Keyboard true ∷ Link Keyboard Screen true ∷ Link Modem Socket true ∷ Link Socket Modem true ∷ []
sets_written = refl

-- 6/0 clears
pub clears_written :
    map ordered (pro3 96 88 83 ∷ pro3 96 89 82 ∷ pro3 96 90 81 ∷ pro3 96 91 80 ∷ [])
    ≡ Link Screen Socket false ∷ Link Keyboard Modem false ∷ Link Modem Keyboard false ∷ Link Socket Screen false ∷ []
clears_written = refl

-- unknown: PRO1 with any code; 6/1 by PRO2; a sender's code where a receiver's is due, and a receiver's where a sender's
-- is; codes beside those of the modules
pub unknown_written :
    map ordered
    (pro1 98 ∷ pro2 97 88 ∷ pro2 98 80 ∷ pro2 98 92 ∷ pro3 98 88 81 ∷ pro3 97 80 81 ∷ pro3 97 88 89 ∷ pro3 96 88 84 ∷ [])
    ≡ Nothing ∷ Nothing ∷ Nothing ∷ Nothing ∷ Nothing ∷ Nothing ∷ Nothing ∷ Nothing ∷ []
unknown_written = refl
