-- «Le Protocole filtre toutes les séquences d'acquittement qu'il reçoit en écho» (001, part 2, chapter 6, section 3.5):
-- PRO3 with 6/3 orders nothing, whatever it names. Assumes nothing.
use mathlib.Core.Path.{◌≡◌, refl}
use Prim.Native.Nat.{ℕ}
use Rattle.links_commands.specs.declared.Order.TheVariants.{Nothing}
use Rattle.links_commands.specs.Commands.{pro3, ordered}

pub reply_ordered : (x y : ℕ) → ordered (pro3 99 x y) ≡ Nothing
reply_ordered x y = refl
