-- A status tells which senders reach its receiver, bit by bit, and stands in column 4; a reply is five values. Assumes
-- nothing.
use mathlib.Core.Path.{◌≡◌, refl}
use mathlib.Core.Bool.{Bool, true, false, cond}
use mathlib.Core.List.{[], ◌∷◌}
use Prim.Native.Nat.{zero, suc, ◌/◌, ◌%◌}
use native.Mathlib.Omega.{arith}
use lib.ListN.{length}
use Rattle.values.specs.Large.{Values}
use Rattle.links_wiring.specs.declared.Module.{Module}
use Rattle.links_wiring.specs.declared.Module.TheVariants.{Screen, Keyboard, Modem, Socket}
use Rattle.links_wiring.specs.Each.{Row, Table}
use Rattle.links_wiring.specs.Tables.{row, local_table, connected_table}
use Rattle.links_wiring.proofs.Small.{receiver_small}
use Rattle.links_replies.specs.Replies.{shown, column_of, summed, status_of, reply_of, statuses_of, weight_of}

-- ---- its bits

-- column 4, and the senders shown: screen, keyboard, modem, socket
abbrev Bits : Row → Type 0
Bits w =
    (summed w / 16 ≡ 4)
    × (summed w / 1 % 2 ≡ cond w.screen 1 0)
    × (summed w / 2 % 2 ≡ cond w.keyboard 1 0)
    × (summed w / 4 % 2 ≡ cond w.modem 1 0)
    × (summed w / 8 % 2 ≡ cond w.socket 1 0)

bits : (a b c d : Bool) → Bits (row a b c d)
bits true true true true = (refl, refl, refl, refl, refl)
bits true true true false = (refl, refl, refl, refl, refl)
bits true true false true = (refl, refl, refl, refl, refl)
bits true true false false = (refl, refl, refl, refl, refl)
bits true false true true = (refl, refl, refl, refl, refl)
bits true false true false = (refl, refl, refl, refl, refl)
bits true false false true = (refl, refl, refl, refl, refl)
bits true false false false = (refl, refl, refl, refl, refl)
bits false true true true = (refl, refl, refl, refl, refl)
bits false true true false = (refl, refl, refl, refl, refl)
bits false true false true = (refl, refl, refl, refl, refl)
bits false true false false = (refl, refl, refl, refl, refl)
bits false false true true = (refl, refl, refl, refl, refl)
bits false false true false = (refl, refl, refl, refl, refl)
bits false false false true = (refl, refl, refl, refl, refl)
bits false false false false = (refl, refl, refl, refl, refl)

status_bits : (t : Table) (receiver : Module) → Bits (column_of t receiver)
status_bits t r = bits (shown t r Screen) (shown t r Keyboard) (shown t r Modem) (shown t r Socket)

pub status_column : (t : Table) (receiver : Module) → status_of t receiver / 16 ≡ 4
unfolding status_of
status_column t r = (status_bits t r).0

pub status_bit : (t : Table) (receiver sender : Module)
    → status_of t receiver / weight_of sender % 2 ≡ cond (shown t receiver sender) 1 0
unfolding status_of
status_bit t r Screen = (status_bits t r).1
status_bit t r Keyboard = (status_bits t r).2
status_bit t r Modem = (status_bits t r).3
status_bit t r Socket = (status_bits t r).4

-- ---- how large it is

-- a reply is five values of 0 to 127
pub reply_length : (t : Table) (receiver : Module) → length (reply_of t receiver) ≡ 5
unfolding reply_of
reply_length t r = refl

pub reply_small : (t : Table) (receiver : Module) → Values (reply_of t receiver)
unfolding reply_of
reply_small t r zero l = omega arith
reply_small t r (suc zero) l = omega arith
reply_small t r (suc (suc zero)) l = omega arith
reply_small t r (suc (suc (suc zero))) l = receiver_small r
reply_small t r (suc (suc (suc (suc zero)))) l = omega (arith, status_column t r)
reply_small t r (suc (suc (suc (suc (suc i))))) l = absurd (omega (arith, l))

-- ---- the two standard tables

pub local_statuses : statuses_of local_table ≡ 77 ∷ 66 ∷ 70 ∷ 74 ∷ []
unfolding status_of
local_statuses = refl

pub connected_statuses : statuses_of connected_table ≡ 69 ∷ 66 ∷ 78 ∷ 76 ∷ []
unfolding status_of
connected_statuses = refl
