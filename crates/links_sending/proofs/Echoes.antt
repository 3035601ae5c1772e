-- A reply is a command spelled: PRO3, 6/3, the receiver's code and its status. Assumes nothing.
use mathlib.Core.Path.{◌≡◌, refl}
use Rattle.links_wiring.specs.declared.Module.{Module}
use Rattle.links_wiring.specs.Each.{Table}
use Rattle.links_wiring.specs.Modules.{receiver_code}
use Rattle.links_replies.specs.Replies.{status_of, reply_of}
use Rattle.links_commands.specs.Commands.{pro3, spelled}

pub reply_spelled : (t : Table) (receiver : Module)
    → reply_of t receiver ≡ spelled (pro3 99 (receiver_code receiver) (status_of t receiver))
unfolding reply_of
reply_spelled t r = refl
