-- One value sends at most five bytes to any receiver, and none above 127. Assumes nothing.
use lib.Dec.{ltb}
use Rattle.laws.proofs.Computed.{chosen}
use Rattle.links_wiring.specs.declared.Module.{Module}
use Rattle.links_wiring.specs.declared.Module.TheVariants.{Keyboard}
use Rattle.links_wiring.specs.Each.{Table}
use Rattle.links_wiring.specs.Tables.{local_table, connected_table}
use Rattle.links_commands.specs.declared.Order.TheVariants.{Pass}
use Rattle.links_hearing.specs.Hearing.{heard}
use Rattle.links_hearing.proofs.Ranges.{small_order}
use Rattle.links_sending.specs.Sending.{part_of, FewIn}
use Rattle.links_sending.proofs.Getting.{few_sent, few_silence}
use Rattle.links.specs.declared.Links.{Links}
use Rattle.links.specs.declared.Outcome.{Outcome}
use Rattle.links_hearing.specs.Ears.{name_of}
use Rattle.links.specs.States.{unfinished, in_range}
use Rattle.links.specs.Calls.{choosing, taking, from_ear, from_keyboard}
use Rattle.links.specs.Runs.{Call, key, value, to_local, to_connected, obey}
use Rattle.links.proofs.Refusals.{small}

FewOut : Outcome → Type 0
FewOut o = (receiver : Module) → FewIn (part_of o.sent receiver)

few_chosen : (l : Links) (t : Table) → FewOut (choosing l t)
unfolding FewOut choosing
few_chosen l t = chosen FewOut (in_range l) (λ i. few_silence) (λ i. few_silence)

pub few : (c : Call) (l : Links) → (receiver : Module) → FewIn (part_of (obey c l).sent receiver)
unfolding FewOut taking from_ear from_keyboard
few (key v) l =
    chosen FewOut (in_range l)
    (λ i. chosen FewOut (ltb 127 v) (λ h. few_silence) (λ h. few_sent l.table Keyboard (Pass v) (small v h)))
    (λ i. few_silence)
few (value e v) l =
    let order = (heard (unfinished l e) v).order in
    chosen FewOut (in_range l)
    (λ i. chosen FewOut (ltb 127 v) (λ h. few_silence)
    (λ h. few_sent l.table (name_of e) order (small_order (unfinished l e) v (small v h))))
    (λ i. few_silence)
few to_local l = few_chosen l local_table
few to_connected l = few_chosen l connected_table
