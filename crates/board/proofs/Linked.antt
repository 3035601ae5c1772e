-- Values among which no command stands leave the modem linked as it was. Assumes nothing.
use mathlib.Core.Path.{◌≡◌, refl, sym, ap, ◌∙◌, subst⁻¹}
use mathlib.Core.Bool.{true}
use mathlib.Core.List.{List, [], ◌∷◌}
use Prim.Native.Nat.{ℕ}
use native.Mathlib.Omega.{arith}
use Rattle.values.specs.Large.{Values}
use Rattle.values.proofs.Found.{values_none, values_cons, values_head, values_tail}
use Rattle.links_wiring.specs.declared.Module.{Module}
use Rattle.links_wiring.specs.declared.Module.TheVariants.{Modem}
use Rattle.links_wiring.specs.Each.{Table}
use Rattle.links_wiring.specs.Tables.{reaches}
use Rattle.links_commands.specs.Commands.{pro1}
use Rattle.links_hearing.specs.declared.Unfinished.TheVariants.{Free}
use Rattle.links_hearing.specs.Phrases.{Phrase, alone, escape, command, AllProper, all_values}
use Rattle.links_hearing.specs.declared.ears.Ear.TheVariants.{Modem as modem}
use Rattle.links.specs.declared.Links.{Links}
use Rattle.links.specs.States.{unfinished}
use Rattle.links.specs.Runs.{value, obey, Throughout, InLinks, Says, freed}
use Rattle.links.proofs.Ranges.{kept}
use Rattle.links.proofs.Own.{can_say}
use Rattle.links.proofs.Flow.{plain_goes, pair_passes}
use Rattle.links.proofs.Replying.{codes_wait}
use Rattle.board_feeding.specs.Feeding.{from_line}
use Rattle.board.specs.Pages.{NoCommand}

pub stays_linked : (to : Module) (ps : List Phrase) (l : Links) → InLinks l → unfinished l modem ≡ Free
    → reaches l.table Modem to ≡ true → AllProper ps → NoCommand ps → Values (all_values ps)
    → Throughout Modem to l (from_line (all_values ps))
stays_linked to [] l i f y p n h = tt
stays_linked to (alone v ∷ ps) l i f y p n h = (
  y,
  subst⁻¹ (λ (k : Links). Throughout Modem to k (from_line (all_values ps)))
      (plain_goes l modem v i f (values_head v (all_values ps) h) p.0).state
      (stays_linked to ps l i f y p.1 n (values_tail v (all_values ps) h)),
)
stays_linked to (escape v ∷ ps) l i f y p n h =
    let esc = value modem 27 in
    let k = (obey esc l).next in
    let says : (vs : List ℕ) → Values vs → Says modem l (from_line vs) vs =
    λ vs small. record { range = i; free = f; values = (can_say modem vs small).values } in
    let waits = codes_wait modem l [] (pro1 0) 0 (omega arith) (says [] values_none) in
    let rest = values_tail 27 (v ∷ all_values ps) h in
    let passes = pair_passes modem l (esc ∷ []) v (says (27 ∷ []) (values_cons 27 [] (omega arith) values_none))
    (values_head v (all_values ps) rest) p.0.0 p.0.1 p.0.2 in
    let table : reaches k.table Modem to ≡ true = ap (λ (t : Table). reaches t Modem to) waits.table ∙ y in
    let after = stays_linked to ps (freed k modem)
    (subst⁻¹ InLinks (sym passes.state) (kept (value modem v) k (kept esc l i))) refl table p.1 n
    (values_tail v (all_values ps) rest) in
    (y, (table, subst⁻¹ (λ (j : Links). Throughout Modem to j (from_line (all_values ps))) passes.state after))
stays_linked to (command c ∷ ps) l i f y p n h = absurd n
