-- What a module that an ear is linked to throughout a run gets of what that ear says. Assumes nothing.
use mathlib.Core.Path.{◌≡◌, refl, sym, ap, ◌∙◌, subst⁻¹}
use mathlib.Core.Bool.{Bool, true, false, cond}
use mathlib.Core.List.{List, [], ◌∷◌, ◌++◌, map, append-nil}
use Prim.Native.Nat.{ℕ}
use lib.Dec.{ltb}
use Rattle.values.specs.Large.{Values}
use Rattle.values.proofs.Found.{values_head, values_tail}
use Rattle.links_wiring.specs.declared.Module.{Module}
use Rattle.links_wiring.specs.declared.Module.TheVariants.{Screen}
use Rattle.links_wiring.specs.Each.{Table}
use Rattle.links_wiring.specs.Modules.{same}
use Rattle.links_wiring.specs.Tables.{reaches}
use Rattle.links_wiring.proofs.Selves.{reached_apart}
use Rattle.links_commands.specs.declared.Order.{Order}
use Rattle.links_commands.specs.declared.Order.TheVariants.{Nothing, Pass, Pair, Link, Ask}
use Rattle.links_hearing.specs.declared.Unfinished.{Unfinished}
use Rattle.links_hearing.specs.Hearing.{codes_of, heard}
use Rattle.links_hearing.specs.Phrases.{Phrase, alone, AllProper, all_values, all_flowing}
use Rattle.links_hearing.proofs.Flowing.{passed as passed_on, flow, flow_append, flows_on}
use Rattle.links_replies.specs.Replies.{reply_of}
use Rattle.links_sending.specs.Sending.{Sent, obeyed, gets}
use Rattle.links_sending.proofs.Getting.{gets_nothing, nothing_sent, pass_goes, pair_goes, link_replied, ask_replied}
use Rattle.links.specs.declared.Links.{Links}
use Rattle.links_hearing.specs.declared.ears.Ear.{Ear}
use Rattle.links_hearing.specs.declared.ears.Ear.TheVariants.{Modem as modem, Socket as socket}
use Rattle.links.specs.declared.Outcome.{Outcome}
use Rattle.links_hearing.specs.Ears.{name_of}
use Rattle.links.specs.States.{local_links, unfinished}
use Rattle.links.specs.Runs.{Call, key, value, to_local, to_connected, obey, given, is_from, said_at, said, got_from}
use Rattle.links.specs.Runs.{Throughout, InLinks, Says}
use Rattle.links.proofs.Steps.{accepted, sent_heard}
use Rattle.links.proofs.Ranges.{passed, kept, local_in}
use Rattle.links.proofs.Refusals.{large, small}
use Rattle.links.proofs.Own.{own_call}
use Rattle.links.proofs.Flow.{plain_goes}

-- another module that is linked gets what an order passes on
gets_passed : (t : Table) (from : Module) (o : Order) (r : Module) → reaches t from r ≡ true → same r from ≡ false
    → gets (obeyed t from o).sent r ≡ passed_on o
gets_passed t from Nothing r y d = nothing_sent t from r
gets_passed t from (Pass v) r y d = pass_goes t from v r ∙ ap (λ (b : Bool). cond b (v ∷ []) []) y
gets_passed t from (Pair v) r y d = pair_goes t from v r ∙ ap (λ (b : Bool). cond b (27 ∷ v ∷ []) []) y
gets_passed t from (Link receiver sender on) r y d =
    link_replied t from receiver sender on r
    ∙ ap (λ (b : Bool). cond b (reply_of (obeyed t from (Link receiver sender on)).table receiver) []) d
gets_passed t from (Ask receiver) r y d =
    ask_replied t from receiver r
    ∙ ap (λ (b : Bool). cond b (reply_of (obeyed t from (Ask receiver)).table receiver) []) d

-- one value, taken or refused
value_flow : (e : Ear) (l : Links) (v : ℕ) (m : Module) → InLinks l → reaches l.table (name_of e) m ≡ true
    → (t : Bool) → ltb 127 v ≡ t → given l (value e v) m ≡ flow (unfinished l e) (cond t [] (v ∷ []))
value_flow e l v m r y true h =
    ap (λ (o : Outcome). gets o.sent m) (large (value e v) l (passed l r) h) ∙ gets_nothing m
value_flow e l v m r y false h =
    let p = heard (unfinished l e) v in
    ap (λ (o : Outcome). gets o.sent m) (accepted e l v (passed l r) (small v h))
    ∙ ap (λ (s : Sent). gets s m) (sent_heard e l p)
    ∙ gets_passed l.table (name_of e) p.order m y
    (reached_apart l.table (name_of e) m (r.none_itself (name_of e)) y)
    ∙ sym (append-nil (passed_on p.order))

call_flow : (e : Ear) (l : Links) (c : Call) (m : Module) → InLinks l → reaches l.table (name_of e) m ≡ true
    → cond (is_from e c) (given l c m) [] ≡ flow (unfinished l e) (said_at e c)
call_flow e l (key v) m r y = refl
call_flow modem l (value modem v) m r y = value_flow modem l v m r y (ltb 127 v) refl
call_flow modem l (value socket v) m r y = refl
call_flow socket l (value modem v) m r y = refl
call_flow socket l (value socket v) m r y = value_flow socket l v m r y (ltb 127 v) refl
call_flow e l to_local m r y = refl
call_flow e l to_connected m r y = refl

run_flow : (e : Ear) (l : Links) (cs : List Call) (m : Module) → InLinks l → Throughout (name_of e) m l cs
    → got_from e m l cs ≡ flow (unfinished l e) (said e cs)
run_flow e l [] m r y = refl
run_flow e l (c ∷ cs) m r y =
    let next = (obey c l).next in
    ap (λ (x : List ℕ). x ++ got_from e m next cs) (call_flow e l c m r y.0)
    ∙ ap (λ (x : List ℕ). flow (unfinished l e) (said_at e c) ++ x)
    (run_flow e next cs m (kept c l r) y.1 ∙ ap (λ (u : Unfinished). flow u (said e cs)) (own_call c l e r))
    ∙ sym (flow_append (unfinished l e) (said_at e c) (said e cs))

-- the phrases that are no commands, in order and complete
pub comes_through : (e : Ear) (l : Links) (cs : List Call) (m : Module) (ps : List Phrase) (u : Unfinished)
    → Says e l cs (all_values ps ++ codes_of u) → AllProper ps → Throughout (name_of e) m l cs
    → got_from e m l cs ≡ all_flowing ps
comes_through e l cs m ps u s n y =
    run_flow e l cs m s.range y
    ∙ ap (λ (v : Unfinished). flow v (said e cs)) s.free
    ∙ ap (flow _) s.values
    ∙ flows_on ps u n

-- ---- such runs: values by themselves leave the table as it is

pub stays_linked : (vs : List ℕ) → Values vs → AllProper (map alone vs)
    → Throughout (name_of modem) Screen local_links (map (value modem) vs)
stays_linked [] h n = tt
stays_linked (v ∷ vs) h n = (
  refl,
  subst⁻¹ (λ (l : Links). Throughout (name_of modem) Screen l (map (value modem) vs))
      (plain_goes local_links modem v local_in refl (values_head v vs h) n.0).state
      (stays_linked vs (values_tail v vs h) n.1),
)
