-- What is unfinished from an ear follows from what that ear said, and from nothing else. Assumes nothing.
use mathlib.Core.Path.{◌≡◌, refl, sym, ap, ap₂, ◌∙◌}
use mathlib.Core.Bool.{Bool, true, false, cond}
use mathlib.Core.List.{List, [], ◌∷◌, ◌++◌, map}
use Prim.Native.Nat.{ℕ}
use native.Mathlib.Omega.{arith}
use lib.Dec.{ltb}
use borrow.Author.Tests.{le-ltb}
use Rattle.laws.proofs.Computed.{chosen}
use Rattle.values.specs.Large.{Values}
use Rattle.values.proofs.Found.{values_head, values_tail}
use Rattle.links_wiring.specs.Each.{Table}
use Rattle.links_wiring.specs.Tables.{local_table, connected_table}
use Rattle.links_hearing.specs.declared.Unfinished.{Unfinished}
use Rattle.links_hearing.specs.declared.Unfinished.TheVariants.{Free}
use Rattle.links_hearing.specs.Hearing.{heard, left_after}
use Rattle.links_hearing.proofs.Spelling.{left_append}
use Rattle.links.specs.declared.Links.{Links}
use Rattle.links_hearing.specs.declared.ears.Ear.{Ear}
use Rattle.links_hearing.specs.declared.ears.Ear.TheVariants.{Modem as modem, Socket as socket}
use Rattle.links.specs.declared.Outcome.{Outcome}
use Rattle.links.specs.States.{unfinished, in_range, local_links}
use Rattle.links.specs.Calls.{choosing, from_ear}
use Rattle.links.specs.Runs.{same_ear, Call, key, value, to_local, to_connected, obey, run, said_at, said}
use Rattle.links.specs.Runs.{InLinks, Says}
use Rattle.links.proofs.Steps.{accepted, own_heard, other_heard, keys_change_nothing}
use Rattle.links.proofs.Ranges.{passed, kept, local_in}
use Rattle.links.proofs.Refusals.{large, small}

-- a value from an ear, taken or refused
took : (e f : Ear) (l : Links) (v : ℕ) → in_range l ≡ true → (t : Bool) → ltb 127 v ≡ t
    → unfinished (from_ear l f v).next e ≡ left_after (unfinished l e) (cond (same_ear e f) (cond t [] (v ∷ [])) [])
took modem modem l v i true h = ap (λ (o : Outcome). o.next.unfinished.modem) (large (value modem v) l i h)
took modem socket l v i true h = ap (λ (o : Outcome). o.next.unfinished.modem) (large (value socket v) l i h)
took socket modem l v i true h = ap (λ (o : Outcome). o.next.unfinished.socket) (large (value modem v) l i h)
took socket socket l v i true h = ap (λ (o : Outcome). o.next.unfinished.socket) (large (value socket v) l i h)
took modem modem l v i false h =
    ap (λ (o : Outcome). o.next.unfinished.modem) (accepted modem l v i (small v h)) ∙ own_heard modem l (heard l.unfinished.modem v)
took modem socket l v i false h =
    ap (λ (o : Outcome). o.next.unfinished.modem) (accepted socket l v i (small v h))
    ∙ other_heard socket l (heard l.unfinished.socket v)
took socket modem l v i false h =
    ap (λ (o : Outcome). o.next.unfinished.socket) (accepted modem l v i (small v h)) ∙ other_heard modem l (heard l.unfinished.modem v)
took socket socket l v i false h =
    ap (λ (o : Outcome). o.next.unfinished.socket) (accepted socket l v i (small v h)) ∙ own_heard socket l (heard l.unfinished.socket v)

-- a table chosen
left_by_choice : (e : Ear) (l : Links) (t : Table) → unfinished (choosing l t).next e ≡ unfinished l e
unfolding choosing
left_by_choice modem l t = chosen (λ (o : Outcome). o.next.unfinished.modem ≡ l.unfinished.modem) (in_range l) (λ i. refl) (λ i. refl)
left_by_choice socket l t = chosen (λ (o : Outcome). o.next.unfinished.socket ≡ l.unfinished.socket) (in_range l) (λ i. refl) (λ i. refl)

pub own_call : (c : Call) (l : Links) (e : Ear) → InLinks l
    → unfinished (obey c l).next e ≡ left_after (unfinished l e) (said_at e c)
own_call (key v) l e r = ap (λ (s : Links). unfinished s e) (keys_change_nothing l v)
own_call (value f v) l e r = took e f l v (passed l r) (ltb 127 v) refl
own_call to_local l e r = left_by_choice e l local_table
own_call to_connected l e r = left_by_choice e l connected_table

pub own : (l : Links) (cs : List Call) (e : Ear) → InLinks l
    → unfinished (run l cs) e ≡ left_after (unfinished l e) (said e cs)
own l [] e r = refl
own l (c ∷ cs) e r =
    own (obey c l).next cs e (kept c l r)
    ∙ ap (λ (u : Unfinished). left_after u (said e cs)) (own_call c l e r)
    ∙ sym (left_append (unfinished l e) (said_at e c) (said e cs))

pub says_left : {e : Ear} {l : Links} {cs : List Call} {vs : List ℕ} → Says e l cs vs
    → unfinished (run l cs) e ≡ left_after Free vs
says_left {e} {l} {cs} {vs} s = own l cs e s.range ∙ ap₂ left_after s.free s.values

-- ---- a run that says what is asked: the values one after another

same_ear_lem : (e : Ear) → same_ear e e ≡ true
same_ear_lem modem = refl
same_ear_lem socket = refl

pub said_so : (e : Ear) (vs : List ℕ) → Values vs → said e (map (value e) vs) ≡ vs
said_so e [] h = refl
said_so e (v ∷ vs) h =
    ap₂ (λ (t u : Bool). cond t (cond u [] (v ∷ [])) [] ++ said e (map (value e) vs)) (same_ear_lem e)
    (le-ltb 127 v (omega (arith, values_head v vs h)))
    ∙ ap (λ (ws : List ℕ). v ∷ ws) (said_so e vs (values_tail v vs h))

pub can_say : (e : Ear) (vs : List ℕ) → Values vs → Says e local_links (map (value e) vs) vs
can_say modem vs h = record { range = local_in; free = refl; values = said_so modem vs h }
can_say socket vs h = record { range = local_in; free = refl; values = said_so socket vs h }
