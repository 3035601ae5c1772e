-- What the values of a command do. Assumes nothing.
use mathlib.Core.Path.{◌≡◌, refl, sym, ap, ◌∙◌, subst⁻¹}
use mathlib.Core.Bool.{Bool, true, false, cond, ◌&&◌, not}
use mathlib.Core.List.{List, []}
use Prim.Native.Nat.{ℕ, ◌+◌, ◌<◌}
use lib.Dec.{ltb}
use lib.ListN.{length, get_or, take}
use Rattle.links_wiring.specs.declared.Module.{Module}
use Rattle.links_wiring.specs.Each.{Table}
use Rattle.links_wiring.specs.Modules.{same, receiver_code, sender_code}
use Rattle.links_wiring.specs.Tables.{reaches}
use Rattle.links_wiring.proofs.Small.{receiver_small, sender_small}
use Rattle.links_replies.specs.Replies.{reply_of}
use Rattle.links_hearing.specs.declared.Unfinished.{Unfinished}
use Rattle.links_hearing.specs.declared.Unfinished.TheVariants.{Free}
use Rattle.links_commands.specs.declared.Order.{Order}
use Rattle.links_commands.specs.declared.Order.TheVariants.{Nothing, Link, Ask}
use Rattle.links_hearing.specs.declared.Heard.{Heard}
use Rattle.links_commands.specs.Commands.{Command, spelled, beginning, last_of, ordered, link_command, ask_command}
use Rattle.links_hearing.specs.Hearing.{codes_of, does, heard}
use Rattle.links_commands.proofs.Known.{link_ordered, ask_ordered}
use Rattle.links_hearing.proofs.Spelling.{midway, over, ends, waits}
use Rattle.links_sending.specs.Sending.{Sent, obeyed, gets}
use Rattle.links_sending.proofs.Getting.{gets_nothing, nothing_sent, link_replied, ask_replied, table_after_lem, pairs_after}
use Rattle.links.specs.declared.Links.{Links}
use Rattle.links_hearing.specs.declared.ears.Ear.{Ear}
use Rattle.links.specs.declared.Outcome.{Outcome}
use Rattle.links_hearing.specs.Ears.{name_of}
use Rattle.links.specs.States.{unfinished, in_range}
use Rattle.links.specs.Calls.{taking, from_ear}
use Rattle.links.specs.Runs.{other, Call, value, obey, run, Says, Swallowed, Answered}
use Rattle.links.proofs.Steps.{accepted, answer_heard, table_heard, own_heard, other_heard, sent_heard}
use Rattle.links.proofs.Ranges.{passed, run_kept}
use Rattle.links.proofs.Refusals.{large, small}
use Rattle.links.proofs.Own.{says_left}

-- ---- how many codes are taken

pub still_midway : (e : Ear) (l : Links) (cs : List Call) (c : Command) (k : ℕ) → k < length (spelled c)
    → Says e l cs (take k (spelled c)) → codes_of (unfinished (run l cs) e) ≡ take k (spelled c)
still_midway e l cs c k h s = ap codes_of (says_left s) ∙ midway c k h

pub is_over : (e : Ear) (l : Links) (cs : List Call) (c : Command) → Says e l cs (spelled c)
    → unfinished (run l cs) e ≡ Free
is_over e l cs c s = says_left s ∙ over c

-- ---- codes that are swallowed

Quiet : Links → Ear → Outcome → Type 0
Quiet l e o =
    ((receiver : Module) → gets o.sent receiver ≡ []) × (o.next.table ≡ l.table)
    × (unfinished o.next (other e) ≡ unfinished l (other e))

-- what orders nothing does nothing
quiet_heard : (e : Ear) (l : Links) (h : Heard) → h.order ≡ Nothing → Quiet l e (taking l e h)
unfolding Quiet
quiet_heard e l h n = (
  λ m. ap (λ (s : Sent). gets s m) (sent_heard e l h)
      ∙ ap (λ (o : Order). gets (obeyed l.table (name_of e) o).sent m) n ∙ nothing_sent l.table (name_of e) m,
  table_heard e l h ∙ ap (λ (o : Order). (obeyed l.table (name_of e) o).table) n
      ∙ table_after_lem l.table (name_of e) Nothing,
  other_heard e l h,
)

-- a value that orders nothing is swallowed, and so is one that is refused
pub swallowed : (e : Ear) (l : Links) (v : ℕ) → in_range l ≡ true → (heard (unfinished l e) v).order ≡ Nothing
    → Swallowed l e v
unfolding Quiet
swallowed e l v i n =
    let q = go (ltb 127 v) refl in record { silent = q.0; table = q.1; other_kept = q.2 }
  where
    go : (t : Bool) → ltb 127 v ≡ t → Quiet l e (from_ear l e v)
    go true h = subst⁻¹ (Quiet l e) (large (value e v) l i h) (gets_nothing, refl, refl)
    go false h = subst⁻¹ (Quiet l e) (accepted e l v i (small v h)) (quiet_heard e l (heard (unfinished l e) v) n)

pub codes_wait : (e : Ear) (l : Links) (cs : List Call) (c : Command) (k : ℕ) → k + 1 < length (spelled c)
    → Says e l cs (take k (spelled c)) → Swallowed (run l cs) e (get_or (spelled c) k 0)
codes_wait e l cs c k h s =
    swallowed e (run l cs) (get_or (spelled c) k 0) (passed (run l cs) (run_kept l cs s.range))
    (ap (λ (u : Unfinished). (heard u (get_or (spelled c) k 0)).order) (says_left s) ∙ waits c k h)

pub unknown_swallowed : (e : Ear) (l : Links) (cs : List Call) (c : Command) → ordered c ≡ Nothing
    → Says e l cs (beginning c) → Swallowed (run l cs) e (last_of c)
unknown_swallowed e l cs c n s =
    swallowed e (run l cs) (last_of c) (passed (run l cs) (run_kept l cs s.range))
    (ap (λ (u : Unfinished). (heard u (last_of c)).order) (says_left s) ∙ ap (λ (h : Heard). h.order) (ends c) ∙ n)

-- ---- the last code

-- the last value of a command does what the command orders
last_does : (e : Ear) (l : Links) (cs : List Call) (c : Command) (o : Order) → ordered c ≡ o → last_of c < 128
    → Says e l cs (beginning c) → from_ear (run l cs) e (last_of c) ≡ taking (run l cs) e (does o)
last_does e l cs c o q h s =
    accepted e (run l cs) (last_of c) (passed (run l cs) (run_kept l cs s.range)) h
    ∙ ap (λ (u : Unfinished). taking (run l cs) e (heard u (last_of c))) (says_left s)
    ∙ ap (taking (run l cs) e) (ends c ∙ ap does q)

link_does : (e : Ear) (l : Links) (cs : List Call) (r s : Module) (on : Bool)
    → Says e l cs (beginning (link_command r s on))
    → from_ear (run l cs) e (sender_code s) ≡ taking (run l cs) e (does (Link r s on))
link_does e l cs r s on x =
    last_does e l cs (link_command r s on) (Link r s on) (link_ordered r s on) (sender_small s) x

ask_does : (e : Ear) (l : Links) (cs : List Call) (r : Module) → Says e l cs (beginning (ask_command r))
    → from_ear (run l cs) e (receiver_code r) ≡ taking (run l cs) e (does (Ask r))
ask_does e l cs r x = last_does e l cs (ask_command r) (Ask r) (ask_ordered r) (receiver_small r) x

-- the reply tells the table after the command
answered : (e : Ear) (l : Links) (v : ℕ) (o : Order) (receiver : Module) → from_ear l e v ≡ taking l e (does o)
    → ((m : Module) → gets (obeyed l.table (name_of e) o).sent m
    ≡ cond (same m (name_of e)) (reply_of (obeyed l.table (name_of e) o).table receiver) [])
    → Answered l e v receiver
answered e l v o receiver q g =
    record {
      taken = ap (λ (x : Outcome). x.answer) q ∙ answer_heard e l (does o);
      replied =
          λ m. subst⁻¹
          (λ (x : Outcome). gets x.sent m ≡ cond (same m (name_of e)) (reply_of x.next.table receiver) []) q
          (ap (λ (s : Sent). gets s m) (sent_heard e l (does o)) ∙ g m
          ∙ ap (λ (t : Table). cond (same m (name_of e)) (reply_of t receiver) []) (sym (table_heard e l (does o))));
      ended = ap (λ (x : Outcome). unfinished x.next e) q ∙ own_heard e l (does o);
      other_kept = ap (λ (x : Outcome). unfinished x.next (other e)) q ∙ other_heard e l (does o);
    }

pub link_answered : (e : Ear) (l : Links) (cs : List Call) (receiver sender : Module) (on : Bool)
    → Says e l cs (beginning (link_command receiver sender on)) → Answered (run l cs) e (sender_code sender) receiver
link_answered e l cs r s on x =
    answered e (run l cs) (sender_code s) (Link r s on) r (link_does e l cs r s on x)
    (link_replied (run l cs).table (name_of e) r s on)

pub ask_answered : (e : Ear) (l : Links) (cs : List Call) (receiver : Module)
    → Says e l cs (beginning (ask_command receiver)) → Answered (run l cs) e (receiver_code receiver) receiver
ask_answered e l cs r x =
    answered e (run l cs) (receiver_code r) (Ask r) r (ask_does e l cs r x) (ask_replied (run l cs).table (name_of e) r)

-- ---- what changes

pub one_link : (e : Ear) (l : Links) (cs : List Call) (receiver sender : Module) (on : Bool)
    → Says e l cs (beginning (link_command receiver sender on))
    → (a b : Module) → reaches (obey (value e (sender_code sender)) (run l cs)).next.table a b
    ≡ cond (not (same receiver sender) && (same a sender && same b receiver)) on (reaches (run l cs).table a b)
one_link e l cs r s on x a b =
    ap (λ (o : Outcome). reaches o.next.table a b) (link_does e l cs r s on x)
    ∙ ap (λ (t : Table). reaches t a b) (table_heard e (run l cs) (does (Link r s on)))
    ∙ pairs_after (run l cs).table (name_of e) r s on a b

pub asking_leaves : (e : Ear) (l : Links) (cs : List Call) (receiver : Module)
    → Says e l cs (beginning (ask_command receiver))
    → (obey (value e (receiver_code receiver)) (run l cs)).next.table ≡ (run l cs).table
asking_leaves e l cs r x =
    ap (λ (o : Outcome). o.next.table) (ask_does e l cs r x) ∙ table_heard e (run l cs) (does (Ask r))
    ∙ table_after_lem (run l cs).table (name_of e) (Ask r)
