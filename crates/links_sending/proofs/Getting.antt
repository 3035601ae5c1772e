-- What each receiver gets of an order, and how much; and what the order does to the table. Assumes nothing.
use mathlib.Core.Path.{◌≡◌, refl, ap, ◌∙◌, subst⁻¹}
use mathlib.Core.Bool.{Bool, true, false, cond, ◌&&◌, not}
use mathlib.Core.List.{List, [], ◌∷◌}
use Prim.Native.Nat.{ℕ, ◌≤◌}
use native.Mathlib.Omega.{arith}
use lib.ListN.{length}
use Rattle.laws.proofs.Computed.{chosen}
use Rattle.values.specs.Large.{Values}
use Rattle.values.proofs.Found.{values_none, values_cons}
use Rattle.links_wiring.specs.declared.Module.{Module}
use Rattle.links_wiring.specs.declared.Module.TheVariants.{Screen, Keyboard, Modem, Socket}
use Rattle.links_wiring.specs.Each.{Row, Table}
use Rattle.links_wiring.specs.Modules.{same}
use Rattle.links_wiring.specs.Tables.{marked, reaches, NoneItself}
use Rattle.links_replies.specs.Replies.{reply_of}
use Rattle.links_replies.proofs.Statuses.{reply_length, reply_small}
use Rattle.links_commands.specs.declared.Order.{Order}
use Rattle.links_commands.specs.declared.Order.TheVariants.{Nothing, Pass, Pair, Link, Ask}
use Rattle.links_commands.specs.Commands.{SmallOrder}
use Rattle.links_changes.specs.Linking.{linked, table_after}
use Rattle.links_changes.proofs.Pairs.{linked_pairs}
use Rattle.links_changes.proofs.Selves.{none_itself_after}
use Rattle.few.specs.declared.Few.{Few}
use Rattle.few.specs.Bytes.{contents}
use Rattle.few.proofs.Kept.{kept}
use Rattle.links_wiring.specs.Each.{of}
use Rattle.links_wiring.proofs.Parts.{of_with, all_of}
use Rattle.links_sending.specs.Sending.{packed, to, nowhere, silence, only_to, receivers_for, bytes_for, sent_for}
use Rattle.links_sending.specs.Sending.{obeyed}
use Rattle.links_sending.specs.Sending.{part_of, gets, FewIn}
use Rattle.links_sending.proofs.Counts.{count_few}

-- ---- who gets it

part_of_lem : (w : Row) (b : Few 5) (r : Module) → part_of (to w b) r ≡ cond (marked w r) b (packed [])
part_of_lem w b Screen = refl
part_of_lem w b Keyboard = refl
part_of_lem w b Modem = refl
part_of_lem w b Socket = refl

given : (t : Bool) (vs : List ℕ) → contents (cond t (packed vs) (packed [])) ≡ cond t vs []
given true vs = kept 5 vs
given false vs = refl

-- the receivers that are meant get the bytes, and the others nothing
gets_sent : (t : Table) (from : Module) (o : Order) (r : Module)
    → gets (sent_for t from o) r ≡ cond (marked (receivers_for t from o) r) (bytes_for t o) []
gets_sent t from o r =
    ap contents (part_of_lem (receivers_for t from o) (packed (bytes_for t o)) r)
    ∙ given (marked (receivers_for t from o) r) (bytes_for t o)

pub gets_nothing : (r : Module) → gets silence r ≡ []
gets_nothing Screen = refl
gets_nothing Keyboard = refl
gets_nothing Modem = refl
gets_nothing Socket = refl

only_marked : (m r : Module) → marked (only_to m) r ≡ same r m
only_marked m r = of_with nowhere m true r ∙ go (same r m)
  where
    go : (t : Bool) → cond t true (of nowhere r) ≡ t
    go true = refl
    go false = all_of false r

-- what is passed on goes by the links
pub pass_goes : (t : Table) (from : Module) (v : ℕ) (r : Module)
    → gets (obeyed t from (Pass v)).sent r ≡ cond (reaches t from r) (v ∷ []) []
unfolding obeyed
pass_goes t from v r = gets_sent t from (Pass v) r

pub pair_goes : (t : Table) (from : Module) (v : ℕ) (r : Module)
    → gets (obeyed t from (Pair v)).sent r ≡ cond (reaches t from r) (27 ∷ v ∷ []) []
unfolding obeyed
pair_goes t from v r = gets_sent t from (Pair v) r

-- a reply goes to the sender alone, whatever its links, and tells the table after the command
pub link_replied : (t : Table) (from receiver sender : Module) (on : Bool) (r : Module)
    → let done = obeyed t from (Link receiver sender on) in
    gets done.sent r ≡ cond (same r from) (reply_of done.table receiver) []
unfolding obeyed
link_replied t from receiver sender on r =
    let after = linked t receiver sender on in
    gets_sent after from (Link receiver sender on) r
    ∙ ap (λ (b : Bool). cond b (reply_of after receiver) []) (only_marked from r)

pub ask_replied : (t : Table) (from receiver r : Module)
    → let done = obeyed t from (Ask receiver) in
    gets done.sent r ≡ cond (same r from) (reply_of done.table receiver) []
unfolding obeyed
ask_replied t from receiver r =
    gets_sent t from (Ask receiver) r ∙ ap (λ (b : Bool). cond b (reply_of t receiver) []) (only_marked from r)

pub nothing_sent : (t : Table) (from r : Module) → gets (obeyed t from Nothing).sent r ≡ []
unfolding obeyed
nothing_sent t from r = gets_nothing r

-- ---- the table after it

pub table_after_lem : (t : Table) (from : Module) (o : Order) → (obeyed t from o).table ≡ table_after t o
unfolding obeyed
table_after_lem t from o = refl

-- a link command sets or clears the pair that it names, where it names two modules, and leaves every other
pub pairs_after : (t : Table) (from receiver sender : Module) (on : Bool) (a b : Module)
    → reaches (obeyed t from (Link receiver sender on)).table a b
    ≡ cond (not (same receiver sender) && (same a sender && same b receiver)) on (reaches t a b)
unfolding obeyed
pairs_after t from receiver sender on a b = linked_pairs t receiver sender a b on

pub still_none_itself : (t : Table) (from : Module) (o : Order) → NoneItself t → NoneItself (obeyed t from o).table
unfolding obeyed
still_none_itself t from o n = none_itself_after t o n

-- ---- how much

-- at most five bytes, none above 127
AtMostFive : List ℕ → Type 0
AtMostFive vs = (length vs ≤ 5) × Values vs

few_reply : (t : Table) (receiver : Module) → AtMostFive (reply_of t receiver)
unfolding AtMostFive
few_reply t r = (omega (arith, reply_length t r), reply_small t r)

few_bytes : (t : Table) (o : Order) → SmallOrder o → AtMostFive (bytes_for t o)
unfolding AtMostFive
few_bytes t Nothing s = (omega arith, values_none)
few_bytes t (Pass v) s = (omega arith, values_cons v [] s values_none)
few_bytes t (Pair v) s = (omega arith, values_cons 27 (v ∷ []) (omega arith) (values_cons v [] s values_none))
few_bytes t (Link receiver sender on) s = few_reply t receiver
few_bytes t (Ask receiver) s = few_reply t receiver

few_packed : (vs : List ℕ) → AtMostFive vs → FewIn (packed vs)
unfolding AtMostFive
few_packed vs f = (count_few vs f.0, ap length (kept 5 vs), subst⁻¹ Values (kept 5 vs) f.1)

few_none : FewIn (packed [])
unfolding AtMostFive
few_none = few_packed [] (omega arith, values_none)

pub few_sent : (t : Table) (from : Module) (o : Order) → SmallOrder o
    → (r : Module) → FewIn (part_of (obeyed t from o).sent r)
unfolding obeyed
few_sent t from o s r =
    let after = table_after t o in
    subst⁻¹ FewIn (part_of_lem (receivers_for after from o) (packed (bytes_for after o)) r)
    (chosen FewIn (marked (receivers_for after from o) r)
    (λ e. few_packed (bytes_for after o) (few_bytes after o s)) (λ e. few_none))

pub few_silence : (r : Module) → FewIn (part_of silence r)
few_silence r =
    subst⁻¹ FewIn (part_of_lem nowhere (packed []) r)
    (chosen FewIn (marked nowhere r) (λ e. few_none) (λ e. few_none))
