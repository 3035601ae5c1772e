-- A reply said back is swallowed: nobody gets anything of it, and behind it the links are as they were. Assumes nothing.
use mathlib.Core.Path.{◌≡◌, refl, sym, ap, ◌∙◌, subst, subst⁻¹}
use mathlib.Core.Bool.{Bool, true, false, cond}
use mathlib.Core.List.{List, [], ◌∷◌, ◌++◌, map}
use Prim.Native.Nat.{ℕ, zero, suc, ◌<◌}
use native.Mathlib.Omega.{arith}
use lib.ListN.{get_or, take}
use Rattle.values.specs.Large.{Values}
use Rattle.values.proofs.Found.{values_head, values_tail}
use Rattle.links_wiring.specs.declared.Module.{Module}
use Rattle.links_wiring.specs.Each.{Table}
use Rattle.links_wiring.specs.Modules.{receiver_code}
use Rattle.links_replies.specs.Replies.{status_of, reply_of}
use Rattle.links_replies.proofs.Statuses.{reply_small}
use Rattle.links_commands.specs.declared.Order.TheVariants.{Nothing}
use Rattle.links_commands.specs.Commands.{pro3, spelled}
use Rattle.links_commands.proofs.Echoes.{reply_ordered}
use Rattle.links_hearing.specs.declared.Unfinished.{Unfinished}
use Rattle.links_hearing.specs.declared.Unfinished.TheVariants.{Free}
use Rattle.links_hearing.specs.Hearing.{heard, left_after}
use Rattle.links_hearing.proofs.Spelling.{over}
use Rattle.links_sending.proofs.Echoes.{reply_spelled}
use Rattle.links.specs.declared.Links.{Links}
use Rattle.links.specs.declared.Outcome.{Outcome}
use Rattle.links_hearing.specs.declared.ears.Ear.{Ear}
use Rattle.links_hearing.specs.declared.ears.Ear.TheVariants.{Modem as modem, Socket as socket}
use Rattle.links.specs.States.{unfinished}
use Rattle.links.specs.Runs.{same_ear, other, Call, value, obey, run, said, got_from, InLinks, Says, Swallowed}
use Rattle.links.proofs.Steps.{accepted, own_heard}
use Rattle.links.proofs.Ranges.{passed, kept}
use Rattle.links.proofs.Own.{own, said_so}
use Rattle.links.proofs.Replying.{swallowed, codes_wait, unknown_swallowed}

-- ---- value by value, whatever else is called in between

each_of : (e : Ear) (l : Links) (cs : List Call) (x y k : ℕ) → k < 5 → Says e l cs (take k (spelled (pro3 99 x y)))
    → Swallowed (run l cs) e (get_or (spelled (pro3 99 x y)) k 0)
each_of e l cs x y zero h s = codes_wait e l cs (pro3 99 x y) 0 (omega arith) s
each_of e l cs x y (suc zero) h s = codes_wait e l cs (pro3 99 x y) 1 (omega arith) s
each_of e l cs x y (suc (suc zero)) h s = codes_wait e l cs (pro3 99 x y) 2 (omega arith) s
each_of e l cs x y (suc (suc (suc zero))) h s = codes_wait e l cs (pro3 99 x y) 3 (omega arith) s
each_of e l cs x y (suc (suc (suc (suc zero)))) h s =
    unknown_swallowed e l cs (pro3 99 x y) (reply_ordered x y) s
each_of e l cs x y (suc (suc (suc (suc (suc k))))) h s = absurd (omega (arith, h))

pub each_swallowed : (e : Ear) (l : Links) (cs : List Call) (t : Table) (receiver : Module) (k : ℕ) → k < 5
    → Says e l cs (take k (reply_of t receiver)) → Swallowed (run l cs) e (get_or (reply_of t receiver) k 0)
each_swallowed e l cs t r k h =
    subst⁻¹ (λ (vs : List ℕ). Says e l cs (take k vs) → Swallowed (run l cs) e (get_or vs k 0)) (reply_spelled t r)
    (each_of e l cs (receiver_code r) (status_of t r) k h)

-- ---- all of it, one value after another

-- none of some values orders anything
Orderless : Unfinished → List ℕ → Type 0
Orderless u [] = Unit {0}
Orderless u (v ∷ vs) = ((heard u v).order ≡ Nothing) × Orderless (heard u v).unfinished vs

either_way : (t : Bool) → cond {A = List ℕ} t [] [] ≡ []
either_way true = refl
either_way false = refl

quiet : (e : Ear) (l : Links) (vs : List ℕ) → InLinks l → Values vs → Orderless (unfinished l e) vs
    → ((run l (map (value e) vs)).table ≡ l.table) × ((m : Module) → got_from e m l (map (value e) vs) ≡ [])
unfolding Orderless
quiet e l [] r h o = (refl, λ m. refl)
quiet e l (v ∷ vs) r h o =
    let i = passed l r in
    let next = (obey (value e v) l).next in
    let s = swallowed e l v i o.0 in
    let u : unfinished next e ≡ (heard (unfinished l e) v).unfinished =
    ap (λ (x : Outcome). unfinished x.next e) (accepted e l v i (values_head v vs h))
    ∙ own_heard e l (heard (unfinished l e) v) in
    let q = quiet e next vs (kept (value e v) l r) (values_tail v vs h)
    (subst⁻¹ (λ (x : Unfinished). Orderless x vs) u o.1) in (
      q.0 ∙ s.table,
      λ m. ap (λ (x : List ℕ). cond (same_ear e e) x [] ++ got_from e m next (map (value e) vs)) (s.silent m)
          ∙ ap (λ (x : List ℕ). x ++ got_from e m next (map (value e) vs)) (either_way (same_ear e e)) ∙ q.1 m,
    )

orderless : (x y : ℕ) → Orderless Free (spelled (pro3 99 x y))
unfolding Orderless heard
orderless x y = (refl, (refl, (refl, (refl, (reply_ordered x y, tt)))))

-- the other one says nothing
unsaid : (e : Ear) (vs : List ℕ) → said (other e) (map (value e) vs) ≡ []
unsaid modem [] = refl
unsaid modem (v ∷ vs) = unsaid modem vs
unsaid socket [] = refl
unsaid socket (v ∷ vs) = unsaid socket vs

same_links : (a b : Links) → a.table ≡ b.table → a.unfinished.modem ≡ b.unfinished.modem → a.unfinished.socket ≡ b.unfinished.socket → a ≡ b
same_links a b p q s =
    ap (λ (t : Table). record { table = t; unfinished = record { modem = a.unfinished.modem; socket = a.unfinished.socket } }) p
    ∙ ap (λ (u : Unfinished). record { table = b.table; unfinished = record { modem = u; socket = a.unfinished.socket } }) q
    ∙ ap (λ (u : Unfinished). record { table = b.table; unfinished = record { modem = b.unfinished.modem; socket = u } }) s

-- with nothing unfinished before it, nothing is behind it
own_over : (e : Ear) (l : Links) (x y : ℕ) → InLinks l → unfinished l e ≡ Free → Values (spelled (pro3 99 x y))
    → unfinished (run l (map (value e) (spelled (pro3 99 x y)))) e ≡ unfinished l e
own_over e l x y r f h =
    own l (map (value e) (spelled (pro3 99 x y))) e r
    ∙ ap (left_after (unfinished l e)) (said_so e (spelled (pro3 99 x y)) h)
    ∙ ap (λ (u : Unfinished). left_after u (spelled (pro3 99 x y))) f
    ∙ over (pro3 99 x y)
    ∙ sym f

others_stay : (e : Ear) (l : Links) (vs : List ℕ) → InLinks l
    → unfinished (run l (map (value e) vs)) (other e) ≡ unfinished l (other e)
others_stay e l vs r =
    own l (map (value e) vs) (other e) r ∙ ap (left_after (unfinished l (other e))) (unsaid e vs)

as_before : (e : Ear) (l : Links) (x y : ℕ) → InLinks l → unfinished l e ≡ Free → Values (spelled (pro3 99 x y))
    → (run l (map (value e) (spelled (pro3 99 x y))) ≡ l)
    × ((m : Module) → got_from e m l (map (value e) (spelled (pro3 99 x y))) ≡ [])
as_before e l x y r f h =
    let vs = spelled (pro3 99 x y) in
    let q = quiet e l vs r h (subst⁻¹ (λ (u : Unfinished). Orderless u vs) f (orderless x y)) in
    (whole e q.0 (own_over e l x y r f h) (others_stay e l vs r), q.1)
  where
    whole : (e : Ear) → (run l (map (value e) (spelled (pro3 99 x y)))).table ≡ l.table
        → unfinished (run l (map (value e) (spelled (pro3 99 x y)))) e ≡ unfinished l e
        → unfinished (run l (map (value e) (spelled (pro3 99 x y)))) (other e) ≡ unfinished l (other e)
        → run l (map (value e) (spelled (pro3 99 x y))) ≡ l
    whole modem p a b = same_links (run l (map (value modem) (spelled (pro3 99 x y)))) l p a b
    whole socket p a b = same_links (run l (map (value socket) (spelled (pro3 99 x y)))) l p b a

pub never_answered : (e : Ear) (l : Links) (t : Table) (receiver : Module) → InLinks l → unfinished l e ≡ Free
    → (run l (map (value e) (reply_of t receiver)) ≡ l)
    × ((m : Module) → got_from e m l (map (value e) (reply_of t receiver)) ≡ [])
never_answered e l t r i f =
    subst⁻¹
    (λ (vs : List ℕ). (run l (map (value e) vs) ≡ l) × ((m : Module) → got_from e m l (map (value e) vs) ≡ []))
    (reply_spelled t r)
    (as_before e l (receiver_code r) (status_of t r) i f (subst Values (reply_spelled t r) (reply_small t r)))
