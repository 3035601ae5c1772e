-- Every call keeps the range, and the test that the calls make tells it. Assumes nothing.
use mathlib.Core.Path.{◌≡◌, refl, subst⁻¹}
use mathlib.Core.Bool.{Bool, true, false, ◌&&◌, not}
use mathlib.Core.List.{List, [], ◌∷◌}
use Prim.Native.Nat.{ℕ, ◌≤◌}
use lib.Dec.{ltb, T}
use borrow.Author.Tests.{ltb-false}
use Rattle.laws.proofs.Computed.{chosen, and_left, and_right, holds, is_true}
use Rattle.values.specs.Large.{Values}
use Rattle.values.proofs.Found.{values_none}
use Rattle.links_wiring.specs.Each.{Table}
use Rattle.links_wiring.specs.Tables.{local_table, connected_table, self_linked, NoneItself}
use Rattle.links_wiring.proofs.Selves.{tested as selves-tested, passed as selves-passed}
use Rattle.links_wiring.proofs.Selves.{local_none, connected_none}
use Rattle.links_hearing.specs.declared.Unfinished.{Unfinished}
use Rattle.links_hearing.specs.Hearing.{codes_of, in_range as sequence_in_range, heard}
use Rattle.links_hearing.proofs.Ranges.{tested as codes-tested, passed as codes-passed, kept as codes-kept}
use Rattle.links_sending.proofs.Getting.{still_none_itself}
use Rattle.links.specs.declared.Links.{Links}
use Rattle.links_hearing.specs.declared.ears.Ear.{Ear}
use Rattle.links_hearing.specs.declared.ears.Ear.TheVariants.{Modem as modem, Socket as socket}
use Rattle.links.specs.declared.Outcome.{Outcome}
use Rattle.links_hearing.specs.Ears.{name_of}
use Rattle.links.specs.States.{unfinished, starting, local_links, connected_links, in_range}
use Rattle.links.specs.Calls.{with_table, choosing, taking}
use Rattle.links.specs.Runs.{Call, key, value, to_local, to_connected, obey, run, InLinks}
use Rattle.links.proofs.Steps.{accepted, keys_change_nothing}
use Rattle.links.proofs.Refusals.{broken, large, small}

-- ---- the test

pub not_true : (t : Bool) → T (not t) → t ≡ false
not_true true p = absurd p
not_true false p = refl

pub tested : (l : Links) → in_range l ≡ true → InLinks l
unfolding in_range
tested l e =
    let self = not (self_linked l.table) in
    let line = sequence_in_range l.unfinished.modem in
    let port = sequence_in_range l.unfinished.socket in
    let rest = and_right self (line && port) (holds e) in
    record {
      none_itself =
          selves-tested l.table (not_true (self_linked l.table) (and_left self (line && port) (holds e)));
      small = small (is_true line (and_left line port rest)) (is_true port (and_right line port rest));
    }
  where
    small : sequence_in_range l.unfinished.modem ≡ true → sequence_in_range l.unfinished.socket ≡ true → (e : Ear)
        → Values (codes_of (unfinished l e))
    small a b modem = codes-tested l.unfinished.modem a
    small a b socket = codes-tested l.unfinished.socket b

pub passed : (l : Links) → InLinks l → in_range l ≡ true
unfolding in_range
passed l r =
    simp (
      selves-passed l.table r.none_itself,
      codes-passed l.unfinished.modem (r.small modem),
      codes-passed l.unfinished.socket (r.small socket),
    )

-- ---- every call keeps it

with_table_lem : (l : Links) (t : Table) → NoneItself t → InLinks l → InLinks (with_table l t)
with_table_lem l t n r = record { none_itself = n; small = small }
  where
    small : (e : Ear) → Values (codes_of (unfinished (with_table l t) e))
    small modem = r.small modem
    small socket = r.small socket

chosen_kept : (l : Links) (t : Table) → NoneItself t → InLinks l → InLinks (choosing l t).next
unfolding choosing
chosen_kept l t n r = chosen (λ (o : Outcome). InLinks o.next) (in_range l) (λ i. with_table_lem l t n r) (λ i. r)

codes_still : (u : Unfinished) (v : ℕ) → Values (codes_of u) → v ≤ 127 → Values (codes_of (heard u v).unfinished)
codes_still u v s h = codes-tested (heard u v).unfinished (codes-kept u v (codes-passed u s) h)

heard_kept : (l : Links) (e : Ear) (v : ℕ) → InLinks l → v ≤ 127 → InLinks (taking l e (heard (unfinished l e) v)).next
unfolding taking
heard_kept l modem v r h =
    record {
      none_itself = still_none_itself l.table (name_of modem) (heard l.unfinished.modem v).order r.none_itself;
      small = small;
    }
  where
    small : (e : Ear) → Values (codes_of (unfinished (taking l modem (heard l.unfinished.modem v)).next e))
    small modem = codes_still l.unfinished.modem v (r.small modem) h
    small socket = r.small socket
heard_kept l socket v r h =
    record {
      none_itself = still_none_itself l.table (name_of socket) (heard l.unfinished.socket v).order r.none_itself;
      small = small;
    }
  where
    small : (e : Ear) → Values (codes_of (unfinished (taking l socket (heard l.unfinished.socket v)).next e))
    small modem = r.small modem
    small socket = codes_still l.unfinished.socket v (r.small socket) h

Keeps : Outcome → Type 0
Keeps o = InLinks o.next

pub kept : (c : Call) (l : Links) → InLinks l → InLinks (obey c l).next
unfolding Keeps
kept (key v) l r = subst⁻¹ InLinks (keys_change_nothing l v) r
kept (value e v) l r = go (in_range l) (ltb 127 v) refl refl
  where
    go : (i t : Bool) → in_range l ≡ i → ltb 127 v ≡ t → Keeps (obey (value e v) l)
    go true true i h = subst⁻¹ Keeps (large (value e v) l i h) r
    go true false i h =
        subst⁻¹ Keeps (accepted e l v i (small v h)) (heard_kept l e v r (ltb-false 127 v h))
    go false t i h = subst⁻¹ Keeps (broken (value e v) l i) r
kept to_local l r = chosen_kept l local_table local_none r
kept to_connected l r = chosen_kept l connected_table connected_none r

pub run_kept : (l : Links) (cs : List Call) → InLinks l → InLinks (run l cs)
run_kept l [] r = r
run_kept l (c ∷ cs) r = run_kept (obey c l).next cs (kept c l r)

-- ---- where it begins

begins : (t : Table) → NoneItself t → InLinks (starting t)
begins t n = record { none_itself = n; small = small }
  where
    small : (e : Ear) → Values (codes_of (unfinished (starting t) e))
    small modem = values_none
    small socket = values_none

pub local_in : InLinks local_links
local_in = begins local_table local_none

pub connected_in : InLinks connected_links
connected_in = begins connected_table connected_none
