-- What one call does where it is not refused. Assumes nothing.
use mathlib.Core.Path.{◌≡◌, refl}
use mathlib.Core.Bool.{Bool, true, false}
use Prim.Native.Nat.{ℕ, ◌<◌}
use native.Mathlib.Omega.{arith}
use lib.Dec.{ltb}
use borrow.Author.Tests.{le-ltb}
use Rattle.std.specs.Prelude.{Ok}
use Rattle.links_wiring.specs.declared.Module.TheVariants.{Keyboard}
use Rattle.links_wiring.specs.Each.{Table}
use Rattle.links_commands.specs.declared.Order.TheVariants.{Pass}
use Rattle.links_hearing.specs.declared.Heard.{Heard}
use Rattle.links_hearing.specs.Hearing.{heard}
use Rattle.links_sending.specs.Sending.{silence, obeyed}
use Rattle.links.specs.declared.Links.{Links}
use Rattle.links_hearing.specs.declared.ears.Ear.{Ear}
use Rattle.links_hearing.specs.declared.ears.Ear.TheVariants.{Modem as modem, Socket as socket}
use Rattle.links_hearing.specs.Ears.{name_of}
use Rattle.links_hearing.proofs.Apart.{owns}
use Rattle.links.specs.States.{unfinished, in_range}
use Rattle.links.specs.Calls.{taken, with_table, choosing, with_local, with_connected, taking, from_ear}
use Rattle.links.specs.Calls.{from_keyboard, from_modem, from_socket}
use Rattle.links.specs.Runs.{other, key, value, to_local, to_connected, obey}

pub accepted : (e : Ear) (l : Links) (v : ℕ) → in_range l ≡ true → v < 128
    → from_ear l e v ≡ taking l e (heard (unfinished l e) v)
unfolding from_ear
accepted e l v i h = simp (i, le-ltb 127 v (omega (arith, h)))

pub key_accepted : (l : Links) (v : ℕ) → in_range l ≡ true → v < 128
    → from_keyboard l v ≡ taken l (obeyed l.table Keyboard (Pass v)).sent
unfolding from_keyboard
key_accepted l v i h = simp (i, le-ltb 127 v (omega (arith, h)))

pub table_chosen : (l : Links) (t : Table) → in_range l ≡ true → choosing l t ≡ taken (with_table l t) silence
unfolding choosing
table_chosen l t i = simp i

-- ---- the parts of what was heard

pub answer_heard : (e : Ear) (l : Links) (h : Heard) → (taking l e h).answer ≡ Ok tt
unfolding taking
answer_heard e l h = refl

pub table_heard : (e : Ear) (l : Links) (h : Heard)
    → (taking l e h).next.table ≡ (obeyed l.table (name_of e) h.order).table
unfolding taking
table_heard modem l h = refl
table_heard socket l h = refl

pub own_heard : (e : Ear) (l : Links) (h : Heard) → unfinished (taking l e h).next e ≡ h.unfinished
unfolding taking
own_heard modem l h = (owns h.unfinished l.unfinished.socket).0
own_heard socket l h = (owns l.unfinished.modem h.unfinished).1

pub other_heard : (e : Ear) (l : Links) (h : Heard) → unfinished (taking l e h).next (other e) ≡ unfinished l (other e)
unfolding taking
other_heard modem l h = refl
other_heard socket l h = refl

pub sent_heard : (e : Ear) (l : Links) (h : Heard) → (taking l e h).sent ≡ (obeyed l.table (name_of e) h.order).sent
unfolding taking
sent_heard e l h = refl

-- ---- keys

pub keys_change_nothing : (l : Links) (v : ℕ) → (obey (key v) l).next ≡ l
unfolding from_keyboard
keys_change_nothing l v = go (in_range l) (ltb 127 v) refl refl
  where
    go : (i t : Bool) → in_range l ≡ i → ltb 127 v ≡ t → (from_keyboard l v).next ≡ l
    go true true e f = simp (e, f)
    go true false e f = simp (e, f)
    go false true e f = simp (e, f)
    go false false e f = simp (e, f)

-- ---- the calls of a run are the public ones

pub public_values : (l : Links) (v : ℕ)
    → (obey (key v) l ≡ from_keyboard l v) × (obey (value modem v) l ≡ from_modem l v)
    × (obey (value socket v) l ≡ from_socket l v)
public_values l v = (refl, refl, refl)

pub public_choices : (l : Links) → (obey to_local l ≡ with_local l) × (obey to_connected l ≡ with_connected l)
public_choices l = (refl, refl)
