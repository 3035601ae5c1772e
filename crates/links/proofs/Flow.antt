-- What is passed on reaches just the receivers that its sender is linked to. Assumes nothing.
use mathlib.Core.Path.{◌≡◌, sym, ap, ◌∙◌}
use mathlib.Core.Bool.{cond}
use mathlib.Core.List.{List, [], ◌∷◌}
use Prim.Native.Nat.{ℕ, ◌<◌}
use Rattle.links_wiring.specs.declared.Module.{Module}
use Rattle.links_wiring.specs.declared.Module.TheVariants.{Keyboard}
use Rattle.links_wiring.specs.Each.{Table}
use Rattle.links_wiring.specs.Tables.{reaches}
use Rattle.links_hearing.specs.declared.Unfinished.{Unfinished}
use Rattle.links_hearing.specs.declared.Unfinished.TheVariants.{Free}
use Rattle.links_commands.specs.declared.Order.{Order}
use Rattle.links_commands.specs.declared.Order.TheVariants.{Pass, Pair}
use Rattle.links_hearing.specs.Hearing.{does, heard}
use Rattle.links_hearing.proofs.Spelling.{plain, esc_held, paired}
use Rattle.links_sending.specs.Sending.{obeyed, gets}
use Rattle.links_sending.proofs.Getting.{pass_goes, pair_goes, table_after_lem}
use Rattle.links.specs.declared.Links.{Links}
use Rattle.links_hearing.specs.declared.ears.Ear.{Ear}
use Rattle.links_hearing.specs.declared.ears.Ear.TheVariants.{Modem as modem, Socket as socket}
use Rattle.links.specs.declared.Outcome.{Outcome}
use Rattle.links.specs.Calls.{taking, from_ear}
use Rattle.links_hearing.specs.Ears.{name_of}
use Rattle.links.specs.States.{unfinished, left}
use Rattle.links.specs.Runs.{Call, key, value, run, InLinks, Says, PassedOn, freed}
use Rattle.links.proofs.Steps.{accepted, key_accepted}
use Rattle.links.proofs.Ranges.{passed, run_kept}
use Rattle.links.proofs.Own.{says_left}

-- a value of an ear whose order keeps the table, and goes along the links
goes : (l : Links) (e : Ear) (v : ℕ) (o : Order) (vs : List ℕ) → from_ear l e v ≡ taking l e (does o)
    → (obeyed l.table (name_of e) o).table ≡ l.table
    → ((r : Module) → gets (obeyed l.table (name_of e) o).sent r ≡ cond (reaches l.table (name_of e) r) vs [])
    → PassedOn l (value e v) (name_of e) vs (freed l e)
unfolding taking
goes l e v o vs q k g =
    record {
      taken = ap (λ (x : Outcome). x.answer) q;
      state = ap (λ (x : Outcome). x.next) q ∙ ap (λ (t : Table). left l e t Free) k;
      reached = λ r. ap (λ (x : Outcome). gets x.sent r) q ∙ g r;
    }

free_already : (l : Links) (e : Ear) → unfinished l e ≡ Free → freed l e ≡ l
free_already l modem f = ap (left l modem l.table) (sym f)
free_already l socket f = ap (left l socket l.table) (sym f)

restated : (l : Links) (c : Call) (m : Module) (vs : List ℕ) {a b : Links} → a ≡ b
    → PassedOn l c m vs a → PassedOn l c m vs b
restated l c m vs e p = record { taken = p.taken; state = p.state ∙ e; reached = p.reached }

pub plain_goes : (l : Links) (e : Ear) (v : ℕ) → InLinks l → unfinished l e ≡ Free → v < 128 → (v ≡ 27 → ⊥)
    → PassedOn l (value e v) (name_of e) (v ∷ []) l
plain_goes l e v r f h n =
    restated l (value e v) (name_of e) (v ∷ []) (free_already l e f)
    (goes l e v (Pass v) (v ∷ [])
    (accepted e l v (passed l r) h ∙ ap (λ (u : Unfinished). taking l e (heard u v)) f ∙ ap (taking l e) (plain v n))
    (table_after_lem l.table (name_of e) (Pass v)) (pass_goes l.table (name_of e) v))

pub key_goes : (l : Links) (v : ℕ) → InLinks l → v < 128 → PassedOn l (key v) Keyboard (v ∷ []) l
key_goes l v r h =
    let q = key_accepted l v (passed l r) h in
    record {
      taken = ap (λ (x : Outcome). x.answer) q;
      state = ap (λ (x : Outcome). x.next) q;
      reached = λ m. ap (λ (x : Outcome). gets x.sent m) q ∙ pass_goes l.table Keyboard v m;
    }

-- ESC and its next code, by the table of that moment
pub pair_passes : (e : Ear) (l : Links) (cs : List Call) (v : ℕ) → Says e l cs (27 ∷ []) → v < 128
    → (v ≡ 57 → ⊥) → (v ≡ 58 → ⊥) → (v ≡ 59 → ⊥)
    → PassedOn (run l cs) (value e v) (name_of e) (27 ∷ v ∷ []) (freed (run l cs) e)
pair_passes e l cs v s h a b c =
    let now = run l cs in
    goes now e v (Pair v) (27 ∷ v ∷ [])
    (accepted e now v (passed now (run_kept l cs s.range)) h
    ∙ ap (λ (u : Unfinished). taking now e (heard u v)) (says_left s ∙ esc_held)
    ∙ ap (taking now e) (paired v a b c))
    (table_after_lem now.table (name_of e) (Pair v)) (pair_goes now.table (name_of e) v)
