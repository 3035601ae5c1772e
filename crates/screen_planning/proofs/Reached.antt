-- What a value asks of the cells: blanking for FF alone, and no more characters than it reaches, at the cursor.
-- Assumes nothing.
use mathlib.Core.Path.{◌≡◌, refl, ap}
use mathlib.Core.Bool.{Bool, true, false, cond, ◌&&◌, not}
use Prim.Native.Nat.{ℕ, ◌-◌, ◌/◌, ◌≤◌}
use native.Mathlib.Nat.{le_refl}
use lib.Dec.{ltb, leb, eqb}
use Rattle.std.specs.Prelude.{Option, Some, None}
use Rattle.screen_cells.specs.declared.Character.{Character}
use Rattle.laws.proofs.Computed.{chosen}
use Rattle.screen_cursor.specs.declared.Place.{Place}
use Rattle.screen_sequences.specs.declared.Sequence.{Sequence}
use Rattle.screen_sequences.specs.declared.Sequence.TheVariants.{Free, Escape, Long, Control, Separator, Repeat}
use Rattle.screen_sequences.specs.declared.Sequence.TheVariants.{Single, Address, Row}
use Rattle.screen_sequences.specs.declared.Order.{Order}
use Rattle.screen_sequences.specs.declared.Order.TheVariants.{Skip}
use Rattle.screen_sequences.specs.declared.Heard.{Heard}
use Rattle.screen_sequences.specs.Sequences.{is_separator, does, opens, begins, control, followed}
use Rattle.screen_sequences.proofs.Stays.{none, also, among_in}
use Rattle.screen_pen.specs.declared.Pen.{Pen}
use Rattle.screen_planning.specs.declared.Asked.{Asked}
use Rattle.screen_planning.specs.declared.Asked.TheVariants.{Nothing, Blank, Put}
use Rattle.screen_planning.specs.Changing.{with_sequence}
use Rattle.screen_planning.specs.Obeying.{again, obeyed}
use Rattle.screen_planning.specs.Planning.{planned}
use Rattle.screen_planning.specs.Reach.{reach, writes, clears}
use Rattle.screen_planning.proofs.Plans.{planned_by}

-- asked with the pen at place y: blanking where t holds, and at most n characters from place x on
abbrev pub Asks : Bool → ℕ → Place → Place → Asked → Type 0
Asks t n x y Nothing = Unit {0}
Asks t n x y Blank = t ≡ true
Asks t n x y (Put c m) = (m ≤ n) × (y ≡ x)

-- so does the plan for what is heard
abbrev Within : Pen → Bool → ℕ → Heard → Type 0
Within p t n h = Asks t n p.here.place (planned_by p h).pen.here.place (planned_by p h).asked

module _ (p : Pen) (t : Bool) where
  again_asks : (l : Option Character) (n : ℕ)
      → Asks t n p.here.place (again (with_sequence p Free) l n).pen.here.place (again (with_sequence p Free) l n).asked
  again_asks None n = tt
  again_asks (Some x) n = (le_refl n, refl)

  -- a code from 2/0
  follow_asks : (q : Sequence) (c : ℕ) → Within p t (reach q c) (followed q c)
  unfolding obeyed
  follow_asks Free c = (le_refl 1, refl)
  follow_asks Escape c =
      chosen (Within p t 0) (ltb c 48) (λ e. tt) (λ e. chosen (Within p t 0) (eqb c 91) (λ f. tt) (λ f. tt))
  follow_asks Long c = chosen (Within p t 0) (leb 48 c && leb c 126) (λ e. tt) (λ e. tt)
  follow_asks Control c = chosen (Within p t 0) (leb 64 c && leb c 126) (λ e. tt) (λ e. tt)
  follow_asks Separator c = tt
  follow_asks Repeat c =
      chosen (Within p t (c - 64)) (ltb c 64) (λ e. tt) (λ e. again_asks p.last (c - 64))
  follow_asks Single c = chosen (Within p t 1) (eqb (c / 16) 4) (λ e. tt) (λ e. (le_refl 1, refl))
  follow_asks Address c = tt
  follow_asks (Row r) c = tt

-- a C0 code that is obeyed: FF alone asks anything
control_asks : (p : Pen) (b : ℕ) (t : Bool) → (eqb b 12 ≡ true → t ≡ true) → Within p t 0 (control b)
unfolding obeyed
control_asks p b t f =
    among_in Silent b Skip
    (also (λ e. tt) (also (λ e. tt) (also (λ e. tt) (also (λ e. tt) (also f (also (λ e. tt) (also (λ e. tt)
    (also (λ e. tt) (also (λ e. tt) (also (λ e. tt) (also (λ e. tt) none)))))))))))
    tt
  where
    Silent : Order → Type 0
    Silent o = Within p t 0 (record { sequence = begins b; order = o })

-- any value, by its tests
by_tests : (p : Pen) (q : Sequence) (b : ℕ) (z u v : Bool)
    → Within p (eqb b 12 && not v) (cond u (reach q b) 0)
    (cond z (opens q) (cond u (followed q b) (cond v (does Skip) (control b))))
unfolding obeyed
by_tests p q b true u v = tt
by_tests p q b false true v = follow_asks p (eqb b 12 && not v) q b
by_tests p q b false false true = tt
by_tests p q b false false false = control_asks p b (eqb b 12 && true) (λ e. ap (λ (t : Bool). t && true) e)

pub plan_asks : (p : Pen) (b : ℕ)
    → Asks (clears p.sequence b) (writes p.sequence b) p.here.place (planned p b).pen.here.place (planned p b).asked
plan_asks p b = by_tests p p.sequence b (eqb b 0) (ltb 31 b) (is_separator p.sequence)
