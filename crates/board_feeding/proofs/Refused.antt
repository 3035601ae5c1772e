-- Broken links, and values above 127: nothing changes and nobody gets anything. Assumes nothing.
use mathlib.Core.Path.{◌≡◌, refl, ap, ◌∙◌}
use mathlib.Core.Bool.{true, false}
use mathlib.Core.List.{List, [], ◌∷◌, ◌++◌}
use Prim.Native.Nat.{ℕ, ◌<◌}
use borrow.Author.Tests.{lt-ltb}
use Rattle.links_wiring.specs.declared.Module.{Module}
use Rattle.links_wiring.specs.declared.Module.TheVariants.{Screen, Keyboard, Modem, Socket}
use Rattle.links_sending.specs.Sending.{gets}
use Rattle.links_sending.proofs.Getting.{gets_nothing}
use Rattle.links_hearing.specs.declared.ears.Ear.TheVariants.{Modem as modem}
use Rattle.links.specs.declared.Links.{Links}
use Rattle.links.specs.declared.Refusal.{Refusal}
use Rattle.links.specs.declared.Outcome.{Outcome}
use Rattle.links.specs.States.{in_range}
use Rattle.links.specs.Calls.{refused}
use Rattle.links.specs.Runs.{value, obey, run}
use Rattle.links.proofs.Refusals.{broken, large}
use Rattle.board_feeding.specs.Feeding.{from_line, got, nobody, fed}

-- a value that the links refuse is left out
module _ (l : Links) (v : ℕ) (a : Refusal) (e : obey (value modem v) l ≡ refused l a) (vs : List ℕ) where
  run_same : run l (from_line (v ∷ vs)) ≡ run l (from_line vs)
  run_same = ap (λ (o : Outcome). run o.next (from_line vs)) e

  got_same : (m : Module) → got m l (from_line (v ∷ vs)) ≡ got m l (from_line vs)
  unfolding got
  got_same m =
      ap (λ (o : Outcome). gets o.sent m ++ got m o.next (from_line vs)) e
      ∙ ap (λ (ws : List ℕ). ws ++ got m l (from_line vs)) (gets_nothing m)

  left_out : fed l (v ∷ vs) ≡ fed l vs
  unfolding fed
  left_out = simp (run_same, got_same Screen, got_same Keyboard, got_same Modem, got_same Socket)

pub large_fed : (l : Links) → in_range l ≡ true → (v : ℕ) → 127 < v → (vs : List ℕ) → fed l (v ∷ vs) ≡ fed l vs
large_fed l i v h vs = left_out l v _ (large (value modem v) l i (lt-ltb 127 v h)) vs

pub broken_fed : (l : Links) → in_range l ≡ false → (vs : List ℕ) → fed l vs ≡ record { links = l; shares = nobody }
unfolding fed got
broken_fed l i [] = refl
broken_fed l i (v ∷ vs) = left_out l v _ (broken (value modem v) l i) vs ∙ broken_fed l i vs
