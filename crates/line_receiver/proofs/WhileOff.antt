-- A new receiver is off, and off each byte passes by itself. Assumes nothing.
use mathlib.Core.Path.{◌≡◌, refl, sym, ap, ◌∙◌}
use mathlib.Core.Bool.{false}
use mathlib.Core.List.{[], ◌∷◌}
use Prim.Native.Nat.{ℕ, ◌<◌}
use Rattle.std.specs.Prelude.{None}
use Rattle.block_parity.specs.Parity.{even, with_parity}
use Rattle.line_codes.specs.Codes.{plainly}
use Rattle.line_codes.proofs.Removed.{plain_back, plain_odd}
use Rattle.line_phases.specs.declared.Phase.TheVariants.{Off}
use Rattle.line_receiver.specs.declared.Receiver.{Receiver}
use Rattle.line_receiver.specs.declared.Stepped.{Stepped}
use Rattle.line_receiver.specs.States.{InReceiver, new_receiver}
use Rattle.line_receiver.specs.Calls.{passing, stepped}
use Rattle.line_receiver.specs.Runs.{sent_by}
use Rattle.line_receiver.specs.Page.{passes}
use Rattle.line_receiver.proofs.Cases.{step_in}

-- "A new receiver is off, number 0, nothing held or seen"
pub new_off : (new_receiver.phase ≡ Off) × (new_receiver.number ≡ 0) × (new_receiver.count ≡ 0)
new_off = (refl, refl, refl)

module _ (r : Receiver) (g : InReceiver r) (f : r.phase ≡ Off) where
  by_itself : (b v : ℕ) → plainly b ≡ v
      → ((stepped r b).next ≡ r) × (sent_by (stepped r b) ≡ passes (v ∷ []) None)
  by_itself b v e =
      let p : stepped r b ≡ passing r v = sym (step_in r Off g.range f b) ∙ ap (passing r) e in
      (ap (λ (s : Stepped). s.next) p, ap sent_by p)

  -- "each byte is passed on with parity removed"
  pub value_passes : (v : ℕ) → v < 128
      → ((stepped r (with_parity v)).next ≡ r) × (sent_by (stepped r (with_parity v)) ≡ passes (v ∷ []) None)
  value_passes v h = by_itself (with_parity v) v (plain_back v h)

  -- "a byte of odd parity passes as 7/F"
  pub odd_passes : (b : ℕ) → even b ≡ false
      → ((stepped r b).next ≡ r) × (sent_by (stepped r b) ≡ passes (127 ∷ []) None)
  odd_passes b e = by_itself b 127 (plain_odd b e)
