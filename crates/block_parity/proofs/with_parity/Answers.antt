-- `block_parity::with_parity` meets its contract. Assumes nothing.
use mathlib.Core.Path.{sym, ◌∙◌}
use Prim.Native.Nat.{◌%◌}
use native.Mathlib.Nat.{mod-lt, zero-lt-suc}
use Rattle.block_parity.proofs.Parities.{parity_is, parity_low}
use Rattle.block_parity.proofs.with_parity.Goals as goal

pub returns-then-is_even : goal.returns-then-is_even
returns-then-is_even c =
    let v = c.args.value in
    sym (parity_is (v % 128) (mod-lt v (zero-lt-suc 127)) (sym c.is_even.ensures ∙ c.if-is_even.true))
    ∙ parity_low v

pub returns-else-is_even : goal.returns-else-is_even
returns-else-is_even c =
    let v = c.args.value in
    sym (parity_is (v % 128) (mod-lt v (zero-lt-suc 127)) (sym c.is_even.ensures ∙ c.if-is_even.false))
    ∙ parity_low v
