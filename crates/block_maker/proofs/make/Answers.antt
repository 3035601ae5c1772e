-- `block_maker::make` meets its contract: each answer has passed the tests before its own. Assumes nothing.
use mathlib.Core.Path.{◌≡◌, ◌∙◌, subst}
use mathlib.Core.List.{List}
use Prim.Native.Nat.{ℕ, ◌≤◌}
use native.Mathlib.Omega.{arith}
use lib.ListN.{length}
use borrow.Author.Tests.{le-ltb, ne_eqb}
use Rattle.values.specs.Large.{first_large}
use Rattle.block_maker.proofs.Stores.{both_written}
use Rattle.block_maker.proofs.make.Goals as goal

-- no value is too large
no_large : (values : List ℕ) (at : ℕ) → at ≡ first_large values → length values ≤ at → length values ≤ first_large values
no_large values at e h = subst (λ (x : ℕ). length values ≤ x) e h

pub returns : goal.returns
returns c =
    let v : List ℕ = c.args.values.now in
    let o : List ℕ = c.args.out.now in (
      simp (
        ne_eqb _ _ c.if-n-eq0.false,
        le-ltb _ _ c.if-n-gt15.false,
        le-ltb _ _ (no_large _ _ c.first_large-at.ensures c.if-at-n.false),
        le-ltb _ _ c.if-out-lt17.false,
      ),
      c.seal.ensures ∙ both_written v o c.fill.new.out (omega arith) c.fill.ensures
          ∙ simp (
            ne_eqb _ _ c.if-n-eq0.false,
            le-ltb _ _ c.if-n-gt15.false,
            le-ltb _ _ (no_large _ _ c.first_large-at.ensures c.if-at-n.false),
            le-ltb _ _ c.if-out-lt17.false,
          ),
    )
