-- `board_feeding::share_out` meets its contract. Assumes nothing.
use mathlib.Core.Path.{◌≡◌, ap, ◌∙◌, subst⁻¹}
use Prim.Native.Nat.{◌≤◌}
use mathlib.Core.List.{[]}
use native.Mathlib.Omega.{arith}
use lib.ListN.{length, length-take}
use Rattle.few.specs.declared.Few.{Few}
use Rattle.few.specs.Bytes.{contents}
use Rattle.links_sending.specs.Sending.{gets}
use Rattle.board_feeding.specs.Feeding.{Shares, shares_of, gathered, Enough}
use Rattle.board_feeding.proofs.Outlets.{gathers}
use borrow.Author.Rules.{rules}
use Rattle.board_feeding.proofs.share_out.Goals as goal

pub gather-requires : goal.gather-requires
gather-requires c = simp c.nothing.ensures (record { inner = (omega arith, omega arith); outer = (omega arith, omega arith) })

pub returns : goal.returns
returns c =
    let sent = c.args.sent in
    let r : c.gather.result ≡ shares_of (gets sent) =
    c.gather.ensures ∙ ap (λ (w : Shares). gathered w sent) c.nothing.ensures ∙ gathers (λ m. []) sent in
    let few : (b : Few 5) → length b.codes ≡ 5 → length (contents b) ≤ 75 =
    λ b n. omega (arith, n, length-take b.count b.codes) in (
      r,
      subst⁻¹ Enough r
          (record {
            screen = few sent.screen (search (rules, c.well_formed.0));
            keyboard = few sent.keyboard (search (rules, c.well_formed.0.1));
            modem = few sent.modem (search (rules, c.well_formed.0.1.1));
            socket = few sent.socket (search (rules, c.well_formed.0.1.1.1));
          }),
    )
