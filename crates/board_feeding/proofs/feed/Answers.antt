-- `board_feeding::feed` meets its contract. Assumes nothing.
use Rattle.std.proofs.Common.{◌≡◌, refl, sym, ap, ap₂, ◌∙◌, ℕ, ◌≤◌, List, length, take, take_all, get_or, rules, arith}
use mathlib.Core.Path.{subst⁻¹}
use lib.ListN.{length-take}
use Rattle.few.specs.declared.Few.{Few}
use Rattle.few.specs.Bytes.{contents}
use Rattle.links_wiring.specs.declared.Module.{Module}
use Rattle.links_wiring.specs.declared.Module.TheVariants.{Screen, Keyboard, Modem, Socket}
use Rattle.links.specs.declared.Links.{Links}
use Rattle.links.specs.declared.Outcome.{Outcome}
use Rattle.links.specs.Calls.{from_modem}
use Rattle.links.specs.Runs.{run}
use Rattle.board_feeding.specs.declared.Fed.{Fed}
use Rattle.board_feeding.specs.Feeding.{Shares, from_line, got, fed, gathered, Enough}
use Rattle.board_feeding.proofs.Suffices.{run_one, room, one_fed, enough}
use Rattle.board_feeding.proofs.feed.Goals as goal

-- there are fifteen at most
few : (f : Few 15) → length f.codes ≡ 15 → length (contents f) ≤ 15
few f n = omega (arith, n, length-take f.count f.codes)

whole : (l : Links) (vs : List ℕ) (f : Fed) → length vs ≤ 15 → f ≡ fed l vs → (f ≡ fed l vs) × Enough f.shares
whole l vs f h r = (r, subst⁻¹ (λ (g : Fed). Enough g.shares) r (enough l vs h))

pub returns-then-are_plain : goal.returns-then-are_plain
returns-then-are_plain c =
    let a = c.args in
    let g = c.well_formed in
    whole a.start (contents a.values) c.pass_all.result (few a.values (search (rules, g))) c.pass_all.ensures

pub loop-value-init : goal.loop-value-init
unfolding got
loop-value-init c = record { links = refl; shares = c.nothing-shares.ensures }

pub gather-shares-requires : goal.gather-shares-requires
gather-shares-requires c =
    let a = c.args in
    let l = c.loop-value in
    let g = c.well_formed in
    let vs = c.bytes-given.result.now in
    let h : length vs ≤ 15 = omega (arith, ap length c.bytes-given.ensures, few a.values (search (rules, g))) in
    let f : (m : Module) → length (got m a.start (from_line (take l.value-index vs))) ≤ 70 =
    room a.start vs l.value-index c.loop-value-test.true h in
    simp l.invariant.shares (record { inner = (f Screen, f Keyboard); outer = (f Modem, f Socket) })

pub loop-value-preserved : goal.loop-value-preserved
loop-value-preserved c =
    let a = c.args in
    let l = c.loop-value in
    let vs = c.bytes-given.result.now in
    let v : ℕ = get_or vs l.value-index 0 in
    let e : c.from_modem-outcome.result ≡ from_modem (run a.start (from_line (take l.value-index vs))) v =
    c.from_modem-outcome.ensures ∙ ap (λ (x : Links). from_modem x v) l.invariant.links in
    record {
      links = ap (λ (o : Outcome). o.next) e ∙ sym (run_one a.start vs l.value-index c.loop-value-test.true);
      shares = c.gather-shares.ensures ∙ ap₂ (λ (w : Shares) (o : Outcome). gathered w o.sent) l.invariant.shares e
          ∙ one_fed a.start vs l.value-index c.loop-value-test.true;
    }

pub returns : goal.returns
unfolding fed
returns c =
    let a = c.args in
    let l = c.loop-value in
    let g = c.well_formed in
    let vs = c.bytes-given.result.now in
    let z : take l.value-index vs ≡ contents a.values = take_all l.value-index vs c.loop-value-test.false ∙ c.bytes-given.ensures in
    whole a.start (contents a.values) (record { links = l.links; shares = l.shares }) (few a.values (search (rules, g)))
    (simp (l.invariant.links, l.invariant.shares, z))
