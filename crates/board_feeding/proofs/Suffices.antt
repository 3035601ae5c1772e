-- Runs of the links, call by call: what a module gets, and that it is at most five bytes for each call. Assumes
-- nothing.
use mathlib.Core.Path.{◌≡◌, refl, sym, ap, ◌∙◌}
use mathlib.Core.List.{List, [], ◌∷◌, ◌++◌, append_assoc, append-nil}
use Prim.Native.Nat.{ℕ, ◌+◌, ◌*◌, ◌≤◌, ◌<◌}
use native.Mathlib.Numerals.{add-one}
use native.Mathlib.Omega.{arith}
use lib.ListN.{length, take, get_or, length-append, length-map, length-take}
use lib.Seq.{take-suc, length-take-le}
use Rattle.values.specs.Large.{Values}
use Rattle.values.proofs.Found.{values_none, values_append}
use Rattle.links_wiring.specs.declared.Module.{Module}
use Rattle.links_wiring.specs.declared.Module.TheVariants.{Screen, Keyboard, Modem, Socket}
use Rattle.links.specs.declared.Links.{Links}
use Rattle.links_hearing.specs.declared.ears.Ear.TheVariants.{Modem as modem}
use Rattle.links.specs.Calls.{from_modem}
use Rattle.links.specs.Runs.{Call, value, obey, given, run}
use Rattle.links.proofs.Few.{few}
use Rattle.board_feeding.specs.Feeding.{from_line, got, shares_of, fed, Enough, gathered}
use Rattle.board_feeding.proofs.Outlets.{gathers}

-- ---- some calls, then others

pub run_append : (l : Links) (cs ds : List Call) → run l (cs ++ ds) ≡ run (run l cs) ds
run_append l [] ds = refl
run_append l (c ∷ cs) ds = run_append (obey c l).next cs ds

pub got_append : (m : Module) (l : Links) (cs ds : List Call)
    → got m l (cs ++ ds) ≡ got m l cs ++ got m (run l cs) ds
unfolding got
got_append m l [] ds = refl
got_append m l (c ∷ cs) ds =
    ap (λ (x : List ℕ). given l c m ++ x) (got_append m (obey c l).next cs ds)
    ∙ sym (append_assoc (given l c m) (got m (obey c l).next cs) (got m (run (obey c l).next cs) ds))

line_append : (vs ws : List ℕ) → from_line (vs ++ ws) ≡ from_line vs ++ from_line ws
line_append [] ws = refl
line_append (v ∷ vs) ws = ap (λ (x : List Call). value modem v ∷ x) (line_append vs ws)

-- ---- one value more

one_more : (vs : List ℕ) (i : ℕ) → i < length vs
    → from_line (take (i + 1) vs) ≡ from_line (take i vs) ++ (value modem (get_or vs i 0) ∷ [])
one_more vs i h =
    ap (λ (n : ℕ). from_line (take n vs)) (add-one i) ∙ ap from_line (take-suc vs i 0 h)
    ∙ line_append (take i vs) (get_or vs i 0 ∷ [])

pub run_one : (l : Links) (vs : List ℕ) (i : ℕ) → i < length vs
    → run l (from_line (take (i + 1) vs)) ≡ (obey (value modem (get_or vs i 0)) (run l (from_line (take i vs)))).next
run_one l vs i h = ap (run l) (one_more vs i h) ∙ run_append l (from_line (take i vs)) (value modem (get_or vs i 0) ∷ [])

pub got_one : (m : Module) (l : Links) (vs : List ℕ) (i : ℕ) → i < length vs
    → got m l (from_line (take (i + 1) vs))
    ≡ got m l (from_line (take i vs)) ++ given (run l (from_line (take i vs))) (value modem (get_or vs i 0)) m
unfolding got
got_one m l vs i h =
    let before = from_line (take i vs) in
    let c = value modem (get_or vs i 0) in
    ap (got m l) (one_more vs i h) ∙ got_append m l before (c ∷ [])
    ∙ ap (λ (x : List ℕ). got m l before ++ x) (append-nil (given (run l before) c m))

-- ---- how much

pub few_got : (m : Module) (l : Links) (cs : List Call) → length (got m l cs) ≤ 5 * length cs
unfolding got
few_got m l [] = omega arith
few_got m l (c ∷ cs) =
    let f = few c l m in
    let sum = length-append (given l c m) (got m (obey c l).next cs) in
    let rest = few_got m (obey c l).next cs in omega (arith, f.0, f.1, sum, rest)

-- none of it above 127
pub small_got : (m : Module) (l : Links) (cs : List Call) → Values (got m l cs)
unfolding got
small_got m l [] = values_none
small_got m l (c ∷ cs) =
    values_append (given l c m) (got m (obey c l).next cs) (few c l m).2 (small_got m (obey c l).next cs)

-- of the first i values
pub few_of : (m : Module) (l : Links) (vs : List ℕ) (i : ℕ) → i ≤ length vs
    → length (got m l (from_line (take i vs))) ≤ 5 * i
few_of m l vs i h =
    let n = few_got m l (from_line (take i vs)) in
    let t : length (from_line (take i vs)) ≡ i = length-map (take i vs) (value modem) ∙ length-take-le i vs h in
    omega (arith, n, t)

-- ---- what one call sends, behind what each module has

pub one_fed : (l : Links) (vs : List ℕ) (i : ℕ) → i < length vs
    → gathered (shares_of (λ m. got m l (from_line (take i vs))))
    (from_modem (run l (from_line (take i vs))) (get_or vs i 0)).sent
    ≡ shares_of (λ m. got m l (from_line (take (i + 1) vs)))
one_fed l vs i h =
    let before = from_line (take i vs) in
    simp (
      got_one Screen l vs i h,
      got_one Keyboard l vs i h,
      got_one Modem l vs i h,
      got_one Socket l vs i h,
    )
    (gathers (λ m. got m l before) (from_modem (run l before) (get_or vs i 0)).sent)

-- room for what one call more sends
pub room : (l : Links) (vs : List ℕ) (i : ℕ) → i < length vs → length vs ≤ 15
    → (m : Module) → length (got m l (from_line (take i vs))) ≤ 70
room l vs i h k m = omega (arith, few_of m l vs i (omega arith))

-- seventy-five places suffice for what comes of fifteen values
pub suffices : (m : Module) (l : Links) (vs : List ℕ) (n : ℕ) → length vs ≤ 15
    → length (got m l (from_line (take n vs))) ≤ 75
suffices m l vs n h =
    let few = few_got m l (from_line (take n vs)) in
    let same = length-map (take n vs) (value modem) in
    omega (arith, few, same, length-take n vs)

pub enough : (l : Links) (vs : List ℕ) → length vs ≤ 15 → Enough (fed l vs).shares
unfolding fed
enough l vs h =
    let at : (m : Module) → length (got m l (from_line vs)) ≤ 75 =
    λ m. omega (arith, few_got m l (from_line vs), length-map vs (value modem)) in
    record { screen = at Screen; keyboard = at Keyboard; modem = at Modem; socket = at Socket }
