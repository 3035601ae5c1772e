-- Plain values go along the links of the modem, and change nothing. Assumes nothing.
use mathlib.Core.Path.{◌≡◌, refl, sym, ap, ap₂, ◌∙◌}
use mathlib.Core.Bool.{Bool, true, false, cond, ◌&&◌, not}
use mathlib.Core.List.{List, [], ◌∷◌, ◌++◌}
use Prim.Native.Nat.{ℕ, zero, suc, ◌≤◌}
use native.Mathlib.Omega.{arith}
use lib.Dec.{ltb, eqb}
use lib.ListN.{length, length-take, take}
use Rattle.std.proofs.lemmas.List.{take_all}
use Rattle.std.specs.List.{fold}
use borrow.Author.Tests.{ltb-true}
use Rattle.laws.proofs.Computed.{fails, holds, is_true, and_left, and_right}
use Rattle.links_wiring.specs.declared.Module.{Module}
use Rattle.links_wiring.specs.declared.Module.TheVariants.{Screen, Keyboard, Modem, Socket}
use Rattle.links_wiring.specs.Each.{Row, either}
use Rattle.links_wiring.specs.Tables.{marked, reaches, self_linked}
use Rattle.links_hearing.specs.Hearing.{in_range as held_in_range}
use Rattle.links_hearing.specs.declared.Unfinished.{Unfinished}
use Rattle.links_hearing.specs.declared.Unfinished.TheVariants.{Free, Escape, Pro1, Pro2, Pro2With}
use Rattle.links_hearing.specs.declared.Unfinished.TheVariants.{Pro3, Pro3With, Pro3Both}
use Rattle.links_hearing.specs.declared.ears.Ear.TheVariants.{Modem as modem}
use Rattle.links.specs.declared.Links.{Links}
use Rattle.links.specs.States.{in_range, connected_links}
use Rattle.links.specs.Runs.{value, run, PassedOn}
use Rattle.links.proofs.Ranges.{tested}
use Rattle.links.proofs.Flow.{plain_goes}
use Rattle.board_feeding.specs.Feeding.{from_line, got, outlet, Shares, shares_of, fed}
use Rattle.board_feeding.specs.Plain.{plain, all_plain, is_free, are_plain}

-- ---- what the test says

-- links in range with nothing unfinished from the modem, and values of 0 to 127 without ESC
record Passing (l : Links) (vs : List ℕ) : Type 0 where
  range : in_range l ≡ true
  free : l.unfinished.modem ≡ Free
  plain : all_plain vs ≡ true

left : (a b : Bool) → a && b ≡ true → a ≡ true
left a b e = is_true a (and_left a b (holds e))

right : (a b : Bool) → a && b ≡ true → b ≡ true
right a b e = is_true b (and_right a b (holds e))

not_esc : (v : ℕ) → not (eqb v 27) ≡ true → v ≡ 27 → ⊥
not_esc v e q = fails (sym e ∙ ap (λ (n : ℕ). not (eqb n 27)) q) tt

is_free_lem : (u : Unfinished) → is_free u ≡ true → u ≡ Free
is_free_lem Free e = refl
is_free_lem Escape e = absurd (fails (sym e) tt)
is_free_lem Pro1 e = absurd (fails (sym e) tt)
is_free_lem Pro2 e = absurd (fails (sym e) tt)
is_free_lem (Pro2With a) e = absurd (fails (sym e) tt)
is_free_lem Pro3 e = absurd (fails (sym e) tt)
is_free_lem (Pro3With a) e = absurd (fails (sym e) tt)
is_free_lem (Pro3Both a b) e = absurd (fails (sym e) tt)

-- each is looked at, whatever those before it are
pub folded : (vs : List ℕ) → fold (λ (all : Bool) (v : ℕ). plain v && all) true vs ≡ all_plain vs
folded vs = go true vs ∙ always (all_plain vs)
  where
    always : (t : Bool) → t && true ≡ t
    always true = refl
    always false = refl

    moved : (x y z : Bool) → y && (x && z) ≡ (x && y) && z
    moved true y z = refl
    moved false true z = refl
    moved false false z = refl

    go : (t : Bool) (us : List ℕ) → fold (λ (all : Bool) (v : ℕ). plain v && all) t us ≡ all_plain us && t
    go t [] = refl
    go t (u ∷ us) = go (plain u && t) us ∙ moved (plain u) (all_plain us) t

first_plain : (n : ℕ) (vs : List ℕ) → all_plain vs ≡ true → all_plain (take n vs) ≡ true
first_plain zero vs e = refl
first_plain (suc n) [] e = refl
first_plain (suc n) (v ∷ vs) e =
    ap₂ (λ (s t : Bool). s && t) (left (plain v) (all_plain vs) e)
    (first_plain n vs (right (plain v) (all_plain vs) e))

tested_plain : (l : Links) (vs : List ℕ) (n : ℕ) → are_plain l vs ≡ true → Passing l (take n vs)
unfolding are_plain
tested_plain l vs n e =
    let rest = right (is_free l.unfinished.modem) (in_range l && all_plain vs) e in
    record {
      range = left (in_range l) (all_plain vs) rest;
      free = is_free_lem l.unfinished.modem (left (is_free l.unfinished.modem) (in_range l && all_plain vs) e);
      plain = first_plain n vs (right (in_range l) (all_plain vs) rest);
    }

-- ---- one value after the other

tail : {l : Links} {v : ℕ} {vs : List ℕ} → Passing l (v ∷ vs) → Passing l vs
tail {l} {v} {vs} p = record { range = p.range; free = p.free; plain = right (plain v) (all_plain vs) p.plain }

one : {l : Links} {v : ℕ} {vs : List ℕ} → Passing l (v ∷ vs) → PassedOn l (value modem v) Modem (v ∷ []) l
one {l} {v} {vs} p =
    let t : plain v ≡ true = left (plain v) (all_plain vs) p.plain in
    plain_goes l modem v (tested l p.range) p.free (ltb-true v 128 (left (ltb v 128) (not (eqb v 27)) t))
    (not_esc v (right (ltb v 128) (not (eqb v 27)) t))

run_still : (l : Links) (vs : List ℕ) → Passing l vs → run l (from_line vs) ≡ l
run_still l [] p = refl
run_still l (v ∷ vs) p = ap (λ (x : Links). run x (from_line vs)) (one p).state ∙ run_still l vs (tail p)

joined : (t : Bool) (v : ℕ) (vs : List ℕ) → cond t (v ∷ []) [] ++ cond t vs [] ≡ cond t (v ∷ vs) []
joined true v vs = refl
joined false v vs = refl

got_all : (m : Module) (l : Links) (vs : List ℕ) → Passing l vs
    → got m l (from_line vs) ≡ cond (reaches l.table Modem m) vs []
unfolding got
got_all m l [] p = none (reaches l.table Modem m)
  where
    none : (t : Bool) → [] ≡ cond {A = List ℕ} t [] []
    none true = refl
    none false = refl
got_all m l (v ∷ vs) p =
    let t = reaches l.table Modem m in
    ap₂ (λ (us : List ℕ) (x : Links). us ++ got m x (from_line vs)) ((one p).reached m) (one p).state
    ∙ ap (λ (us : List ℕ). cond t (v ∷ []) [] ++ us) (got_all m l vs (tail p)) ∙ joined t v vs

one_outlet : (t : Bool) (vs : List ℕ) → outlet (cond t vs []) ≡ cond t (outlet vs) (outlet [])
one_outlet true vs = refl
one_outlet false vs = refl

by_mark : (w : Row) (vs : List ℕ)
    → shares_of (λ m. cond (marked w m) vs []) ≡ either w (outlet vs) (outlet [])
by_mark w vs = simp (one_outlet w.screen vs, one_outlet w.keyboard vs, one_outlet w.modem vs, one_outlet w.socket vs)

-- ---- as many as pass, where all are plain

module _ (l : Links) (vs : List ℕ) (n : ℕ) (e : are_plain l vs ≡ true) where
  -- the links stay
  pub links_stay : run l (from_line (take n vs)) ≡ l
  links_stay = run_still l (take n vs) (tested_plain l vs n e)

  -- each module that the modem reaches gets the values as they are
  pub as_they_are : (m : Module) → got m l (from_line (take n vs)) ≡ cond (reaches l.table Modem m) (take n vs) []
  as_they_are m = got_all m l (take n vs) (tested_plain l vs n e)

  pub fed_each : fed l (take n vs)
      ≡ record { links = l; shares = shares_of (λ m. cond (reaches l.table Modem m) (take n vs) []) }
  unfolding fed
  fed_each = simp (links_stay, as_they_are Screen, as_they_are Keyboard, as_they_are Modem, as_they_are Socket)

  -- each that is marked gets them, and there is room for them all
  pub fed_all : length vs ≤ 75
      → fed l (take n vs) ≡ record { links = l; shares = either l.table.modem (outlet (take 75 (take n vs))) (outlet []) }
  fed_all h =
      fed_each
      ∙ ap (λ (w : Shares). record { links = l; shares = w }) (by_mark l.table.modem (take n vs))
      ∙ ap (λ (us : List ℕ). record { links = l; shares = either l.table.modem (outlet us) (outlet []) })
      (sym (take_all 75 (take n vs) (omega (arith, h, length-take n vs))))

-- ---- written out: the first and the last value, those around ESC, ESC and 128; ESC unfinished

pub as_written : (are_plain connected_links (0 ∷ 26 ∷ 28 ∷ 127 ∷ []) ≡ true) × (are_plain connected_links (27 ∷ []) ≡ false)
    × (are_plain connected_links (128 ∷ []) ≡ false)
    × (are_plain (record { table = connected_links.table; unfinished = record { modem = Escape; socket = Free } }) (65 ∷ []) ≡ false)
unfolding are_plain in_range self_linked held_in_range
as_written = (refl, refl, refl, refl)
