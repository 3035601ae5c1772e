-- What the sender hears: no byte is lost, and a request is given exactly where NACK and 4/X stand. Assumes nothing.
use mathlib.Core.Path.{◌≡◌, refl, sym, ap, ◌∙◌}
use mathlib.Core.Bool.{Bool, true, false, cond, ◌&&◌}
use mathlib.Core.List.{List, [], ◌∷◌, ◌++◌, map, append_assoc, append-nil}
use Prim.Native.Nat.{ℕ, ◌%◌, ◌≤◌}
use native.Mathlib.Omega.{arith}
use lib.Dec.{eqb}
use lib.ListN.{length}
use borrow.Author.Tests.{eqb-true}
use Rattle.std.specs.Prelude.{Ok, Err}
use Rattle.block_parity.specs.Parity.{ones, even, with_parity}
use Rattle.block_division.specs.Division.{low_bits}
use Rattle.line_codes.specs.Codes.{plainly, nack, four}
use Rattle.line_sender.specs.declared.Sender.{Sender}
use Rattle.line_sender.specs.declared.Heard.{Heard}
use Rattle.line_sender.specs.States.{in_range}
use Rattle.line_sender.specs.Calls.{well_formed}
use Rattle.line_sender.specs.Hearing.{holding, giving, heard_alone, heard_behind, heard_by}
use Rattle.line_sender.specs.Runs.{passed_in, asked_in, hearing_all, told, held_back}

-- NACK behind NACK is no request
nack_no_four : well_formed (nack ∷ nack ∷ []) ≡ false
unfolding with_parity ones low_bits
nack_no_four = refl

-- ---- one byte

-- the three ways: by whether it is NACK, and whether it makes a request
heard_so : (s : Sender) (b : ℕ) → in_range s ≡ true
    → heard_by s b ≡ cond s.nack (heard_behind s b) (heard_alone s [] b)
heard_so s b g =
    ap (λ (t : Bool). cond t (cond s.nack (heard_behind s b) (heard_alone s [] b)) (giving (Err (record {})) s [] [])) g

alone_held : (s : Sender) (vs : List ℕ) (b : ℕ) → (heard_alone s vs b).sender ≡ holding s (eqb b nack)
alone_held s vs b = go (eqb b nack)
  where
    go : (t : Bool) → (cond {A = Heard} t (giving (Ok tt) (holding s true) vs [])
        (giving (Ok tt) (holding s false) (vs ++ (plainly b ∷ [])) [])).sender ≡ holding s t
    go true = refl
    go false = refl

behind_held : (s : Sender) (b : ℕ) → (heard_behind s b).sender ≡ holding s (eqb b nack)
behind_held s b = go (well_formed (nack ∷ b ∷ [])) refl
  where
    other : (u : Bool) → eqb b nack ≡ u → well_formed (nack ∷ b ∷ []) ≡ true → false ≡ u
    other true e w =
        sym nack_no_four ∙ ap (λ (c : ℕ). well_formed (nack ∷ c ∷ [])) (sym (eqb-true b nack e)) ∙ w
    other false e w = refl

    go : (t : Bool) → well_formed (nack ∷ b ∷ []) ≡ t
        → (cond {A = Heard} t (giving (Ok tt) (holding s false) [] (nack ∷ b ∷ [])) (heard_alone s (21 ∷ []) b)).sender
        ≡ holding s (eqb b nack)
    go true w = ap (holding s) (other (eqb b nack) refl w)
    go false w = alone_held s (21 ∷ []) b

-- the state stays, but for a NACK that is held
pub heard_held : (s : Sender) (b : ℕ) → in_range s ≡ true → (heard_by s b).sender ≡ holding s (eqb b nack)
heard_held s b g = ap (λ (h : Heard). h.sender) (heard_so s b g) ∙ go s.nack
  where
    go : (t : Bool) → (cond {A = Heard} t (heard_behind s b) (heard_alone s [] b)).sender ≡ holding s (eqb b nack)
    go true = behind_held s b
    go false = alone_held s [] b

-- ---- bytes one after the other

-- the last one alone says whether a NACK is held
pub hearing_held : (bs : List ℕ) (a : ℕ) (s : Sender) → in_range s ≡ true
    → hearing_all s (bs ++ (a ∷ [])) ≡ holding s (eqb a nack)
hearing_held [] a s g = heard_held s a g
hearing_held (b ∷ bs) a s g =
    ap (λ (t : Sender). hearing_all t (bs ++ (a ∷ []))) (heard_held s b g)
    ∙ hearing_held bs a (holding s (eqb b nack)) g

asked_alone : (s : Sender) (vs : List ℕ) (b : ℕ) → asked_in (heard_alone s vs b) ≡ []
asked_alone s vs b = go (eqb b nack)
  where
    go : (t : Bool) → asked_in (cond t (giving (Ok tt) (holding s true) vs [])
        (giving (Ok tt) (holding s false) (vs ++ (plainly b ∷ [])) [])) ≡ []
    go true = refl
    go false = refl

-- a request is given exactly where NACK and 4/X stand last
pub asked_first : (s : Sender) → in_range s ≡ true → s.nack ≡ false → (b : ℕ) → asked_in (heard_by s b) ≡ []
asked_first s g n b =
    ap asked_in (heard_so s b g ∙ ap (λ (t : Bool). cond t (heard_behind s b) (heard_alone s [] b)) n)
    ∙ asked_alone s [] b

asked_behind : (s : Sender) (b : ℕ)
    → asked_in (heard_behind s b) ≡ cond (well_formed (nack ∷ b ∷ [])) (nack ∷ b ∷ []) []
asked_behind s b = go (well_formed (nack ∷ b ∷ []))
  where
    go : (t : Bool)
        → asked_in (cond t (giving (Ok tt) (holding s false) [] (nack ∷ b ∷ [])) (heard_alone s (21 ∷ []) b))
        ≡ cond t (nack ∷ b ∷ []) []
    go true = refl
    go false = asked_alone s (21 ∷ []) b

pub asked_last : (s : Sender) → in_range s ≡ true → (bs : List ℕ) (a b : ℕ)
    → asked_in (heard_by (hearing_all s (bs ++ (a ∷ []))) b) ≡ cond (well_formed (a ∷ b ∷ [])) (a ∷ b ∷ []) []
asked_last s g bs a b =
    ap (λ (t : Sender). asked_in (heard_by t b)) (hearing_held bs a s g) ∙ go (eqb a nack) refl
  where
    go : (t : Bool) → eqb a nack ≡ t
        → asked_in (heard_by (holding s t) b) ≡ cond (well_formed (a ∷ b ∷ [])) (a ∷ b ∷ []) []
    go true e =
        ap asked_in (heard_so (holding s true) b g) ∙ asked_behind (holding s true) b
        ∙ ap (λ (c : ℕ). cond (well_formed (c ∷ b ∷ [])) (c ∷ b ∷ []) []) (sym (eqb-true a nack e))
    go false e =
        asked_first (holding s false) g refl b
        ∙ sym (ap (λ (t : Bool). cond (t && eqb b (four (b % 16))) (a ∷ b ∷ []) []) e)

-- ---- no byte is lost

nack_plain : plainly nack ≡ 21
unfolding even ones low_bits
nack_plain = refl

-- what became of a byte, and what is held back behind it
abbrev gone : Heard → List ℕ
gone h = passed_in h ++ map plainly (asked_in h) ++ held_back h.sender

gone_alone : (s : Sender) (vs : List ℕ) (b : ℕ) → length vs ≤ 1 → vs ++ (plainly b ∷ []) ≡ gone (heard_alone s vs b)
gone_alone s vs b few = go (eqb b nack) refl
  where
    nacks : (us : List ℕ) → length us ≤ 1 → us ++ (plainly nack ∷ []) ≡ gone (giving (Ok tt) (holding s true) us [])
    nacks [] h = refl
    nacks (u ∷ []) h = refl
    nacks (u ∷ w ∷ us) h = absurd (omega (arith, h))

    others : (us : List ℕ) → length us ≤ 1
        → us ++ (plainly b ∷ []) ≡ gone (giving (Ok tt) (holding s false) (us ++ (plainly b ∷ [])) [])
    others [] h = refl
    others (u ∷ []) h = refl
    others (u ∷ w ∷ us) h = absurd (omega (arith, h))

    go : (t : Bool) → eqb b nack ≡ t → vs ++ (plainly b ∷ [])
        ≡ gone (cond t (giving (Ok tt) (holding s true) vs []) (giving (Ok tt) (holding s false) (vs ++ (plainly b ∷ [])) []))
    go true e = ap (λ (c : ℕ). vs ++ (plainly c ∷ [])) (eqb-true b nack e) ∙ nacks vs few
    go false e = others vs few

gone_behind : (s : Sender) (b : ℕ) → plainly nack ∷ plainly b ∷ [] ≡ gone (heard_behind s b)
gone_behind s b = go (well_formed (nack ∷ b ∷ []))
  where
    go : (t : Bool) → plainly nack ∷ plainly b ∷ []
        ≡ gone (cond t (giving (Ok tt) (holding s false) [] (nack ∷ b ∷ [])) (heard_alone s (21 ∷ []) b))
    go true = refl
    go false = ap (λ (v : ℕ). v ∷ plainly b ∷ []) nack_plain ∙ gone_alone s (21 ∷ []) b (omega arith)

gone_one : (s : Sender) (b : ℕ) → in_range s ≡ true → held_back s ++ (plainly b ∷ []) ≡ gone (heard_by s b)
gone_one s b g = go s.nack ∙ ap gone (sym (heard_so s b g))
  where
    go : (t : Bool) → cond t (plainly nack ∷ []) [] ++ (plainly b ∷ [])
        ≡ gone (cond t (heard_behind s b) (heard_alone s [] b))
    go true = gone_behind s b
    go false = gone_alone s [] b (omega arith)

pub none_lost : (bs : List ℕ) (s : Sender) → in_range s ≡ true
    → held_back s ++ map plainly bs ≡ told s bs ++ held_back (hearing_all s bs)
none_lost [] s g = append-nil (held_back s)
none_lost (b ∷ bs) s g =
    let h : Heard = heard_by s b in
    let first : List ℕ = passed_in h ++ map plainly (asked_in h) in
    let t : Sender = h.sender in
    let i : held_back t ++ map plainly bs ≡ told t bs ++ held_back (hearing_all t bs) =
    none_lost bs t (ap in_range (heard_held s b g) ∙ g) in
    sym (append_assoc (held_back s) (plainly b ∷ []) (map plainly bs))
    ∙ ap (λ (l : List ℕ). l ++ map plainly bs) (gone_one s b g)
    ∙ append_assoc first (held_back t) (map plainly bs)
    ∙ ap (λ (l : List ℕ). first ++ l) i
    ∙ sym (append_assoc first (told t bs) (held_back (hearing_all t bs)))
