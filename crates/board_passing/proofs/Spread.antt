-- What each module gets of some values, whether they are plain or go through the links one by one. Assumes nothing.
use mathlib.Core.Path.{◌≡◌, sym, ap, ap₂, ◌∙◌}
use mathlib.Core.Bool.{true, cond}
use mathlib.Core.List.{List, [], ◌∷◌, ◌++◌, map-append}
use Prim.Native.Nat.{ℕ, ◌+◌, ◌<◌}
use native.Mathlib.Numerals.{add-one, unary_clauses}
use lib.ListN.{length, take, get_or}
use lib.Seq.{take-suc}
use Rattle.lent.specs.Memory.{written, behind}
use Rattle.lent.proofs.Behind.{none_written, twice, behind_twice}
use Rattle.links_wiring.specs.declared.Module.{Module}
use Rattle.links_wiring.specs.declared.Module.TheVariants.{Screen, Keyboard, Modem, Socket}
use Rattle.links_wiring.specs.Tables.{reaches}
use Rattle.links_hearing.specs.declared.ears.Ear.TheVariants.{Modem as modem}
use Rattle.links.specs.declared.Links.{Links}
use Rattle.links.specs.Runs.{value, run}
use Rattle.board_feeding.specs.declared.Fed.{Fed}
use Rattle.few.specs.Bytes.{contents}
use Rattle.board_feeding.specs.Feeding.{from_line, got, fed}
use Rattle.board_feeding.specs.Plain.{are_plain}
use Rattle.few.proofs.Kept.{kept}
use Rattle.board_feeding.proofs.Passed.{links_stay, as_they_are}
use Rattle.board_feeding.proofs.Suffices.{run_append, got_append}
use Rattle.board_front.specs.declared.Room.{Room}
use Rattle.board_passing.specs.declared.Onward.{Onward}
use Rattle.board_passing.specs.Passing.{Outs, outs, sent_all, written_all, behind_all, onward, handed_out}

-- these are sent, behind these links
module _ (l : Links) (vs : List ℕ) (g : ℕ) (u : Room) (o : Outs) {k : Links} {w : Outs}
    (links : k ≡ run l (from_line vs)) (sent : w ≡ sent_all l vs) where
  pub onward_is : behind_all k o g u w ≡ onward l vs g u o
  unfolding onward
  onward_is = ap₂ (λ (j : Links) (s : Outs). behind_all j o g u s) links sent

  pub handed_is : written_all o g u w ≡ handed_out l vs g u o
  unfolding handed_out
  handed_is = ap (written_all o g u) sent

-- plain values: each module gets all of them, or nothing
module _ (l : Links) (vs : List ℕ) (n : ℕ) (e : are_plain l vs ≡ true) where
  abbrev pub marked : Module → List ℕ
  marked m = cond (reaches l.table Modem m) (take n vs) []

  pub plain_sent : outs (marked Screen) (marked Keyboard) (marked Modem) (marked Socket) ≡ sent_all l (take n vs)
  plain_sent =
      sym (simp (
        as_they_are l vs n e Screen,
        as_they_are l vs n e Keyboard,
        as_they_are l vs n e Modem,
        as_they_are l vs n e Socket,
      ))

  pub plain_links : l ≡ run l (from_line (take n vs))
  plain_links = sym (links_stay l vs n e)

-- any values: each module gets its share
module _ (l : Links) (vs : List ℕ) (f : Fed) (e : f ≡ fed l vs) where
  pub fed_sent : outs (contents f.shares.screen) (contents f.shares.keyboard) (contents f.shares.modem)
      (contents f.shares.socket) ≡ sent_all l vs
  unfolding fed
  fed_sent =
      ap
      (λ (w : Fed).
      outs (contents w.shares.screen) (contents w.shares.keyboard) (contents w.shares.modem)
      (contents w.shares.socket))
      e
      ∙ simp (
        kept 75 (got Screen l (from_line vs)),
        kept 75 (got Keyboard l (from_line vs)),
        kept 75 (got Modem l (from_line vs)),
        kept 75 (got Socket l (from_line vs)),
      )

  pub fed_links : f.links ≡ run l (from_line vs)
  unfolding fed
  fed_links = ap (λ (w : Fed). w.links) e

-- ---- some values, and then others

module _ (l : Links) (a b : List ℕ) where
  calls : from_line (a ++ b) ≡ from_line a ++ from_line b
  calls = map-append (value modem) a b

  abbrev then : Links
  then = run l (from_line a)

  more : (m : Module) → got m l (from_line (a ++ b)) ≡ got m l (from_line a) ++ got m then (from_line b)
  more m = ap (got m l) calls ∙ got_append m l (from_line a) (from_line b)

  module _ (g : ℕ) (u : Room) (o : Outs) where
    abbrev p : Onward
    p = onward l a g u o

    place : (m : Module) (out : List ℕ) (at : ℕ)
        → (let vs = got m l (from_line a) in behind (written out at vs) (behind out at vs) (got m then (from_line b)))
        ≡ behind out at (got m l (from_line (a ++ b)))
    place m out at =
        behind_twice out at (got m l (from_line a)) (got m then (from_line b)) ∙ ap (behind out at) (sym (more m))

    bytes : (m : Module) (out : List ℕ) (at : ℕ)
        → (let vs = got m l (from_line a) in written (written out at vs) (behind out at vs) (got m then (from_line b)))
        ≡ written out at (got m l (from_line (a ++ b)))
    bytes m out at =
        twice out at (got m l (from_line a)) (got m then (from_line b)) ∙ ap (written out at) (sym (more m))

    pub onward_more : onward p.links b p.gathered p.used (handed_out l a g u o) ≡ onward l (a ++ b) g u o
    unfolding onward handed_out
    onward_more =
        simp (
          place Screen o.screen g,
          place Keyboard o.keyboard u.keyboard,
          place Modem o.modem u.modem,
          place Socket o.socket u.socket,
          sym (ap (run l) calls ∙ run_append l (from_line a) (from_line b)),
        )

    pub handed_more : handed_out p.links b p.gathered p.used (handed_out l a g u o)
        ≡ handed_out l (a ++ b) g u o
    unfolding onward handed_out
    handed_more =
        simp (
          bytes Screen o.screen g,
          bytes Keyboard o.keyboard u.keyboard,
          bytes Modem o.modem u.modem,
          bytes Socket o.socket u.socket,
        )

-- ---- none yet

module _ (l : Links) (g : ℕ) (u : Room) (o : Outs) where
  pub none_onward : record { links = l; gathered = g; used = u } ≡ onward l [] g u o
  unfolding onward got
  none_onward = simp unary_clauses

  pub none_handed : o ≡ handed_out l [] g u o
  unfolding handed_out got
  none_handed =
      simp (
        none_written o.screen g,
        none_written o.keyboard u.keyboard,
        none_written o.modem u.modem,
        none_written o.socket u.socket,
      )

-- ---- one value more

module _ (l : Links) (vs : List ℕ) (i : ℕ) (less : i < length vs) (g : ℕ) (u : Room) (o : Outs)
    {p : Onward} {left : Outs} (so_far : p ≡ onward l (take i vs) g u o) (out : left ≡ handed_out l (take i vs) g u o) where
  abbrev v : ℕ
  v = get_or vs i 0

  next : take i vs ++ (v ∷ []) ≡ take (i + 1) vs
  next = sym (ap (λ (n : ℕ). take n vs) (add-one i) ∙ take-suc vs i 0 less)

  pub one_onward : onward p.links (v ∷ []) p.gathered p.used left ≡ onward l (take (i + 1) vs) g u o
  one_onward =
      ap₂ (λ (q : Onward) (w : Outs). onward q.links (v ∷ []) q.gathered q.used w) so_far out
      ∙ onward_more l (take i vs) (v ∷ []) g u o ∙ ap (λ (ws : List ℕ). onward l ws g u o) next

  pub one_handed : handed_out p.links (v ∷ []) p.gathered p.used left ≡ handed_out l (take (i + 1) vs) g u o
  one_handed =
      ap₂ (λ (q : Onward) (w : Outs). handed_out q.links (v ∷ []) q.gathered q.used w) so_far out
      ∙ handed_more l (take i vs) (v ∷ []) g u o ∙ ap (λ (ws : List ℕ). handed_out l ws g u o) next
