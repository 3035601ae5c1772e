-- What of the values that are said flows on: all but the commands. Assumes nothing.
use mathlib.Core.Path.{◌≡◌, refl, sym, ap, ◌∙◌, subst⁻¹}
use mathlib.Core.Bool.{Bool, true, false}
use mathlib.Core.List.{List, [], ◌∷◌, ◌++◌, append_assoc, append-nil}
use Prim.Native.Nat.{ℕ}
use lib.Dec.{eqb}
use borrow.Author.Tests.{eqb-true, eqb-false}
use Rattle.links_commands.specs.declared.Order.{Order}
use Rattle.links_commands.specs.declared.Order.TheVariants.{Nothing, Pass, Pair, Link, Ask}
use Rattle.links_commands.specs.Commands.{Command, pro1, pro2, pro3, ordered, SpelledFor}
use Rattle.links_commands.proofs.Known.{spelled_for}
use Rattle.links_hearing.specs.declared.Unfinished.{Unfinished}
use Rattle.links_hearing.specs.declared.Unfinished.TheVariants.{Free, Escape, Pro1, Pro2, Pro2With}
use Rattle.links_hearing.specs.declared.Unfinished.TheVariants.{Pro3, Pro3With, Pro3Both}
use Rattle.links_hearing.specs.declared.Heard.{Heard}
use Rattle.links_hearing.specs.Hearing.{codes_of, heard, left_after}
use Rattle.links_hearing.specs.Phrases.{Phrase, alone, escape, command, values_of, flowing, Proper}
use Rattle.links_hearing.specs.Phrases.{AllProper, all_values, all_flowing, Phrased}
use Rattle.links_hearing.proofs.Spelling.{plain, paired}

-- what an order passes on
abbrev pub passed : Order → List ℕ
passed Nothing = []
passed (Pass v) = v ∷ []
passed (Pair v) = 27 ∷ v ∷ []
passed (Link receiver sender on) = []
passed (Ask receiver) = []

-- what some values pass on
abbrev pub flow : Unfinished → List ℕ → List ℕ
flow u [] = []
flow u (v ∷ vs) = passed (heard u v).order ++ flow (heard u v).unfinished vs

pub flow_append : (u : Unfinished) (vs ws : List ℕ) → flow u (vs ++ ws) ≡ flow u vs ++ flow (left_after u vs) ws
flow_append u [] ws = refl
flow_append u (v ∷ vs) ws =
    let h = heard u v in
    ap (λ (x : List ℕ). passed h.order ++ x) (flow_append h.unfinished vs ws)
    ∙ sym (append_assoc (passed h.order) (flow h.unfinished vs) (flow (left_after h.unfinished vs) ws))

-- ---- phrases

command_silent : (c : Command) → passed (ordered c) ≡ []
command_silent c = go (ordered c) (spelled_for c)
  where
    go : (o : Order) → SpelledFor o c → passed o ≡ []
    go Nothing s = refl
    go (Pass v) s = absurd s
    go (Pair v) s = absurd s
    go (Link receiver sender on) s = refl
    go (Ask receiver) s = refl

flow_phrase : (p : Phrase) → Proper p → (vs : List ℕ) → flow Free (values_of p ++ vs) ≡ flowing p ++ flow Free vs
unfolding heard
flow_phrase (alone v) n vs = ap (λ (h : Heard). passed h.order ++ flow h.unfinished vs) (plain v n)
flow_phrase (escape v) n vs =
    ap (λ (h : Heard). passed h.order ++ flow h.unfinished vs) (paired v n.0 n.1 n.2)
flow_phrase (command (pro1 x)) n vs = refl
flow_phrase (command (pro2 x y)) n vs = ap (λ (o : List ℕ). o ++ flow Free vs) (command_silent (pro2 x y))
flow_phrase (command (pro3 x y z)) n vs = ap (λ (o : List ℕ). o ++ flow Free vs) (command_silent (pro3 x y z))

flow_phrases : (ps : List Phrase) → AllProper ps → (vs : List ℕ)
    → flow Free (all_values ps ++ vs) ≡ all_flowing ps ++ flow Free vs
flow_phrases [] n vs = refl
flow_phrases (p ∷ ps) n vs =
    ap (flow Free) (append_assoc (values_of p) (all_values ps) vs)
    ∙ flow_phrase p n.0 (all_values ps ++ vs)
    ∙ ap (λ (x : List ℕ). flowing p ++ x) (flow_phrases ps n.1 vs)
    ∙ sym (append_assoc (flowing p) (all_flowing ps) (flow Free vs))

flow_rest : (u : Unfinished) → flow Free (codes_of u) ≡ []
unfolding heard
flow_rest Free = refl
flow_rest Escape = refl
flow_rest Pro1 = refl
flow_rest Pro2 = refl
flow_rest (Pro2With x) = refl
flow_rest Pro3 = refl
flow_rest (Pro3With x) = refl
flow_rest (Pro3Both x y) = refl

pub flows_on : (ps : List Phrase) (u : Unfinished) → AllProper ps
    → flow Free (all_values ps ++ codes_of u) ≡ all_flowing ps
flows_on ps u n =
    flow_phrases ps n (codes_of u) ∙ ap (λ (x : List ℕ). all_flowing ps ++ x) (flow_rest u) ∙ append-nil (all_flowing ps)

-- ---- whatever is said is phrases, and then the beginning of one

add : (p : Phrase) (vs : List ℕ) → Proper p → Phrased vs → Phrased (values_of p ++ vs)
add p vs n r =
    record {
      phrases = p ∷ r.phrases;
      rest = r.rest;
      proper = (n, r.proper);
      whole =
          ap (λ (x : List ℕ). values_of p ++ x) r.whole
          ∙ sym (append_assoc (values_of p) (all_values r.phrases) (codes_of r.rest));
    }

either : (P : Type 0) (t : Bool) → (t ≡ true → P) → (t ≡ false → P) → P
either P true f g = f refl
either P false f g = g refl

after_esc : (vs : List ℕ) (v c : ℕ) → Phrased (27 ∷ c ∷ vs) → ((v ≡ c → ⊥) → Phrased (27 ∷ v ∷ vs))
    → Phrased (27 ∷ v ∷ vs)
after_esc vs v c r f =
    either (Phrased (27 ∷ v ∷ vs)) (eqb v c)
    (λ e. subst⁻¹ (λ (n : ℕ). Phrased (27 ∷ n ∷ vs)) (eqb-true v c e) r) (λ e. f (eqb-false v c e))

phrase : (vs : List ℕ) (u : Unfinished) → Phrased (codes_of u ++ vs)
phrase [] u = record { phrases = []; rest = u; proper = tt; whole = append-nil (codes_of u) }
phrase (v ∷ vs) Free =
    either (Phrased (v ∷ vs)) (eqb v 27)
    (λ e. subst⁻¹ (λ (n : ℕ). Phrased (n ∷ vs)) (eqb-true v 27 e) (phrase vs Escape))
    (λ e. add (alone v) vs (eqb-false v 27 e) (phrase vs Free))
phrase (v ∷ vs) Escape =
    after_esc vs v 57 (phrase vs Pro1)
    (λ a. after_esc vs v 58 (phrase vs Pro2)
    (λ b. after_esc vs v 59 (phrase vs Pro3) (λ c. add (escape v) vs (a, b, c) (phrase vs Free))))
phrase (v ∷ vs) Pro1 = add (command (pro1 v)) vs tt (phrase vs Free)
phrase (v ∷ vs) Pro2 = phrase vs (Pro2With v)
phrase (v ∷ vs) (Pro2With x) = add (command (pro2 x v)) vs tt (phrase vs Free)
phrase (v ∷ vs) Pro3 = phrase vs (Pro3With v)
phrase (v ∷ vs) (Pro3With x) = phrase vs (Pro3Both x v)
phrase (v ∷ vs) (Pro3Both x y) = add (command (pro3 x y v)) vs tt (phrase vs Free)

pub phrased : (vs : List ℕ) → Phrased vs
phrased vs = phrase vs Free
