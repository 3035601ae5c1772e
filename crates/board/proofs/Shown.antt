-- The page shown is the page sent: from the line through receiver and links to the screen. Assumes nothing.
use mathlib.Core.Path.{◌≡◌, refl, sym, ap, ◌∙◌, subst, subst⁻¹}
use mathlib.Core.Bool.{true}
use mathlib.Core.List.{List, [], ◌∷◌, ◌++◌, map, map-append}
use Prim.Native.Nat.{ℕ, zero, suc, ◌-◌, ◌*◌}
use native.Mathlib.Omega.{arith}
use lib.ListN.{length, replicate}
use Rattle.values.specs.Large.{Values}
use Rattle.values.proofs.Found.{values_none, values_cons, values_append}
use Rattle.links_wiring.specs.declared.Module.TheVariants.{Screen, Modem}
use Rattle.links_wiring.specs.Tables.{reaches}
use Rattle.links_hearing.specs.declared.Unfinished.TheVariants.{Free}
use Rattle.links_hearing.specs.Phrases.{Phrase, AllProper, all_values, all_flowing, Phrased}
use Rattle.line_receiver.specs.declared.Receiver.{Receiver}
use Rattle.line_receiver.specs.Runs.{Event as Heard, byte, on, obey as receiver_obey, sent_by, sent, all_passed, all_asked}
use Rattle.line_receiver.specs.Line.{blocks_for, made_of, filled, joined, Sending, through}
use Rattle.line_receiver.proofs.Whole.{sending, unhit}
use Rattle.links_hearing.specs.declared.ears.Ear.TheVariants.{Modem as modem}
use Rattle.links.specs.declared.Links.{Links}
use Rattle.links.specs.States.{unfinished}
use Rattle.links.specs.Runs.{Call, value, obey as links_obey, given, got_from, Throughout, Says}
use Rattle.links.proofs.Own.{can_say}
use Rattle.links.proofs.Through.{comes_through}
use Rattle.board_feeding.specs.Feeding.{from_line, got}
use Rattle.screen_answers.specs.Answers.{Taken}
use Rattle.screen.specs.Calls.{ran}
use Rattle.board.specs.declared.Board.{Board}
use Rattle.board.specs.Runs.{front, run, requests, heard_in, calls_in, InBoard}
use Rattle.board.specs.Pages.{NoCommand}
use Rattle.board.proofs.Parts.{apart}
use Rattle.board.proofs.Linked.{stays_linked}

-- ---- what receiver and links are told, where nothing but the line is heard

heard_all : (hs : List Heard) → heard_in (map front hs) ≡ hs
heard_all [] = refl
heard_all (h ∷ hs) = ap (λ (gs : List Heard). h ∷ gs) (heard_all hs)

calls_all : (r : Receiver) (hs : List Heard) → calls_in r (map front hs) ≡ from_line (all_passed (sent r hs))
calls_all r [] = refl
calls_all r (h ∷ hs) =
    let s = receiver_obey h r in
    let vs = (sent_by s).passed in
    ap (λ (cs : List Call). from_line vs ++ cs) (calls_all s.next hs)
    ∙ sym (map-append (value modem) vs (all_passed (sent s.next hs)))

-- all that the screen gets comes through the modem's calls
all_through : (l : Links) (vs : List ℕ) → got Screen l (from_line vs) ≡ got_from modem Screen l (from_line vs)
unfolding got
all_through l [] = refl
all_through l (v ∷ vs) =
    let c = value modem v in
    ap (λ (ws : List ℕ). given l c Screen ++ ws) (all_through (links_obey c l).next vs)

-- ---- the screen shows the values that pass, commands taken out

module _ (b : Board) (i : InBoard b) (free : unfinished b.links modem ≡ Free) (hs : List Heard) (vs qs : List ℕ)
    (passed : all_passed (sent b.receiver hs) ≡ vs) (asked : all_asked (sent b.receiver hs) ≡ qs)
    (values : Values vs) (p : Phrased vs) (linked : Throughout Modem Screen b.links (from_line vs)) where
  calls_are : calls_in b.receiver (map front hs) ≡ from_line vs
  calls_are = calls_all b.receiver hs ∙ ap from_line passed

  says : Says modem b.links (from_line vs) vs
  says = record { range = i.links; free = free; values = (can_say modem vs values).values }

  screen_gets : got Screen b.links (calls_in b.receiver (map front hs)) ≡ all_flowing p.phrases
  screen_gets =
      ap (got Screen b.links) calls_are ∙ all_through b.links vs
      ∙ comes_through modem b.links (from_line vs) Screen p.phrases p.rest
      (record { range = i.links; free = free; values = says.values ∙ p.whole }) p.proper linked

  pub shows :
      ((run b (map front hs)).screen ≡ (ran b.screen (all_flowing p.phrases)).screen)
      × ((ran b.screen (all_flowing p.phrases)).answer ≡ Taken) × (requests b (map front hs) ≡ qs)
  shows =
      let g = apart (map front hs) b i in (
        g.screen ∙ ap (λ (ws : List ℕ). (ran b.screen ws).screen) screen_gets,
        sym (ap (λ (ws : List ℕ). (ran b.screen ws).answer) screen_gets) ∙ g.taken,
        g.asked ∙ ap (λ (gs : List Heard). all_asked (sent b.receiver gs)) (heard_all hs) ∙ asked,
      )

-- ---- and those are the values sent

zeros_small : (n : ℕ) → Values (replicate n 0)
zeros_small zero = values_none
zeros_small (suc n) = values_cons 0 (replicate n 0) (omega arith) (zeros_small n)

filled_small : (vs : List ℕ) → Values vs → Values (filled vs)
filled_small vs h =
    let n = 15 * blocks_for vs - length vs in
    values_append vs (replicate n 0) h (zeros_small n)

pub page_shown : (vs bs qs : List ℕ) → Values vs → Sending 0 (made_of vs) bs qs
    → (b : Board) → InBoard b → unfinished b.links modem ≡ Free
    → (p : Phrased (filled vs)) → Throughout Modem Screen b.links (from_line (filled vs))
    → ((run b (map front (on ∷ map byte bs))).screen ≡ (ran b.screen (all_flowing p.phrases)).screen)
    × ((ran b.screen (all_flowing p.phrases)).answer ≡ Taken)
    × (requests b (map front (on ∷ map byte bs)) ≡ qs)
page_shown vs bs qs h s b i free p linked =
    let e = sending b.receiver i.receiver vs bs qs h s in
    shows b i free (on ∷ map byte bs) (filled vs) qs e.0 e.1 (filled_small vs h) p linked

-- ---- such lines and boards: a page without commands, a line that hits nothing, a board whose modem is linked

pub page_met : (vs : List ℕ) (ps : List Phrase) → Values vs → filled vs ≡ all_values ps → AllProper ps → NoCommand ps
    → (b : Board) → InBoard b → unfinished b.links modem ≡ Free → reaches b.links.table Modem Screen ≡ true
    → Sending 0 (made_of vs) (joined (made_of vs)) [] × Throughout Modem Screen b.links (from_line (filled vs))
page_met vs ps h e p n b i free y = (
  through (unhit (made_of vs)),
  subst⁻¹ (λ (us : List ℕ). Throughout Modem Screen b.links (from_line us)) e
      (stays_linked Screen ps b.links i.links free y p n (subst Values e (filled_small vs h))),
)
