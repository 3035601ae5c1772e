-- In every run each part of a board goes its own way. Assumes nothing.
use mathlib.Core.Path.{◌≡◌, refl, sym, ap, ap₂, ◌∙◌, subst, subst⁻¹}
use mathlib.Core.List.{List, [], ◌∷◌, ◌++◌, append-nil}
use Prim.Native.Nat.{ℕ}
use Rattle.line_receiver.specs.declared.Receiver.{Receiver}
use Rattle.line_receiver.specs.Runs.{Event as Heard, byte, on, off, ask, obey as receiver_obey, sent_by}
use Rattle.line_receiver.specs.Runs.{run as receiver_run, sent, all_asked}
use Rattle.line_receiver.proofs.Kept.{keeps, run_append as heard-append, sent_append, asked_append}
use Rattle.links_wiring.specs.declared.Module.{Module}
use Rattle.links_wiring.specs.declared.Module.TheVariants.{Screen, Keyboard, Modem, Socket}
use Rattle.links.specs.declared.Links.{Links}
use Rattle.links_hearing.specs.declared.ears.Ear.TheVariants.{Socket as from_socket}
use Rattle.links.specs.Runs.{Call, key as key_call, value, to_local as local_call, to_connected as connected_call}
use Rattle.links.specs.Runs.{obey as links_obey, given, run as links_run}
use Rattle.links.proofs.Ranges.{run_kept}
use Rattle.few.specs.Bytes.{contents}
use Rattle.board_feeding.specs.Feeding.{from_line, got, outlet, fed}
use Rattle.few.proofs.Kept.{kept}
use Rattle.board_feeding.proofs.Suffices.{run_append, got_append, small_got}
use Rattle.screen_page.specs.declared.Screen.{Screen as Page}
use Rattle.screen_page.specs.Ranges.{InScreen}
use Rattle.screen_page.proofs.Stays.{unbroken}
use Rattle.screen_answers.specs.Answers.{Taken}
use Rattle.screen.specs.declared.Ran.{Ran}
use Rattle.screen.specs.Calls.{ran}
use Rattle.screen.proofs.Given.{ran_none, ran_in, run_parts, run_taken}
use Rattle.board.specs.declared.Board.{Board}
use Rattle.board.specs.declared.Outcome.{Outcome}
use Rattle.board.specs.Calls.{following, followed, passing, passed_on}
use Rattle.board.specs.Runs.{Event, front, key, socket, to_local, to_connected, obey_front, obey, run}
use Rattle.board.specs.Runs.{out_to, request, handed_to, requests, heard_in, calls_in, Outside, InBoard, Goes}
use Rattle.board.proofs.Ranges.{tested}

-- a screen in range takes whatever the links send it
screen_takes : (b : Board) (cs : List Call) → InBoard b → (ran b.screen (got Screen b.links cs)).answer ≡ Taken
screen_takes b cs i =
    let vs = got Screen b.links cs in
    ap (λ (r : Ran). r.answer) (run_taken b.screen vs (unbroken i.screen) (small_got Screen b.links cs))

-- ---- one call

-- a call by itself
Alone : Board → Outcome → List Heard → List Call → Type 0
Alone b o hs cs = Goes b o.next hs cs (λ m. out_to m o) (request o)

-- what is handed out of shares that a run of the links gave
out_of : (g : Module → List ℕ) (o : Outcome)
    → o.keyboard ≡ outlet (g Keyboard) → o.modem ≡ outlet (g Modem) → o.socket ≡ outlet (g Socket)
    → (m : Module) → Outside m → out_to m o ≡ g m
out_of g o k l s Screen u = absurd u
out_of g o k l s Keyboard u = ap contents k ∙ kept 75 (g Keyboard)
out_of g o k l s Modem u = ap contents l ∙ kept 75 (g Modem)
out_of g o k l s Socket u = ap contents s ∙ kept 75 (g Socket)

front_is : (h : Heard) (b : Board) → obey_front h b ≡ following b (receiver_obey h b.receiver)
front_is (byte x) b = refl
front_is on b = refl
front_is off b = refl
front_is ask b = refl

front_alone : (h : Heard) (b : Board) → InBoard b
    → Alone b (obey_front h b) (h ∷ []) (from_line (sent_by (receiver_obey h b.receiver)).passed)
unfolding Alone following fed
front_alone h b i =
    let s = receiver_obey h b.receiver in
    let cs = from_line (sent_by s).passed in
    let g : Module → List ℕ = λ m. got m b.links cs in
    let e : obey_front h b ≡ followed b s = front_is h b ∙ simp (tested b i) in
    subst⁻¹ (λ (o : Outcome). Alone b o (h ∷ []) cs) e
    (record {
      receiver = refl;
      links = refl;
      screen = ap (λ (vs : List ℕ). (ran b.screen vs).screen) (kept 75 (g Screen));
      taken = screen_takes b cs i;
      handed = out_of g (followed b s) refl refl refl;
      asked = sym (append-nil (sent_by s).asked);
      range =
          record {
            receiver = keeps h b.receiver i.receiver;
            links = run_kept b.links cs i.links;
            screen =
                subst⁻¹ (λ (vs : List ℕ). InScreen (ran b.screen vs).screen) (kept 75 (g Screen))
                (ran_in b.screen (g Screen) i.screen (small_got Screen b.links cs));
          };
    })

-- a call of the links by itself: the receiver hears nothing
call_alone : (c : Call) (b : Board) → InBoard b → Alone b (passing b (links_obey c b.links)) [] (c ∷ [])
unfolding Alone passing got
call_alone c b i =
    let o = links_obey c b.links in
    let g : Module → List ℕ = given b.links c in
    let all : (m : Module) → g m ≡ got m b.links (c ∷ []) = λ m. sym (append-nil (g m)) in
    let shown : contents (outlet (g Screen)) ≡ got Screen b.links (c ∷ []) = kept 75 (g Screen) ∙ all Screen in
    let e : passing b o ≡ passed_on b o = simp (tested b i) in
    subst⁻¹ (λ (p : Outcome). Alone b p [] (c ∷ [])) e
    (record {
      receiver = refl;
      links = refl;
      screen = ap (λ (vs : List ℕ). (ran b.screen vs).screen) shown;
      taken = screen_takes b (c ∷ []) i;
      handed = λ m u. out_of g (passed_on b o) refl refl refl m u ∙ all m;
      asked = refl;
      range =
          record {
            receiver = i.receiver;
            links = run_kept b.links (c ∷ []) i.links;
            screen =
                subst⁻¹ (λ (vs : List ℕ). InScreen (ran b.screen vs).screen) shown
                (ran_in b.screen (got Screen b.links (c ∷ [])) i.screen
                (small_got Screen b.links (c ∷ [])));
          };
    })

-- ---- one way, then another

further : {b c d : Board} {hs gs : List Heard} {cs ds : List Call} {outs more : Module → List ℕ} {qs ps : List ℕ}
    → InBoard b → Goes b c hs cs outs qs → Goes c d gs ds more ps
    → Goes b d (hs ++ gs) (cs ++ ds) (λ m. outs m ++ more m) (qs ++ ps)
further {b} {c} {d} {hs} {gs} {cs} {ds} {outs} {more} {qs} {ps} i f n =
    let next : (m : Module) → got m c.links ds ≡ got m (links_run b.links cs) ds =
    λ m. ap (λ (l : Links). got m l ds) f.links in
    record {
      receiver =
          n.receiver ∙ ap (λ (r : Receiver). receiver_run r gs) f.receiver ∙ sym (heard-append hs gs b.receiver);
      links = n.links ∙ ap (λ (l : Links). links_run l ds) f.links ∙ sym (run_append b.links cs ds);
      screen =
          n.screen ∙ ap₂ (λ (s : Page) (vs : List ℕ). (ran s vs).screen) f.screen (next Screen)
          ∙ ap (λ (r : Ran). r.screen)
          (sym (run_parts b.screen (got Screen b.links cs) (got Screen (links_run b.links cs) ds) i.screen
          (small_got Screen b.links cs) (small_got Screen (links_run b.links cs) ds)))
          ∙ ap (λ (vs : List ℕ). (ran b.screen vs).screen) (sym (got_append Screen b.links cs ds));
      taken = screen_takes b (cs ++ ds) i;
      handed =
          λ m u. ap₂ (λ (x y : List ℕ). x ++ y) (f.handed m u) (n.handed m u ∙ next m)
          ∙ sym (got_append m b.links cs ds);
      asked =
          ap₂ (λ (x y : List ℕ). x ++ y) f.asked
          (n.asked ∙ ap (λ (r : Receiver). all_asked (sent r gs)) f.receiver)
          ∙ sym (asked_append (sent b.receiver hs) (sent (receiver_run b.receiver hs) gs))
          ∙ ap all_asked (sym (sent_append hs gs b.receiver));
      range = n.range;
    }

-- ---- a whole run

-- what is left of a run, with the links told what a receiver would pass on
abbrev Rest : Board → List Event → Receiver → Type 0
Rest b es r = Goes b (run b es) (heard_in es) (calls_in r es) (λ m. handed_to m b es) (requests b es)

pub apart : (es : List Event) (b : Board) → InBoard b → Rest b es b.receiver
unfolding Alone handed_to requests got
apart [] b i =
    record {
      receiver = refl;
      links = refl;
      screen = sym (ran_none b.screen);
      taken = screen_takes b [] i;
      handed = λ m u. refl;
      asked = refl;
      range = i;
    }
apart (front h ∷ es) b i =
    let f = front_alone h b i in
    let n = apart es (obey_front h b).next f.range in
    further i f (subst (Rest (obey_front h b).next es) f.receiver n)
apart (key v ∷ es) b i =
    let f = call_alone (key_call v) b i in
    further i f (subst (Rest (obey (key v) b).next es) f.receiver (apart es (obey (key v) b).next f.range))
apart (socket v ∷ es) b i =
    let f = call_alone (value from_socket v) b i in
    further i f
    (subst (Rest (obey (socket v) b).next es) f.receiver (apart es (obey (socket v) b).next f.range))
apart (to_local ∷ es) b i =
    let f = call_alone local_call b i in
    further i f (subst (Rest (obey to_local b).next es) f.receiver (apart es (obey to_local b).next f.range))
apart (to_connected ∷ es) b i =
    let f = call_alone connected_call b i in
    further i f
    (subst (Rest (obey to_connected b).next es) f.receiver (apart es (obey to_connected b).next f.range))
