-- The page shown is the page sent, where the line's bytes are handed in as one piece. Assumes nothing.
use mathlib.Core.Path.{◌≡◌, refl, sym, ap, ◌∙◌}
use mathlib.Core.Bool.{true}
use mathlib.Core.List.{List, [], ◌∷◌, ◌++◌, map}
use Prim.Native.Nat.{ℕ}
use Rattle.values.specs.Large.{Values}
use Rattle.links_wiring.specs.declared.Module.TheVariants.{Screen, Modem}
use Rattle.links_hearing.specs.declared.Unfinished.TheVariants.{Free}
use Rattle.links_hearing.specs.Phrases.{all_flowing, Phrased}
use Rattle.line_receiver.specs.declared.Stepped.{Stepped}
use Rattle.line_receiver.specs.Runs.{byte}
use Rattle.line_receiver.specs.Line.{made_of, filled, Sending}
use Rattle.line_receiver.proofs.Kept.{on_afresh}
use Rattle.links_hearing.specs.declared.ears.Ear.TheVariants.{Modem as modem}
use Rattle.links.specs.States.{unfinished}
use Rattle.links.specs.Runs.{Throughout}
use Rattle.board_feeding.specs.Feeding.{from_line}
use Rattle.screen.specs.Calls.{ran}
use Rattle.board_front.specs.declared.Room.{Room}
use Rattle.board.specs.declared.Board.{Board}
use Rattle.few.specs.Bytes.{contents}
use Rattle.board.specs.Calls.{following, switched_on}
use Rattle.board.specs.Runs.{Event, front, run, request, requests, InBoard}
use Rattle.board.proofs.Ranges.{tested}
use Rattle.board.proofs.Shown.{page_shown}
use Rattle.board_pieces.specs.declared.Passage.{Passage}
use Rattle.board_pieces.specs.Pieces.{singly, asked, lines_of, is_taken}
use Rattle.board_pieces.proofs.Taken.{when_taken}

each_byte : (bs : List ℕ) → singly bs ≡ map front (map byte bs)
each_byte [] = refl
each_byte (x ∷ bs) = ap (λ (es : List Event). front (byte x) ∷ es) (each_byte bs)

-- switching on asks nothing
on_asks : (b : Board) → InBoard b → request (switched_on b) ≡ []
unfolding following
on_asks b i =
    simp (tested b i)
    (ap (λ (s : Stepped). contents s.request) (on_afresh b.receiver i.receiver))

pub piece_shown : (vs bs qs : List ℕ) → Values vs → Sending 0 (made_of vs) bs qs
    → (b : Board) → InBoard b → unfinished b.links modem ≡ Free
    → (p : Phrased (filled vs)) → Throughout Modem Screen b.links (from_line (filled vs))
    → (r : Room) → let c = (switched_on b).next in is_taken c bs r ≡ true
    → ((lines_of c bs r).next.screen ≡ (ran b.screen (all_flowing p.phrases)).screen) × (asked c bs ≡ qs)
unfolding requests
piece_shown vs bs qs h s b i free p linked r t =
    let c = (switched_on b).next in
    let e = page_shown vs bs qs h s b i free p linked in (
      ap (λ (q : Passage). q.next.screen) (when_taken c bs r t)
          ∙ ap (λ (es : List Event). (run c es).screen) (each_byte bs) ∙ e.0,
      ap (requests c) (each_byte bs)
          ∙ sym (ap (λ (ws : List ℕ). ws ++ requests c (map front (map byte bs))) (on_asks b i)) ∙ e.2,
    )
