-- `board_front::fitting::fits_as_heard` meets its contract. Assumes nothing.
use Rattle.std.proofs.Common.{◌≡◌, refl, sym, ap, ◌∙◌, false, Option, Some, None, ℕ, ◌+◌, ◌<◌, List, length, take, take_all, get_or, arith}
use mathlib.Core.Path.{subst, subst⁻¹}
use Rattle.board_feeding.specs.Feeding.{got}
use Rattle.board_front.specs.declared.Front.{Front}
use Rattle.board_front.specs.declared.Heard.{Heard}
use Rattle.board_front.specs.declared.Room.{Room}
use Rattle.board_front.specs.LineBytes.{heard_by, calls, behind}
use Rattle.board_front.specs.Fitting.{within, needed, needs_of, more, left_over}
use Rattle.board_front.proofs.Onwards.{behind_one}
use Rattle.board_front.proofs.Rooms.{tested, one_more, Spent, spent_on, lacking, short, enough, spent_whole}
use Rattle.board_front.proofs.fitting.fits_as_heard.Goals as goal

pub loop-byte-init : goal.loop-byte-init
unfolding calls got
loop-byte-init c = record {
  front = refl;
  left = record { keyboard = omega arith; modem = omega arith; socket = omega arith; requests = omega arith };
}

-- one byte more, heard behind the first i: what it needs of what is left
module _ (f : Front) (xs : List ℕ) (i : ℕ) (h : i < length xs) (r left : Room) (g : Front) (heard : Heard) (need : Room)
    (front : g ≡ behind f (take i xs)) (spent : Spent r left (needed f (take i xs)))
    (is : heard ≡ heard_by g (get_or xs i 0)) (needs : need ≡ needs_of heard) where
  heard_is : heard ≡ heard_by (behind f (take i xs)) (get_or xs i 0)
  heard_is = is ∙ ap (λ (x : Front). heard_by x (get_or xs i 0)) front

  abbrev needs_here : Room
  needs_here = needs_of (heard_by (behind f (take i xs)) (get_or xs i 0))

  here : {l : Option Room} → left_over left need ≡ l → left_over left needs_here ≡ l
  here e = ap (left_over left) (sym (needs ∙ ap needs_of heard_is)) ∙ e

  front_then : heard.front ≡ behind f (take (i + 1) xs)
  front_then = ap (λ (x : Heard). x.front) heard_is ∙ sym (behind_one f xs i h)

  lacks : left_over left need ≡ None → within (needed f xs) r ≡ false
  lacks e = lacking f xs i r left h spent (short left needs_here (here e))

  left_then : (rest : Room) → left_over left need ≡ Some rest → Spent r rest (needed f (take (i + 1) xs))
  left_then rest e =
      let d = enough left needs_here rest (here e) in
      subst⁻¹ (Spent r rest) (one_more f xs i h)
      (subst⁻¹ (λ (x : Room). Spent r x (more (needed f (take i xs)) needs_here)) d.1
      (spent_on spent (tested needs_here left d.0)))

pub returns-in_default : goal.returns-in_default
returns-in_default c =
    let a = c.args in
    let l = c.loop-byte in
    sym (lacks a.start a.piece.now l.byte-index c.loop-byte-test.true a.room l.left l.front c.hear-heard.result
    c.needs.result l.invariant.front l.invariant.left c.hear-heard.ensures.0 c.needs.ensures
    (sym c.spend.ensures ∙ c.in_default.is))

pub loop-byte-preserved : goal.loop-byte-preserved
loop-byte-preserved c =
    let a = c.args in
    let l = c.loop-byte in
    record {
      front = front_then a.start a.piece.now l.byte-index c.loop-byte-test.true a.room l.left l.front c.hear-heard.result
          c.needs.result l.invariant.front l.invariant.left c.hear-heard.ensures.0 c.needs.ensures;
      left = left_then a.start a.piece.now l.byte-index c.loop-byte-test.true a.room l.left l.front c.hear-heard.result
          c.needs.result l.invariant.front l.invariant.left c.hear-heard.ensures.0 c.needs.ensures c.in-Some.rest
          (sym c.spend.ensures ∙ c.in-Some.is);
    }

pub returns : goal.returns
returns c =
    let a = c.args in
    let l = c.loop-byte in
    let e : take l.byte-index a.piece.now ≡ a.piece.now = take_all l.byte-index a.piece.now c.loop-byte-test.false in
    sym (spent_whole (needed a.start a.piece.now) a.room l.left
    (subst (λ (xs : List ℕ). Spent a.room l.left (needed a.start xs)) e l.invariant.left))
