-- A byte heard by a broken receiver, or by broken links behind it. Assumes nothing.
use mathlib.Core.Path.{◌≡◌, refl, ap}
use mathlib.Core.Bool.{false}
use Prim.Native.Nat.{ℕ}
use Rattle.line_receiver.specs.States.{in_range as receiver_in_range}
use Rattle.line_receiver.specs.Calls.{refused, stepped}
use Rattle.links.specs.States.{in_range as links_in_range}
use Rattle.few.specs.Bytes.{contents}
use Rattle.board_feeding.specs.declared.Fed.{Fed}
use Rattle.board_feeding.specs.Feeding.{got, nobody, fed}
use Rattle.board_feeding.proofs.Refused.{broken_fed}
use Rattle.board_front.specs.declared.Front.{Front}
use Rattle.board_front.specs.LineBytes.{sent_on, heard_by, unheard}

-- the receiver refuses the byte, and nothing is heard
pub broken_receiver : (f : Front) (x : ℕ) → receiver_in_range f.receiver ≡ false → heard_by f x ≡ unheard f
unfolding heard_by fed got
broken_receiver f x i = ap (sent_on f.links) (gone i)
  where
    gone : receiver_in_range f.receiver ≡ false → stepped f.receiver x ≡ refused f.receiver
    gone e = simp e

-- the links refuse every value, and the receiver goes on
pub broken_links : (f : Front) (x : ℕ) → links_in_range f.links ≡ false
    → ((heard_by f x).front.links ≡ f.links) × ((heard_by f x).shares ≡ nobody)
    × ((heard_by f x).front.receiver ≡ (stepped f.receiver x).next)
unfolding heard_by
broken_links f x i =
    let s = stepped f.receiver x in
    let e = broken_fed f.links i (contents s.values) in
    (ap (λ (g : Fed). g.links) e, ap (λ (g : Fed). g.shares) e, refl)
