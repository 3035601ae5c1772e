-- Refusals: 5 before 2, the board handed back, and nothing handed out. Assumes nothing.
use mathlib.Core.Path.{◌≡◌, refl, sym, ap, ◌∙◌, subst⁻¹}
use Rattle.std.specs.Prelude.{Ok}
use mathlib.Core.List.{[]}
use mathlib.Core.Bool.{Bool, true, false, not, ◌&&◌}
use Rattle.laws.proofs.Computed.{and_left, and_right, fails, holds, is_true}
use Rattle.numbers.specs.Numbers.{told_of}
use Rattle.line_receiver.specs.States.{in_range as receiver_in_range}
use Rattle.line_receiver.specs.Runs.{byte, on, off, ask}
use Rattle.links_wiring.specs.declared.Module.{Module}
use Rattle.links_wiring.specs.declared.Module.TheVariants.{Screen, Keyboard, Modem, Socket}
use Rattle.links_hearing.specs.declared.ears.Ear.TheVariants.{Socket as from_socket}
use Rattle.links.specs.declared.Refusal.{Refusal}
use Rattle.links.specs.declared.Refusal.TheVariants.{TooLarge, Broken}
use Rattle.links.specs.States.{in_range as links_in_range}
use Rattle.links.specs.Calls.{told}
use Rattle.links.specs.Runs.{Call, key as key_call, value, to_local as local_call, to_connected as connected_call}
use Rattle.links.specs.Runs.{obey as links_obey, too_large as call_too_large}
use Rattle.links.proofs.Refusals.{large as links-large, taken_else}
use Rattle.screen_page.specs.declared.Screen.{Screen as Page}
use Rattle.screen_page.specs.Ranges.{broken as screen_broken}
use Rattle.screen.proofs.Given.{ran_none}
use Rattle.board.specs.declared.Board.{Board}
use Rattle.board.specs.declared.Outcome.{Outcome}
use Rattle.board.specs.Boards.{in_range}
use Rattle.board.specs.Calls.{refused, following, passing}
use Rattle.board.specs.Runs.{Event, front, key, socket, to_local, to_connected, obey, out_to, too_large, call_told}
use Rattle.board.specs.Runs.{Unmoved}

pub broken : (e : Event) (b : Board) → in_range b ≡ false → obey e b ≡ refused b Broken
unfolding following passing
broken (front (byte x)) b i = simp i
broken (front on) b i = simp i
broken (front off) b i = simp i
broken (front ask) b i = simp i
broken (key v) b i = simp i
broken (socket v) b i = simp i
broken to_local b i = simp i
broken to_connected b i = simp i

-- ---- the links' refusal is the board's

links_in : (b : Board) → in_range b ≡ true → links_in_range b.links ≡ true
unfolding in_range
links_in b i =
    let l = links_in_range b.links in
    let s = not (screen_broken b.screen) in
    is_true l (and_left l s (and_right (receiver_in_range b.receiver) (l && s) (holds i)))

large_call : (c : Call) (b : Board) → in_range b ≡ true → call_too_large c ≡ true
    → passing b (links_obey c b.links) ≡ refused b TooLarge
unfolding passing
large_call c b i h =
    ap (passing b) (links-large c b.links (links_in b i) h)
    ∙ simp i (ap (λ (s : Page). refused (record { receiver = b.receiver; links = b.links; screen = s }) TooLarge)
    (ran_none b.screen))

pub large : (e : Event) (b : Board) → in_range b ≡ true → too_large e ≡ true → obey e b ≡ refused b TooLarge
large (front h) b i t = absurd (fails (sym t) tt)
large (key v) b i t = large_call (key_call v) b i t
large (socket v) b i t = large_call (value from_socket v) b i t
large to_local b i t = absurd (fails (sym t) tt)
large to_connected b i t = absurd (fails (sym t) tt)

-- ---- and else it is taken

call_taken : (c : Call) (b : Board) → in_range b ≡ true → call_too_large c ≡ false
    → (passing b (links_obey c b.links)).answer ≡ Ok tt
unfolding passing
call_taken c b i h = simp i (taken_else c b.links (links_in b i) h)

taken_else_here : (e : Event) (b : Board) → in_range b ≡ true → too_large e ≡ false → (obey e b).answer ≡ Ok tt
unfolding following
taken_else_here (front (byte x)) b i t = simp i
taken_else_here (front on) b i t = simp i
taken_else_here (front off) b i t = simp i
taken_else_here (front ask) b i t = simp i
taken_else_here (key v) b i t = call_taken (key_call v) b i t
taken_else_here (socket v) b i t = call_taken (value from_socket v) b i t
taken_else_here to_local b i t = call_taken local_call b i refl
taken_else_here to_connected b i t = call_taken connected_call b i refl

-- ---- whatever is refused changes nothing

unmoved : (b : Board) (a : Refusal) → Unmoved b (refused b a)
unmoved b a = record { next = refl; silent = silent; unasked = refl }
  where
    silent : (m : Module) → out_to m (refused b a) ≡ []
    silent Screen = refl
    silent Keyboard = refl
    silent Modem = refl
    silent Socket = refl

pub nothing_moves : (e : Event) (b : Board) → ((obey e b).answer ≡ Ok tt → ⊥) → Unmoved b (obey e b)
nothing_moves e b n = go (in_range b) (too_large e) refl refl
  where
    go : (i t : Bool) → in_range b ≡ i → too_large e ≡ t → Unmoved b (obey e b)
    go true true f g = subst⁻¹ (Unmoved b) (large e b f g) (unmoved b TooLarge)
    go true false f g = absurd (n (taken_else_here e b f g))
    go false t f g = subst⁻¹ (Unmoved b) (broken e b f) (unmoved b Broken)

-- ---- the numbers come of the conditions

pub numbers : (e : Event) (b : Board) → told (obey e b).answer ≡ call_told e b
numbers e b = go (in_range b) (too_large e) refl refl
  where
    go : (i t : Bool) → in_range b ≡ i → too_large e ≡ t → told (obey e b).answer ≡ told_of (not i) t 0
    go true true f g = ap (λ (o : Outcome). told o.answer) (large e b f g)
    go true false f g = ap told (taken_else_here e b f g)
    go false t f g = ap (λ (o : Outcome). told o.answer) (broken e b f)
