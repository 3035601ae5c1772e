-- A sequence is in range exactly when values of 0 to 127 leave it open. Assumes nothing.
use mathlib.Core.Path.{◌≡◌, refl, ap, subst}
use mathlib.Core.Bool.{true}
use mathlib.Core.List.{List, [], ◌∷◌}
use Prim.Native.Nat.{ℕ, ◌≤◌}
use native.Mathlib.Omega.{arith}
use lib.Dec.{leb, lit≤}
use borrow.Author.Tests.{leb-true}
use Rattle.laws.proofs.Computed.{each}
use Rattle.values.specs.Large.{Values}
use Rattle.values.proofs.Found.{values_none, values_cons, values_head, values_tail}
use Rattle.screen_sequences.specs.declared.Sequence.{Sequence}
use Rattle.screen_sequences.specs.declared.Sequence.TheVariants.{Free, Escape, Long, Control, Separator, Repeat}
use Rattle.screen_sequences.specs.declared.Sequence.TheVariants.{Single, Address, Row}
use Rattle.screen_sequences.specs.declared.Heard.{Heard}
use Rattle.screen_sequences.specs.Sequences.{in_range, heard}
use Rattle.screen_sequences.specs.Opening.{opened, LeftOpen}
use Rattle.screen_sequences.proofs.Codes.{heard_code}
use Rattle.screen_sequences.proofs.Stays.{heard_in}

-- ---- what values leave open is in range

opened_in : (q : Sequence) (vs : List ℕ) → in_range q ≡ true → Values vs → in_range (opened q vs) ≡ true
opened_in q [] r v = r
opened_in q (b ∷ bs) r v =
    opened_in (heard q b).sequence bs (heard_in q b r (omega (arith, values_head b bs v))).0 (values_tail b bs v)

pub open_good : (q : Sequence) → LeftOpen q → in_range q ≡ true
open_good q o = subst (λ (x : Sequence). in_range x ≡ true) o.leads (opened_in Free o.values refl o.small)

-- ---- and each that is in range is left open by some

-- one code, or two
one : (b : ℕ) → b ≤ 127 → Values (b ∷ [])
one b h = values_cons b [] (omega (arith, h)) values_none

two : (b c : ℕ) → b ≤ 127 → c ≤ 127 → Values (b ∷ c ∷ [])
two b c h k = values_cons b (c ∷ []) (omega (arith, h)) (one c k)

-- US and the row's code
row_opened : (r : ℕ) → 32 ≤ r → opened Free (31 ∷ r ∷ []) ≡ Row r
row_opened r h = ap (λ (x : Heard). x.sequence) (heard_code Address r h)

pub good_open : (q : Sequence) → in_range q ≡ true → LeftOpen q
good_open Free e = record { values = []; small = values_none; leads = refl }
good_open Escape e = record { values = 27 ∷ []; small = one 27 (lit≤ tt); leads = refl }
good_open Long e = record { values = 27 ∷ 32 ∷ []; small = two 27 32 (lit≤ tt) (lit≤ tt); leads = refl }
good_open Control e = record { values = 27 ∷ 91 ∷ []; small = two 27 91 (lit≤ tt) (lit≤ tt); leads = refl }
good_open Separator e = record { values = 19 ∷ []; small = one 19 (lit≤ tt); leads = refl }
good_open Repeat e = record { values = 18 ∷ []; small = one 18 (lit≤ tt); leads = refl }
good_open Single e = record { values = 25 ∷ []; small = one 25 (lit≤ tt); leads = refl }
good_open Address e = record { values = 31 ∷ []; small = one 31 (lit≤ tt); leads = refl }
good_open (Row r) e =
    let t = each (leb 32 r ∷ leb r 127 ∷ []) e in
    record {
      values = 31 ∷ r ∷ [];
      small = two 31 r (lit≤ tt) (leb-true r 127 t.1);
      leads = row_opened r (leb-true 32 r t.0);
    }
