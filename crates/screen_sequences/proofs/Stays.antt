-- What a value of 0 to 127 leaves open is in range, and so is what it orders. Assumes nothing.
use mathlib.Core.Path.{◌≡◌, refl}
use mathlib.Core.Bool.{true, ◌&&◌}
use mathlib.Core.List.{List, [], ◌∷◌}
use Prim.Native.Nat.{ℕ, ◌/◌, ◌≤◌}
use lib.Dec.{ltb, leb, eqb}
use borrow.Author.Tests.{ltb-true, le-leb}
use Rattle.laws.proofs.Computed.{chosen}
use Rattle.screen_sequences.specs.declared.Sequence.{Sequence}
use Rattle.screen_sequences.specs.declared.Sequence.TheVariants.{Free, Escape, Long, Control, Separator, Repeat}
use Rattle.screen_sequences.specs.declared.Sequence.TheVariants.{Single, Address, Row}
use Rattle.screen_sequences.specs.declared.Order.{Order}
use Rattle.screen_sequences.specs.declared.Order.TheVariants.{Skip, Left, Right, Up, Down, First, Clear, Home}
use Rattle.screen_sequences.specs.declared.Order.TheVariants.{ShiftOut, ShiftIn, Show, Hide, Pair, Go, Write}
use Rattle.screen_sequences.specs.declared.Order.TheVariants.{Second, Again}
use Rattle.screen_sequences.specs.declared.Heard.{Heard}
use Rattle.screen_sequences.specs.Sequences.{in_range, is_separator, among, order, begins, control}
use Rattle.screen_sequences.specs.Sequences.{followed, heard}

-- ---- what a value leaves

-- the code that an order writes is 2/0 to 7/F
abbrev pub InOrder : Order → Type 0
InOrder Skip = Unit {0}
InOrder Left = Unit {0}
InOrder Right = Unit {0}
InOrder Up = Unit {0}
InOrder Down = Unit {0}
InOrder First = Unit {0}
InOrder Clear = Unit {0}
InOrder Home = Unit {0}
InOrder ShiftOut = Unit {0}
InOrder ShiftIn = Unit {0}
InOrder Show = Unit {0}
InOrder Hide = Unit {0}
InOrder (Pair c) = Unit {0}
InOrder (Go r c) = Unit {0}
InOrder (Write c) = (32 ≤ c) × (c ≤ 127)
InOrder (Second c) = (32 ≤ c) × (c ≤ 127)
InOrder (Again n) = Unit {0}

-- what is left open is in range, and so is what is ordered
abbrev pub Fine : Heard → Type 0
Fine h = (in_range h.sequence ≡ true) × InOrder h.order

follow_in : (q : Sequence) (c : ℕ) → 32 ≤ c → c ≤ 127 → Fine (followed q c)
follow_in Free c l h = (refl, (l, h))
follow_in Escape c l h =
    chosen Fine (ltb c 48) (λ e. (refl, tt)) (λ e. chosen Fine (eqb c 91) (λ f. (refl, tt)) (λ f. (refl, tt)))
follow_in Long c l h = chosen Fine (leb 48 c && leb c 126) (λ e. (refl, tt)) (λ e. (refl, tt))
follow_in Control c l h = chosen Fine (leb 64 c && leb c 126) (λ e. (refl, tt)) (λ e. (refl, tt))
follow_in Separator c l h = (refl, tt)
follow_in Repeat c l h = chosen Fine (ltb c 64) (λ e. (refl, tt)) (λ e. (refl, tt))
follow_in Single c l h = chosen Fine (eqb (c / 16) 4) (λ e. (refl, tt)) (λ e. (refl, (l, h)))
follow_in Address c l h = (simp (le-leb 32 c l, le-leb c 127 h), tt)
follow_in (Row r) c l h = (refl, tt)

-- a property that every entry of a table has, where b is its key, is one of whatever is looked up for b
module _ {A : Type 0} (P : A → Type 0) (b : ℕ) where
  pub data Throughout : List (ℕ × A) → Type 0 where
    none : Throughout []
    also : {k : ℕ} {x : A} {es : List (ℕ × A)} → (eqb b k ≡ true → P x) → Throughout es → Throughout ((k, x) ∷ es)

  pub among_in : {es : List (ℕ × A)} (d : A) → Throughout es → P d → P (among b es d)
  among_in d none q = q
  among_in d (also {k = k} p t) q = chosen P (eqb b k) p (λ e. among_in d t q)

begun_in : (b : ℕ) → in_range (begins b) ≡ true
begun_in b =
    among_in Good b Free
    (also (λ e. refl) (also (λ e. refl) (also (λ e. refl) (also (λ e. refl) (also (λ e. refl) none))))) refl
  where
    Good : Sequence → Type 0
    Good q = in_range q ≡ true

ordered_in : (b : ℕ) → InOrder (order b)
ordered_in b =
    among_in InOrder b Skip
    (also (λ e. tt) (also (λ e. tt) (also (λ e. tt) (also (λ e. tt) (also (λ e. tt) (also (λ e. tt)
    (also (λ e. tt) (also (λ e. tt) (also (λ e. tt) (also (λ e. tt) (also (λ e. tt) none)))))))))))
    tt

control_in : (b : ℕ) → Fine (control b)
control_in b = (begun_in b, ordered_in b)

pub heard_in : (q : Sequence) (b : ℕ) → in_range q ≡ true → b ≤ 127 → Fine (heard q b)
heard_in q b r h =
    chosen Fine (eqb b 0) (λ e. (r, tt))
    (λ e. chosen Fine (ltb 31 b) (λ f. follow_in q b (ltb-true 31 b f) h)
    (λ f. chosen Fine (is_separator q) (λ g. (refl, tt)) (λ g. control_in b)))
