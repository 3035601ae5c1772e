-- The numbers that a call gives, and their order (01, "Numbers given"). Assumes nothing.
use Rattle.std.specs.Prelude.{ℕ, ◌≡◌, Bool, false, cond, ◌&&◌, not, List, [], ◌∷◌, eqb}

-- which of the table's conditions hold at a call
pub record Conditions : Type 0 where
  pub wrong_length : Bool
  pub broken_state : Bool
  pub too_large : Bool
  pub no_room : Bool
  pub repeat : Bool

-- "Order where several hold: 1, 5, 2, 4, 3"; 0 where "none of the others holds"
abbrev pub number_of : Conditions → ℕ
number_of c =
    cond c.wrong_length 1
    (cond c.broken_state 5
    (cond c.too_large 2
    (cond c.no_room 4
    (cond c.repeat 3 0))))

-- "given exactly when": the number's condition holds, and none before it in the order does
pub record GivenExactly (c : Conditions) : Type 0 where
  pub one : eqb (number_of c) 1 ≡ c.wrong_length
  pub five : eqb (number_of c) 5 ≡ (not c.wrong_length && c.broken_state)
  pub two : eqb (number_of c) 2 ≡ (not c.wrong_length && not c.broken_state && c.too_large)
  pub four : eqb (number_of c) 4 ≡ (not c.wrong_length && not c.broken_state && not c.too_large && c.no_room)
  pub three :
      eqb (number_of c) 3
      ≡ (not c.wrong_length && not c.broken_state && not c.too_large && not c.no_room && c.repeat)
  pub zero :
      eqb (number_of c) 0
      ≡ (not c.wrong_length && not c.broken_state && not c.too_large && not c.no_room && not c.repeat)

-- what an answer tells: its number, and what it names besides (the place of a value too large, the bit mended, or
-- nothing). An answer that is an enum is told through a definition that gives this for each of its cases
pub record Told : Type 0 where
  pub number : ℕ
  pub named : List ℕ

-- ---- calls on a state

-- no condition can hold but that the state is broken and that a value handed in is too large
abbrev pub refusable : Bool → Bool → Conditions
refusable broken large =
    record { wrong_length = false; broken_state = broken; too_large = large; no_room = false; repeat = false }

-- what is told of them: number 2 names the place of the value
abbrev pub told_of : Bool → Bool → ℕ → Told
told_of broken large place =
    let n = number_of (refusable broken large) in record { number = n; named = cond (eqb n 2) (place ∷ []) [] }
