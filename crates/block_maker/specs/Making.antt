-- What the maker tells and leaves, for any values and any output (01, "The block", "Numbers given"). Assumes
-- nothing.
use Rattle.std.specs.Prelude.{Result, Ok, Err, false, cond, ◌||◌, List, [], ◌∷◌, ◌++◌, map, ℕ, ◌-◌, ◌%◌, eqb, ltb, length, take, drop, replicate}
use Rattle.numbers.specs.Numbers.{Conditions, number_of, Told}
use Rattle.values.specs.Large.{first_large}
use Rattle.block_division.specs.Division.{check_bits}
use Rattle.block_parity.specs.Parity.{with_parity}
use Rattle.block_maker.specs.declared.Unmade.{Unmade}
use Rattle.block_maker.specs.declared.Unmade.TheVariants.{WrongLength, TooLarge, NoRoom}

-- "The maker takes 1 to 15 values .., fills up with NUL, and adds parity": the fifteen useful bytes
unfoldable pub useful : List ℕ → List ℕ
useful vs = map with_parity vs ++ replicate (15 - length vs) 0

-- "remainder and validation": byte 16 is the check bits with parity ("aux bits 0 à 6 les coefficients de rang 0 à 6
-- .., le bit 7 étant le bit de parité": 001, section 5-1-3), and byte 17 is zero
unfoldable pub sealed : List ℕ → List ℕ
sealed u = u ++ (with_parity (check_bits u) ∷ 0 ∷ [])

-- the block of 1 to 15 values
unfoldable pub block_of : List ℕ → List ℕ
block_of vs = sealed (useful vs)

-- the fifteen values of a block: its useful bytes without parity
abbrev pub values_of : List ℕ → List ℕ
values_of B = map (λ (b : ℕ). b % 128) (take 15 B)

-- "maker input 0 or above 15", "a value .. above 127", "maker's output shorter than 17"
abbrev pub make_conditions : List ℕ → List ℕ → Conditions
make_conditions vs O =
    record {
      wrong_length = eqb (length vs) 0 || ltb 15 (length vs);
      broken_state = false;
      too_large = ltb (first_large vs) (length vs);
      no_room = ltb (length O) 17;
      repeat = false;
    }

abbrev pub make_number : List ℕ → List ℕ → ℕ
make_number vs O = number_of (make_conditions vs O)

-- number 2 names the "lowest place"
abbrev pub make_told : List ℕ → List ℕ → Told
make_told vs O =
    record { number = make_number vs O; named = cond (eqb (make_number vs O) 2) (first_large vs ∷ []) [] }

-- "The maker writes the first 17 bytes of its output and no others"; a refusal leaves it as it was
abbrev pub make_left : List ℕ → List ℕ → List ℕ
make_left vs O = cond (eqb (make_number vs O) 0) (block_of vs ++ drop 17 O) O

-- what each answer of the code tells
abbrev pub told : Result (Unit {0}) Unmade → Told
told (Ok made) = record { number = 0; named = [] }
told (Err WrongLength) = record { number = 1; named = [] }
told (Err (TooLarge place)) = record { number = 2; named = place ∷ [] }
told (Err NoRoom) = record { number = 4; named = [] }
