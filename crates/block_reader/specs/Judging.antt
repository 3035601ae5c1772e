-- What the reader says, leaves and hands on, for any bytes (01, "Judging", "Numbers given"): the long way round, so
-- that it is believed at sight. Assumes nothing.
use Rattle.std.specs.Prelude.{ℕ, zero, suc, Bool, false, cond, ◌||◌, ◌&&◌, not, List, [], ◌∷◌, eqb, length, take}
use Rattle.numbers.specs.Numbers.{Conditions, Told}
use Rattle.block_validity.specs.Block.{valid}
use Rattle.block_validity.specs.Changed.{flip}
use Rattle.block_reader.specs.declared.Verdict.{Verdict}
use Rattle.block_reader.specs.declared.Verdict.TheVariants.{Clean, Mended, Repeat, WrongLength}

-- how many bits, from the first in block order on, may be mended: "'within one changed bit' is over 128 bits" (02,
-- request 2), the 127 code bits and the parity bit of byte 16
abbrev pub mendable : ℕ
mendable = 128

-- of the bits k, k + 1, .., n of them: the first whose change makes the block valid
unfoldable pub try_from : ℕ → ℕ → List ℕ → Verdict
try_from k zero B = Repeat
try_from k (suc n) B = cond (valid (flip k B)) (Mended k) (try_from (suc k) n B)

-- "Valid as it stands: clean. Otherwise, if a valid block differs from it in exactly one bit .. that bit is changed
-- in place: mended. Otherwise: repeat": no change is tried, then each mendable bit in turn
unfoldable pub verdict : List ℕ → Verdict
verdict B = cond (eqb (length B) 17) (cond (valid B) Clean (try_from 0 mendable B)) WrongLength

-- the paper's number of each verdict, and the bit that it names: a mended block is taken
abbrev pub told : Verdict → Told
told Clean = record { number = 0; named = [] }
told (Mended k) = record { number = 0; named = k ∷ [] }
told Repeat = record { number = 3; named = [] }
told WrongLength = record { number = 1; named = [] }

-- the block left behind: "that bit is changed in place", else nothing is
abbrev pub left_by : Verdict → List ℕ → List ℕ
left_by Clean B = B
left_by (Mended k) B = flip k B
left_by Repeat B = B
left_by WrongLength B = B

-- "After clean or mended, the caller gets back the first fifteen bytes ..; after a repeat or a wrong length, an
-- empty part"
abbrev pub handed_by : Verdict → List ℕ → List ℕ
handed_by Clean C = take 15 C
handed_by (Mended k) C = take 15 C
handed_by Repeat C = []
handed_by WrongLength C = []

-- the three for a block B as it arrived
unfoldable pub judged : List ℕ → Told
judged B = told (verdict B)

unfoldable pub left : List ℕ → List ℕ
left B = left_by (verdict B) B

unfoldable pub handed : List ℕ → List ℕ
handed B = handed_by (verdict B) (left B)

-- the bit that an answer names, as one byte: 255 where it names none
abbrev pub first_or255 : List ℕ → ℕ
first_or255 [] = 255
first_or255 (k ∷ ks) = k

abbrev pub bit_named : Told → ℕ
bit_named t = first_or255 t.named

-- one of the first n bits mends B
unfoldable pub one_mends : ℕ → List ℕ → Bool
one_mends zero B = false
one_mends (suc n) B = valid (flip n B) || one_mends n B

-- "block not 17", and no valid block within one of the 128 bits (number 3, as request 2 has it)
abbrev pub judge_conditions : List ℕ → Conditions
judge_conditions B =
    record {
      wrong_length = not (eqb (length B) 17);
      broken_state = false;
      too_large = false;
      no_room = false;
      repeat = not (valid B) && not (one_mends mendable B);
    }
