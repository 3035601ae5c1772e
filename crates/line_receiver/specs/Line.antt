-- The line whole: any values cut into fifteens and made into blocks, and what arrives of these. Assumes nothing.
use Rattle.std.specs.Prelude.{◌≡◌, List, [], ◌∷◌, ◌++◌, map, ℕ, zero, suc, ◌+◌, ◌-◌, ◌*◌, ◌/◌, ◌%◌, ◌<◌, length, take, drop, replicate}
use Rattle.block_validity.specs.Changed.{flip, Near}
use Rattle.block_maker.specs.Making.{block_of}
use Rattle.block_reader.specs.Judging.{mendable}
use Rattle.block_reader.specs.Claims.{NoneNear}
use Rattle.line_codes.specs.Codes.{syn, four, request, Nowhere}

-- how many blocks the values take
abbrev pub blocks_for : List ℕ → ℕ
blocks_for vs = (length vs + 14) / 15

-- n fifteens of them; the last may be short
unfoldable pub fifteens : ℕ → List ℕ → List (List ℕ)
fifteens zero vs = []
fifteens (suc n) vs = take 15 vs ∷ fifteens n (drop 15 vs)

-- the blocks made of them
abbrev pub made_of : List ℕ → List (List ℕ)
made_of vs = map block_of (fifteens (blocks_for vs) vs)

-- the values, filled up with NUL
abbrev pub filled : List ℕ → List ℕ
filled vs = vs ++ replicate (15 * blocks_for vs - length vs) 0

-- lists one behind the other
abbrev pub joined : List (List ℕ) → List ℕ
joined [] = []
joined (us ∷ uss) = us ++ joined uss

-- what arrives of blocks, one behind the other: each hit at no bit or at one mendable bit
pub data Arrives : List (List ℕ) → List ℕ → Type 0 where
  nothing_more : Arrives [] []
  block_then : {W B : List ℕ} {Ws : List (List ℕ)} {bs : List ℕ} → Near mendable W B → Arrives Ws bs
      → Arrives (W ∷ Ws) (B ++ bs)

-- a block as it arrives hit at two different bits of all 136: one of the ways in which none is left near it
pub data Twice (W : List ℕ) : List ℕ → Type 0 where
  twice : (i k : ℕ) → i < 136 → k < 136 → (i ≡ k → ⊥) → Twice W (flip i (flip k W))

-- `Sending x Ws bs qs`: of blocks Ws, the first of them numbered x, bytes bs arrive, and qs is what the sender is
-- asked for meanwhile
pub data Sending : ℕ → List (List ℕ) → List ℕ → List ℕ → Type 0 where
  -- all of them come through
  through : {x : ℕ} {Ws : List (List ℕ)} {bs : List ℕ} → Arrives Ws bs → Sending x Ws bs []
  -- some do; for the next seventeen bytes arrive near which no valid block is; whatever is on its way arrives, so long
  -- as SYN, SYN, 4/X of the awaited number stand nowhere in it; and the sender begins again with that block
  resent : {x : ℕ} {Us Ws : List (List ℕ)} {W B before noise bs qs : List ℕ} → Arrives Us before
      → length B ≡ 17 → NoneNear B → Nowhere ((x + length Us) % 16) noise
      → Sending ((x + length Us) % 16) (W ∷ Ws) bs qs
      → Sending x (Us ++ (W ∷ Ws)) (before ++ B ++ noise ++ (syn ∷ syn ∷ four ((x + length Us) % 16) ∷ bs))
      (request ((x + length Us) % 16) ++ qs)
