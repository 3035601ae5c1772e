-- What a verdict claims, and what is claimed of the block that is handed on. Assumes nothing.
use Rattle.std.specs.Prelude.{ℕ, ◌<◌, ◌≡◌, List, length}
use Rattle.block_validity.specs.Block.{Valid}
use Rattle.block_validity.specs.Changed.{flip, Near}
use Rattle.block_reader.specs.declared.Verdict.{Verdict}
use Rattle.block_reader.specs.declared.Verdict.TheVariants.{Clean, Mended, Repeat, WrongLength}
use Rattle.block_reader.specs.Judging.{mendable}

-- no valid block is near: B itself is not, nor is B with any one mendable bit changed
abbrev pub NoneNear : List ℕ → Type 0
NoneNear B = (C : List ℕ) → Near mendable B C → Valid C → ⊥

-- B is valid; or bit k is mendable and makes it so; or it has seventeen bytes and no valid block is near; or it has
-- not seventeen
abbrev pub Right : List ℕ → Verdict → Type 0
Right B Clean = Valid B
Right B (Mended k) = (k < mendable) × Valid (flip k B)
Right B Repeat = (length B ≡ 17) × NoneNear B
Right B WrongLength = length B ≡ 17 → ⊥

-- C is the only valid block near B
pub record OnlyNear (B C : List ℕ) : Type 0 where
  pub is_valid : Valid C
  pub near : Near mendable B C
  pub only : (D : List ℕ) → Near mendable B D → Valid D → D ≡ C
