-- What takes a ground: a G0 space or any G1 character, and nothing else. Assumes nothing.
use mathlib.Core.Path.{◌≡◌, refl}
use mathlib.Core.Bool.{Bool, true, false, ◌&&◌, ◌||◌}
use mathlib.Core.Logic.{◌⊎◌, inl, inr}
use Prim.Native.Nat.{ℕ}
use lib.Dec.{eqb}
use borrow.Author.Tests.{eqb-true}
use Rattle.laws.proofs.Computed.{holds}
use Rattle.screen_cells.specs.declared.Character.{Character}
use Rattle.screen_cells.specs.Characters.{character, takes}

pub taker : (c : Character) → takes c ≡ true → (c.set ≡ 1) ⊎ ((c.set ≡ 0) × (c.code ≡ 32))
taker c e = go (eqb c.set 1) (eqb c.set 0) (eqb c.code 32) refl refl refl e
  where
    go : (t u v : Bool) → eqb c.set 1 ≡ t → eqb c.set 0 ≡ u → eqb c.code 32 ≡ v → (t || (u && v)) ≡ true
        → (c.set ≡ 1) ⊎ ((c.set ≡ 0) × (c.code ≡ 32))
    go true u v f g h k = inl (eqb-true c.set 1 f)
    go false true true f g h k = inr (eqb-true c.set 0 g, eqb-true c.code 32 h)
    go false true false f g h k = absurd (holds k)
    go false false v f g h k = absurd (holds k)

pub mosaic_takes : (d : ℕ) → takes (character 1 d) ≡ true
mosaic_takes d = refl

pub space_takes : takes (character 0 32) ≡ true
space_takes = refl
