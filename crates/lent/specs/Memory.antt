-- Bytes compared, and bytes written over others. Assumes nothing.
use Rattle.std.specs.Prelude.{Bool, true, false, ◌&&◌, List, [], ◌∷◌, ℕ, zero, suc, ◌+◌, ◌-◌, min, eqb, length}

-- the same bytes, and as many
abbrev pub same : List ℕ → List ℕ → Bool
same [] [] = true
same [] (w ∷ ws) = false
same (v ∷ vs) [] = false
same (v ∷ vs) (w ∷ ws) = eqb v w && same vs ws

-- bytes written over those of an output from a place on, as far as it reaches
abbrev pub written : List ℕ → ℕ → List ℕ → List ℕ
written [] at vs = []
written (o ∷ out) zero [] = o ∷ out
written (o ∷ out) zero (v ∷ vs) = v ∷ written out zero vs
written (o ∷ out) (suc at) vs = o ∷ written out at vs

-- the place behind them: as many are written as there are, or as there is room for
abbrev pub behind : List ℕ → ℕ → List ℕ → ℕ
behind out at vs = at + min (length vs) (length out - at)
