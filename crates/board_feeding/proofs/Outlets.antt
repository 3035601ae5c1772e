-- What an outlet holds, with bytes put behind it. Assumes nothing.
use mathlib.Core.Path.{◌≡◌, sym, ap, ap₂, ◌∙◌}
use mathlib.Core.List.{List, ◌++◌}
use Prim.Native.Nat.{ℕ, ◌+◌, ◌-◌}
use native.Mathlib.Omega.{arith}
use lib.ListN.{length, replicate, length-append}
use lib.Seq.{take-append_seam, drop-append-add}
use Rattle.std.proofs.lemmas.List.{drop-replicate}
use Rattle.links_wiring.specs.declared.Module.{Module}
use Rattle.links_wiring.specs.declared.Module.TheVariants.{Screen, Keyboard, Modem, Socket}
use Rattle.few.specs.declared.Few.{Few}
use Rattle.few.specs.Bytes.{contents}
use Rattle.links_sending.specs.Sending.{Sent, part_of, gets}
use Rattle.board_feeding.specs.Feeding.{outlet, shares_of, appended, gathered}

-- ---- bytes behind what is held, and 0 past them

pub behind : (vs : List ℕ) (b : Few 5) → appended (outlet vs) b ≡ outlet (vs ++ contents b)
behind vs b =
    let ws = contents b in
    let n : ℕ = length ws in
    let z : List ℕ = replicate (75 - length vs) 0 in
    let sum : length (vs ++ ws) ≡ length vs + n = length-append vs ws in
    let rest : 75 - length vs - n ≡ 75 - length (vs ++ ws) = omega (arith, sum) in
    ap₂ (λ (x : List ℕ) (y : ℕ). record { codes = x; count = y })
    (ap₂ (λ (x y : List ℕ). x ++ ws ++ y) (take-append_seam vs z)
    (drop-append-add vs z n ∙ drop-replicate n (75 - length vs) 0 ∙ ap (λ (k : ℕ). replicate k 0) rest)) (sym sum)

pub gathers : (g : Module → List ℕ) (s : Sent) → gathered (shares_of g) s ≡ shares_of (λ m. g m ++ gets s m)
gathers g s =
    let at : (m : Module) → appended (outlet (g m)) (part_of s m) ≡ outlet (g m ++ gets s m) =
    λ m. behind (g m) (part_of s m) in
    simp (at Screen, at Keyboard, at Modem, at Socket)
