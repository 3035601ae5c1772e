-- The bytes that are put into such an array are the bytes that count.
use Rattle.std.specs.Prelude.{◌≡◌, List, ℕ}
use Rattle.std.proofs.Math.Seq.{take-append_seam}
use Rattle.few.specs.Bytes.{few, contents}

pub kept : (N : ℕ) (vs : List ℕ) → contents (few N vs) ≡ vs
kept N vs = take-append_seam vs _
