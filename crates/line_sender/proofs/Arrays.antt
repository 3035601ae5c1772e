-- The array of the blocks kept: one block more in it. Assumes nothing.
use mathlib.Core.Path.{◌≡◌, sym, ap, ap₂, ◌∙◌}
use mathlib.Core.Bool.{Bool, cond}
use mathlib.Core.List.{List, [], ◌++◌, append-nil}
use Prim.Native.Nat.{ℕ, ◌*◌}
use native.Mathlib.Omega.{arith}
use lib.ListN.{length, take, drop, length-append, length-drop, drop_of_length-le}
use lib.Seq.{take_all, take_at, paste}
use borrow.Author.Tests.{le-ltb}
use Rattle.line_codes.specs.Codes.{next}
use Rattle.line_sender.specs.declared.Sender.{Sender}
use Rattle.line_sender.specs.States.{added, moved_up, keeping}

-- sixteen kept: the oldest gone and one behind
moved : (B w : List ℕ) → length B ≡ 272
    → paste (drop 17 B ++ drop 255 B) 255 w 17 ≡ drop 17 (take (17 * 16) B) ++ take 17 w
moved B w l =
    let d : length (drop 17 B) ≡ 255 = length-drop 17 B ∙ omega (arith, l) in
    let z : drop 272 (drop 17 B ++ drop 255 B) ≡ [] =
    drop_of_length-le (drop 17 B ++ drop 255 B) {i = 272}
    (omega (arith, length-append (drop 17 B) (drop 255 B), d, length-drop 255 B, l)) in
    ap₂ (λ (x t : List ℕ). x ++ take 17 w ++ t) (take_at (drop 17 B) (drop 255 B) 255 d) z
    ∙ append-nil (drop 17 B ++ take 17 w)
    ∙ ap (λ (x : List ℕ). drop 17 x ++ take 17 w) (sym (take_all 272 B (omega (arith, l))))

-- ---- one block more

module _ (s : Sender) (w : List ℕ) where
  pub keeps_last : (a : List ℕ) (x : ℕ) → s.kept ≡ 16 → length s.blocks ≡ 272
      → a ≡ paste (drop 17 s.blocks ++ drop 255 s.blocks) 255 w 17 → x ≡ next s.next
      → ◌≡◌ {A = Sender} (record { blocks = a; kept = 16; next = x; nack = s.nack }) (keeping s (take 17 w))
  keeps_last a x h l e f =
      let b : a ≡ drop 17 (take (17 * s.kept) s.blocks) ++ take 17 w =
      e ∙ moved s.blocks w l
      ∙ sym (ap (λ (k : ℕ). drop 17 (take (17 * k) s.blocks) ++ take 17 w) h) in
      ap₂ (λ (b : List ℕ) (y : ℕ). record { blocks = b; kept = 16; next = y; nack = s.nack }) b f
      ∙ sym (ap (λ (t : Bool). cond t (added s (take 17 w)) (moved_up s (take 17 w))) (le-ltb s.kept 16 (omega (arith, h))))
