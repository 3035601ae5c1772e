-- `board_playing::note` meets its contract. Assumes nothing.
use Rattle.std.proofs.Common.{◌≡◌, sym, ap, ap₂, ◌∙◌, Bool, cond, ℕ, zero, suc, ◌+◌, ◌-◌, ◌≤◌, ◌<◌, List, [], ◌∷◌, ◌++◌, length, set, replicate, take, drop, length-take-le, length-drop, arith}
use borrow.Rule.Slice.PartMut.{put_mid}
use Rattle.lent.specs.Memory.{written}
use Rattle.lent.proofs.Behind.{begins, one_more}
use Rattle.std.proofs.Math.ListN.{length-replicate}
use Rattle.board_playing.proofs.note.Goals as goal

in_place : (out : List ℕ) (at : ℕ) (vs : List ℕ) → at + length vs ≤ length out
    → take at out ++ (vs ++ drop (length vs) (drop at out)) ≡ written out at vs
in_place out zero vs h = sym (begins out vs (omega arith))
in_place [] (suc at) vs h = absurd (omega arith)
in_place (o ∷ out) (suc at) vs h = ap (λ (l : List ℕ). o ∷ l) (in_place out at vs (omega arith))

-- n zeros written from a place on, and a last value behind them
noted_at : (out : List ℕ) (at n v : ℕ) (k i : ℕ) (zeros : List ℕ) → k ≡ n → i ≡ at + n → zeros ≡ replicate n 0
    → at + n ≤ length out → set (put_mid at k out zeros) i v ≡ written out at (replicate n 0 ++ (v ∷ []))
noted_at out at n v k i zeros e f z h =
    let long : length (replicate {A = ℕ} n 0) ≡ n = length-replicate {A = ℕ} n 0 in
    ap₂ (λ (j : ℕ) (vs : List ℕ). set (put_mid at j out vs) i v) (e ∙ sym long) z
    ∙ ap₂ (λ (l : List ℕ) (j : ℕ). set l j v) (in_place out at (replicate n 0) (omega (arith, long, h)))
    (f ∙ ap (λ (j : ℕ). at + j) (sym long))
    ∙ one_more out at (replicate n 0) v

pub returns-then-noted : goal.returns-then-noted
returns-then-noted c =
    let a = c.args in
    let n : ℕ = a.took - 1 in
    let room : a.at + a.took ≤ length a.notes.now = c.requires.took_in_bounds c.if-noted.true in
    let some : 0 < a.took = c.requires.took_nonzero in
    let k : a.at + a.took - 1 - a.at ≡ n = omega arith in
    let rest : length (drop a.at a.notes.now) ≡ length a.notes.now - a.at = length-drop a.at a.notes.now in
    let many : length (take (a.at + a.took - 1 - a.at) (drop a.at a.notes.now)) ≡ n =
    length-take-le (a.at + a.took - 1 - a.at) (drop a.at a.notes.now) (omega arith) ∙ k in
    let zeros : c.fill.new.self ≡ replicate n 0 =
    c.fill.ensures.after (λ y e. e) ∙ ap (λ (j : ℕ). replicate j 0) many in
    noted_at a.notes.now a.at n a.last (a.at + a.took - 1 - a.at) (a.at + a.took - 1) c.fill.new.self k (omega arith) zeros
    (omega arith)
    ∙ ap (λ (t : Bool). cond t (written a.notes.now a.at (replicate n 0 ++ (a.last ∷ []))) a.notes.now)
    (sym c.if-noted.true)
