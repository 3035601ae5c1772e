-- What the range test says. Assumes nothing.
use mathlib.Core.Path.{◌≡◌, sym, ap, ◌∙◌}
use mathlib.Core.Bool.{true, ◌&&◌}
use Prim.Native.Nat.{ℕ, ◌<◌}
use lib.Dec.{T, ltb}
use borrow.Author.Tests.{ltb-true, lt-ltb}
use Rattle.laws.proofs.Computed.{and_left, and_right, both, is_true, holds}
use Rattle.line_phases.specs.Phases.{seen_in_range}
use Rattle.line_phases.specs.declared.Phase.TheVariants.{Waiting}
use Rattle.line_receiver.specs.declared.Receiver.{Receiver}
use Rattle.line_receiver.specs.States.{in_range}

module _ (r : Receiver) where
  number_test : T (in_range r) → T (ltb r.number 16)
  number_test = and_left (ltb r.number 16) (ltb r.count 17 && seen_in_range r.phase)

  rest : T (in_range r) → T (ltb r.count 17 && seen_in_range r.phase)
  rest = and_right (ltb r.number 16) (ltb r.count 17 && seen_in_range r.phase)

  pub in_range_lem : r.number < 16 → r.count < 17 → seen_in_range r.phase ≡ true → in_range r ≡ true
  in_range_lem h k s =
      is_true (in_range r)
      (both (ltb r.number 16) (ltb r.count 17 && seen_in_range r.phase) (holds (lt-ltb r.number 16 h))
      (both (ltb r.count 17) (seen_in_range r.phase) (holds (lt-ltb r.count 17 k)) (holds s)))

  module _ (e : in_range r ≡ true) where
    pub number_in : r.number < 16
    number_in = ltb-true r.number 16 (is_true (ltb r.number 16) (number_test (holds e)))

    pub count_in : r.count < 17
    count_in =
        ltb-true r.count 17
        (is_true (ltb r.count 17) (and_left (ltb r.count 17) (seen_in_range r.phase) (rest (holds e))))

    pub seen_in_lem : (n : ℕ) → r.phase ≡ Waiting n → n < 3
    seen_in_lem n p =
        ltb-true n 3
        (sym (ap seen_in_range p)
        ∙ is_true (seen_in_range r.phase) (and_right (ltb r.count 17) (seen_in_range r.phase) (rest (holds e))))
