-- `line_sender::Sender::make` meets its contract: a block that was made is kept as it stands in the output. Assumes
-- nothing.
use mathlib.Core.Path.{◌≡◌, sym, ap, ◌∙◌}
use mathlib.Core.Bool.{true}
use mathlib.Core.List.{List}
use Prim.Native.Nat.{ℕ, ◌≤◌}
use lib.ListN.{length, take, drop}
use lib.Seq.{take_at}
use Rattle.std.specs.Prelude.{Ok}
use Rattle.numbers.specs.Numbers.{Told}
use Rattle.block_validity.proofs.Validity.{valid_length}
use Rattle.block_maker.specs.Making.{block_of, told, make_number, make_told, make_left}
use Rattle.block_maker.proofs.Blocks.{made_valid}
use Rattle.block_maker.proofs.Numbered.{written}
use Rattle.line_sender.specs.declared.Sender.{Sender}
use Rattle.line_sender.specs.States.{in_range, keeping}
use Rattle.line_sender.specs.Calls.{sent_by}
use Rattle.line_sender.proofs.Answers.{as_made, taken_sent}
use Rattle.line_sender.proofs.Sender.make.Goals as goal

module _ (s : Sender) (vs O : List ℕ) (few : length vs ≤ 15) (g : in_range s ≡ true) where
  takes : told (Ok tt) ≡ make_told vs O → (w : List ℕ) → w ≡ make_left vs O → (k : Sender) → k ≡ keeping s (take 17 w)
      → record { sender = k; answer = Ok tt } ≡ sent_by s vs O
  takes says w e k i =
      let made : make_number vs O ≡ 0 = sym (ap (λ (t : Told). t.number) says) in
      let whole : length (block_of vs) ≡ 17 = valid_length (block_of vs) (made_valid vs few) in
      let first_block : take 17 w ≡ block_of vs =
      ap (take 17) (e ∙ sym (written vs O made)) ∙ take_at (block_of vs) (drop 17 O) 17 whole in
      ap (λ (k : Sender). record { sender = k; answer = Ok tt }) (i ∙ ap (keeping s) first_block)
      ∙ taken_sent s vs O (as_made s vs O g ∙ made)

pub returns-clause-made : goal.returns-clause-made
returns-clause-made c =
    takes c.args.self c.args.values.now c.args.out.now c.if-values-gt15.false
    (sym c.in_range.ensures ∙ c.if-not-in_range.false) c.in_ok-make.ensures.0 c.make.new.out c.make.ensures.1
    c.keep.result c.keep.ensures
