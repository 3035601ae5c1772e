-- "Places past those held are no part of the state": states, and what calls hand back, equal but for them. Assumes
-- nothing.
use Rattle.std.specs.Prelude.{◌≡◌, length, take}
use Rattle.line_receiver.specs.declared.Receiver.{Receiver}
use Rattle.line_receiver.specs.declared.Stepped.{Stepped}

pub record Alike (r q : Receiver) : Type 0 where
  pub arrays : (length r.held ≡ 17) × (length q.held ≡ 17)
  pub count : r.count ≡ q.count
  pub held : take r.count r.held ≡ take q.count q.held
  pub number : r.number ≡ q.number
  pub phase : r.phase ≡ q.phase

pub record AlikeSteps (s t : Stepped) : Type 0 where
  pub next : Alike s.next t.next
  pub answer : s.answer ≡ t.answer
  pub values : s.values ≡ t.values
  pub request : s.request ≡ t.request
  pub judged : s.judged ≡ t.judged
