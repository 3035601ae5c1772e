-- The sender's state (02, request 8). Assumes nothing.
use Rattle.std.specs.Prelude.{◌≡◌, Bool, true, false, cond, ◌&&◌, List, ◌++◌, ℕ, ◌+◌, ◌*◌, ltb, length, take, drop, replicate}
use Rattle.line_codes.specs.Codes.{next}
use Rattle.line_sender.specs.declared.Sender.{Sender}

-- 0 to 16 are kept, and the next number is 0 to 15
abbrev pub in_range : Sender → Bool
in_range s = ltb s.kept 17 && ltb s.next 16

-- a state in range, with its array of sixteen blocks: the array of every sender has them, a list need not
pub record InSender (s : Sender) : Type 0 where
  pub range : in_range s ≡ true
  pub array : length s.blocks ≡ 272

-- "After a restart nothing is kept and numbering begins at 0"
abbrev pub new_sender : Sender
new_sender = record { blocks = replicate 272 0; kept = 0; next = 0; nack = false }

-- the bytes of the blocks kept, oldest first
abbrev pub stored : Sender → List ℕ
stored s = take (17 * s.kept) s.blocks

-- ---- "numbers blocks from 0, keeps the last sixteen": block W is kept under the next number, which rises by one

-- behind those kept
abbrev pub added : Sender → List ℕ → Sender
added s W =
    record {
      blocks = stored s ++ W ++ drop (17 * s.kept + 17) s.blocks;
      kept = s.kept + 1;
      next = next s.next;
      nack = s.nack;
    }

-- sixteen are kept: the oldest goes
abbrev pub moved_up : Sender → List ℕ → Sender
moved_up s W =
    record { blocks = drop 17 (stored s) ++ W; kept = 16; next = next s.next; nack = s.nack }

abbrev pub keeping : Sender → List ℕ → Sender
keeping s W = cond (ltb s.kept 16) (added s W) (moved_up s W)
