-- Room for whatever some bytes yield. Assumes nothing.
use Rattle.std.specs.Prelude.{ℕ, ◌+◌, ◌*◌, ◌≤◌}
use Rattle.board_front.specs.declared.Room.{Room}

-- with at most sixteen bytes held before them, n bytes bring at most n + 16 values, and a value at most five bytes; a
-- byte asks for at most two
pub record Ample (n : ℕ) (r : Room) : Type 0 where
  pub keyboard : 5 * (n + 16) ≤ r.keyboard
  pub modem : 5 * (n + 16) ≤ r.modem
  pub socket : 5 * (n + 16) ≤ r.socket
  pub requests : 2 * n ≤ r.requests
