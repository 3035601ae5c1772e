-- Row 0 and the rows below it. Assumes nothing.
use Rattle.std.specs.Prelude.{◌≡◌, ◌≤◌}
use Rattle.screen_cursor.specs.declared.Place.{Place}

-- two places are both in row 0, or both in rows below it
pub record SameSide (p q : Place) : Type 0 where
  pub inside : p.row ≡ 0 → q.row ≡ 0
  pub outside : 1 ≤ p.row → 1 ≤ q.row
