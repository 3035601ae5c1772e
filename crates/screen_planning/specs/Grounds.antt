-- What becomes of the grounds, the one in force and one that waits (01, "Screen cells"). Assumes nothing.
use Rattle.std.specs.Prelude.{Option, Some, None, Bool, cond, ℕ, zero, suc, ◌%◌, eqb}
use Rattle.screen_cells.specs.declared.Character.{Character}
use Rattle.screen_addresses.specs.Addressing.{good}
use Rattle.screen_sequences.specs.declared.Order.{Order}
use Rattle.screen_sequences.specs.declared.Order.TheVariants.{Skip, Left, Right, Up, Down, First, Clear, Home}
use Rattle.screen_sequences.specs.declared.Order.TheVariants.{ShiftOut, ShiftIn, Show, Hide, Pair, Go, Write}
use Rattle.screen_sequences.specs.declared.Order.TheVariants.{Second, Again}
use Rattle.screen_cells.specs.Characters.{character, takes}
use Rattle.screen_attributes.specs.declared.Zone.{Zone}
use Rattle.screen_escapes.specs.Pairing.{names_ground}
use Rattle.screen_pen.specs.declared.Pen.{Pen}

pub data Fate : Type 0 where
  -- what waits, if any does, is in force, and none waits
  taken : Fate
  -- this one waits from now on
  awaited : ℕ → Fate
  -- start attributes: ground 0, and none waits
  dropped : Fate
  -- the kept attributes are in force again, with what waited then
  brought_back : Fate
  -- the ground in force stays, and so does what waits
  left_alone : Fate

abbrev pub taken_where : Bool → Fate
taken_where t = cond t taken left_alone

-- the last character written n times more: "by REP at least once"
abbrev pub again_fate : Option Character → ℕ → Fate
again_fate None n = left_alone
again_fate (Some c) zero = left_alone
again_fate (Some c) (suc n) = taken_where (takes c)

-- by what is ordered: a character that takes a ground, ESC 5/x, FF, RS, a good US, LF in row 0; every other order leaves
-- grounds alone
abbrev pub fate : Pen → Order → Fate
fate p (Write d) = taken_where (takes (character p.here.attributes.set d))
fate p (Second d) = taken_where (takes (character 2 d))
fate p (Again n) = again_fate p.last n
fate p (Pair c) = cond (names_ground c) (awaited (c % 16)) left_alone
fate p Clear = dropped
fate p Home = dropped
fate p (Go r c) = cond (good r c) dropped left_alone
fate p Down = cond (eqb p.here.place.row 0) brought_back left_alone
fate p Skip = left_alone
fate p Left = left_alone
fate p Right = left_alone
fate p Up = left_alone
fate p First = left_alone
fate p ShiftOut = left_alone
fate p ShiftIn = left_alone
fate p Show = left_alone
fate p Hide = left_alone

-- the ground in force once what waits is taken, where g was
abbrev pub taken_from : Option ℕ → (ground : ℕ) → ℕ
taken_from None g = g
taken_from (Some x) g = x

-- the ground in force and what waits after a fate
abbrev pub outcome : Pen → Fate → Zone
outcome p taken =
    let z = p.here.attributes.zone in record { ground = taken_from z.waiting z.ground; waiting = None }
outcome p (awaited x) = record { ground = p.here.attributes.zone.ground; waiting = Some x }
outcome p dropped = record { ground = 0; waiting = None }
outcome p brought_back = p.kept.attributes.zone
outcome p left_alone = p.here.attributes.zone
