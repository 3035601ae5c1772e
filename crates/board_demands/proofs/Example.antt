-- The page of specs/Example, computed: what the receiver passes and asks, and what the screen shows of it. Assumes
-- nothing.
use mathlib.Core.Path.{◌≡◌, refl, ap, ◌∙◌}
use mathlib.Core.List.{List, [], ◌∷◌, map}
use Prim.Native.Nat.{ℕ, zero, suc}
use native.Mathlib.Omega.{arith}
use lib.ListN.{replicate}
use Rattle.values.specs.Large.{Values, first_large}
use Rattle.values.proofs.Found.{all_small}
use Rattle.block_division.specs.Division.{low_bits, bits, reduce, divide}
use Rattle.block_parity.specs.Parity.{ones, even, all_even, with_parity}
use Rattle.block_validity.specs.Block.{code_bits, remainder, valid}
use Rattle.block_validity.specs.Changed.{flip}
use Rattle.block_reader.specs.Judging.{try_from, verdict, left}
use Rattle.links_wiring.specs.declared.Module.TheVariants.{Screen}
use Rattle.links_hearing.specs.declared.Unfinished.TheVariants.{Free}
use Rattle.links_hearing.specs.Phrases.{alone, AllProper, Phrased}
use Rattle.line_receiver.specs.States.{new_receiver}
use Rattle.line_receiver.specs.Runs.{Event as Heard, byte, on, sent, all_passed, all_asked}
use Rattle.screen_cells.specs.Characters.{good_character}
use Rattle.screen_sheet.specs.Clearing.{cleared}
use Rattle.screen_sheet.specs.Within.{all_good}
use Rattle.screen_pen.specs.Pens.{good_spot, in_range as pen_in_range}
use Rattle.screen_planning.specs.Obeying.{gone, obeyed}
use Rattle.screen_page.specs.declared.Screen.{Screen as Page}
use Rattle.screen_page.specs.Pages.{fresh_screen}
use Rattle.screen_page.specs.Ranges.{in_range, broken}
use Rattle.screen.specs.Screens.{written, written_times, applied, advanced, advanced_by}
use Rattle.screen.specs.Calls.{ran}
use Rattle.board.specs.Boards.{fresh_board}
use Rattle.board.specs.Runs.{front, run, requests}
use Rattle.board.proofs.Ranges.{fresh_in}
use Rattle.board.proofs.Linked.{stays_linked}
use Rattle.board.proofs.Shown.{shows}
use Rattle.board_demands.specs.Example.{arrived, wanted, shown}

abbrev heard : List Heard
heard = on ∷ map byte arrived

abbrev page : List ℕ
page = 12 ∷ 65 ∷ 18 ∷ 74 ∷ 0 ∷ 0 ∷ 0 ∷ 0 ∷ 0 ∷ 0 ∷ 0 ∷ 0 ∷ 0 ∷ 0 ∷ 0 ∷ []

on_the_line : (all_passed (sent new_receiver heard) ≡ page) × (all_asked (sent new_receiver heard) ≡ wanted)
unfolding low_bits bits reduce divide ones even all_even with_parity code_bits remainder valid flip try_from verdict left
on_the_line = (refl, refl)

on_the_screen : (ran fresh_screen page).screen.cells ≡ shown
unfolding first_large cleared good_character all_good good_spot pen_in_range gone obeyed
    fresh_screen written written_times applied advanced advanced_by in_range broken ran
on_the_screen = refl

small : Values page
unfolding first_large
small = all_small page (omega arith)

nulls_alone : (n : ℕ) → AllProper (map alone (replicate n 0))
nulls_alone zero = tt
nulls_alone (suc n) = (λ e. omega (arith, e), nulls_alone n)

no_esc : AllProper (map alone page)
no_esc = (
  λ e. omega (arith, e),
  (λ e. omega (arith, e), (λ e. omega (arith, e), (λ e. omega (arith, e), nulls_alone 11))),
)

pub example : ((run fresh_board (map front heard)).screen.cells ≡ shown)
    × (requests fresh_board (map front heard) ≡ wanted)
example =
    let p : Phrased page = record { phrases = map alone page; rest = Free; proper = no_esc; whole = refl } in
    let e = shows fresh_board fresh_in refl heard page wanted on_the_line.0 on_the_line.1 small p
    (stays_linked Screen (map alone page) fresh_board.links fresh_in.links refl refl no_esc tt small) in
    (ap (λ (s : Page). s.cells) e.0 ∙ on_the_screen, e.2)
