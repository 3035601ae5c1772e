-- Values that stay in row 0: a letter and CR on a fresh screen. Assumes nothing.
use mathlib.Core.Path.{refl}
use mathlib.Core.List.{[], ◌∷◌}
use Rattle.screen_planning.specs.Obeying.{gone, obeyed}
use Rattle.screen_page.specs.Pages.{fresh_screen}
use Rattle.screen.specs.Screens.{written, written_times, applied, advanced, advanced_by}
use Rattle.screen.specs.Claims.{entering_row0, StaysInRow0, done, next}

pub met : StaysInRow0 (advanced_by fresh_screen (entering_row0 1 0 65)) (65 ∷ 13 ∷ [])
unfolding gone obeyed fresh_screen written written_times applied advanced advanced_by
met = next refl (next refl done)
