-- Values heard, written out: what each orders, and what is unfinished behind it. Assumes nothing.
use mathlib.Core.Path.{◌≡◌, refl}
use mathlib.Core.Bool.{true, false}
use mathlib.Core.List.{List, [], ◌∷◌, map}
use Prim.Native.Nat.{ℕ}
use Rattle.links_wiring.specs.declared.Module.TheVariants.{Screen, Keyboard, Modem, Socket}
use Rattle.links_commands.specs.declared.Order.TheVariants.{Nothing, Pass, Link, Ask}
use Rattle.links_hearing.specs.declared.Unfinished.TheVariants.{Free, Pro2With, Pro3With, Pro3Both}
use Rattle.links_hearing.specs.Hearing.{codes_of, in_range, heard, left_after}
use Rattle.links_hearing.proofs.Escapes.{orders_of}

-- ESC, 3/A, 6/2, 5/8; ESC, 3/B, 6/1, 5/8, 5/1; ESC, 3/B, 6/0, 5/A, 5/3
pub commands_written :
    orders_of Free (27 ∷ 58 ∷ 98 ∷ 88 ∷ 27 ∷ 59 ∷ 97 ∷ 88 ∷ 81 ∷ 27 ∷ 59 ∷ 96 ∷ 90 ∷ 83 ∷ [])
    ≡ Nothing ∷ Nothing ∷ Nothing ∷ Ask Screen
    ∷ Nothing ∷ Nothing ∷ Nothing ∷ Nothing ∷ Link Screen Keyboard true
    ∷ Nothing ∷ Nothing ∷ Nothing ∷ Nothing ∷ Link Modem Socket false ∷ []
unfolding heard
commands_written = refl

-- PRO1 takes one code, PRO2 two, PRO3 three, and the value behind them is passed on
pub counts_written :
    orders_of Free (27 ∷ 57 ∷ 27 ∷ 65 ∷ 27 ∷ 58 ∷ 27 ∷ 58 ∷ 66 ∷ 27 ∷ 59 ∷ 99 ∷ 88 ∷ 77 ∷ 67 ∷ [])
    ≡ Nothing ∷ Nothing ∷ Nothing ∷ Pass 65
    ∷ Nothing ∷ Nothing ∷ Nothing ∷ Nothing ∷ Pass 66
    ∷ Nothing ∷ Nothing ∷ Nothing ∷ Nothing ∷ Nothing ∷ Pass 67 ∷ []
unfolding heard
counts_written = refl

-- what is unfinished
pub unfinished_written :
    map (λ (vs : List ℕ). codes_of (left_after Free vs))
    ((65 ∷ []) ∷ (27 ∷ []) ∷ (27 ∷ 57 ∷ []) ∷ (27 ∷ 58 ∷ 98 ∷ []) ∷ (27 ∷ 59 ∷ 97 ∷ []) ∷ (27 ∷ 59 ∷ 97 ∷ 88 ∷ []) ∷ [])
    ≡ [] ∷ (27 ∷ []) ∷ (27 ∷ 57 ∷ []) ∷ (27 ∷ 58 ∷ 98 ∷ []) ∷ (27 ∷ 59 ∷ 97 ∷ []) ∷ (27 ∷ 59 ∷ 97 ∷ 88 ∷ []) ∷ []
unfolding heard
unfinished_written = refl

-- "each at most 127"
pub ranges_written :
    map in_range
    (Pro2With 127 ∷ Pro2With 128 ∷ Pro3With 127 ∷ Pro3With 128 ∷ Pro3Both 127 127 ∷ Pro3Both 128 0 ∷ Pro3Both 0 128 ∷ [])
    ≡ true ∷ false ∷ true ∷ false ∷ true ∷ false ∷ false ∷ []
unfolding in_range
ranges_written = refl
