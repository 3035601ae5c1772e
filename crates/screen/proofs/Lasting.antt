-- What no value changes: inverse is off while G1 is current, and a last character once written is there. Assumes nothing.
use mathlib.Core.Path.{◌≡◌, sym, ap, ◌∙◌, subst⁻¹}
use mathlib.Core.List.{List, [], ◌∷◌}
use Prim.Native.Nat.{ℕ}
use Rattle.std.specs.Prelude.{None, Ok, Err}
use Rattle.screen_answers.specs.Answers.{Answer}
use Rattle.screen_pen.specs.declared.Pen.{Pen}
use Rattle.screen_planning.specs.Planning.{ordered}
use Rattle.screen_planning.specs.Lasts.{last_after}
use Rattle.screen_planning.proofs.Lasts.{value_last, value_never}
use Rattle.screen_planning.proofs.Mosaics.{Uprights, value_upright}
use Rattle.screen_page.specs.declared.Screen.{Screen}
use Rattle.screen.specs.Screens.{advanced, advanced_by}
use Rattle.screen.specs.Calls.{left_by, answered, stepped, ran}
use Rattle.screen.proofs.Returned.{step_pen}

-- ---- the last character

-- it is changed by a written character alone
pub step_last : (s : Screen) (b : ℕ) → (advanced s b).pen.last ≡ last_after s.pen (ordered s.pen b)
step_last s b = ap (λ (p : Pen). p.last) (step_pen s b) ∙ value_last s.pen b

-- ---- whatever the answer

-- a screen handed back is the one handed in or the one to come
either : (P : Screen → Type 0) (a : Answer) (s x : Screen) → P s → P x → P (left_by a s x)
either P (Ok u) s x h k = k
either P (Err e) s x h k = h

-- a property that every value leaves to a screen
module _ (P : Screen → Type 0) (f : (s : Screen) (b : ℕ) → P s → P (advanced s b)) where
  by_values : (s : Screen) (vs : List ℕ) → P s → P (advanced_by s vs)
  unfolding advanced_by
  by_values s [] h = h
  by_values s (b ∷ bs) h = by_values (advanced s b) bs (f s b h)

  step_leaves : (s : Screen) (b : ℕ) → P s → P (stepped s b).screen
  unfolding stepped
  step_leaves s b h = either P (answered s (b ∷ [])) s (advanced s b) h (f s b h)

  run_leaves : (s : Screen) (vs : List ℕ) → P s → P (ran s vs).screen
  unfolding ran
  run_leaves s vs h = either P (answered s vs) s (advanced_by s vs) h (by_values s vs h)

-- ---- inverse in G1

abbrev AllUpright : Screen → Type 0
AllUpright s = Uprights s.pen

value_leaves : (s : Screen) (b : ℕ) → AllUpright s → AllUpright (advanced s b)
value_leaves s b h = subst⁻¹ Uprights (step_pen s b) (value_upright s.pen b h)

pub step_upright : (s : Screen) (b : ℕ) → AllUpright s → AllUpright (stepped s b).screen
step_upright s b h = step_leaves AllUpright value_leaves s b h

pub run_upright : (s : Screen) (vs : List ℕ) → AllUpright s → AllUpright (ran s vs).screen
run_upright s vs h = run_leaves AllUpright value_leaves s vs h

-- ---- no last character

-- there is a last character
abbrev Written : Screen → Type 0
Written s = s.pen.last ≡ None → ⊥

value_written : (s : Screen) (b : ℕ) → Written s → Written (advanced s b)
value_written s b f e = f (value_never s.pen b (sym (ap (λ (p : Pen). p.last) (step_pen s b)) ∙ e))

pub step_written : (s : Screen) (b : ℕ) → Written s → Written (stepped s b).screen
step_written s b f = step_leaves Written value_written s b f

pub run_written : (s : Screen) (vs : List ℕ) → Written s → Written (ran s vs).screen
run_written s vs f = run_leaves Written value_written s vs f
