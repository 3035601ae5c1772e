-- What stands at each module of one thing for each, also after one of them is replaced; and that modules with one place
-- are one module. Assumes nothing.
use mathlib.Core.Path.{◌≡◌, refl}
use mathlib.Core.Bool.{true, cond}
use Rattle.laws.proofs.Computed.{holds, fails}
use Rattle.links_wiring.specs.declared.Module.{Module}
use Rattle.links_wiring.specs.declared.Module.TheVariants.{Screen, Keyboard, Modem, Socket}
use Rattle.links_wiring.specs.declared.Each.{Each}
use Rattle.links_wiring.specs.Each.{all, of, with}
use Rattle.links_wiring.specs.Modules.{same}

pub all_of : {T : Type 0} (x : T) (m : Module) → of (all x) m ≡ x
all_of x Screen = refl
all_of x Keyboard = refl
all_of x Modem = refl
all_of x Socket = refl

-- the one replaced is the new one, and every other is as it was
pub of_with : {T : Type 0} (e : Each T) (m : Module) (x : T) (b : Module) → of (with e m x) b ≡ cond (same b m) x (of e b)
of_with e Screen x Screen = refl
of_with e Screen x Keyboard = refl
of_with e Screen x Modem = refl
of_with e Screen x Socket = refl
of_with e Keyboard x Screen = refl
of_with e Keyboard x Keyboard = refl
of_with e Keyboard x Modem = refl
of_with e Keyboard x Socket = refl
of_with e Modem x Screen = refl
of_with e Modem x Keyboard = refl
of_with e Modem x Modem = refl
of_with e Modem x Socket = refl
of_with e Socket x Screen = refl
of_with e Socket x Keyboard = refl
of_with e Socket x Modem = refl
of_with e Socket x Socket = refl

pub same_true : (a b : Module) → same a b ≡ true → a ≡ b
same_true Screen Screen e = refl
same_true Screen Keyboard e = absurd (fails refl (holds e))
same_true Screen Modem e = absurd (fails refl (holds e))
same_true Screen Socket e = absurd (fails refl (holds e))
same_true Keyboard Screen e = absurd (fails refl (holds e))
same_true Keyboard Keyboard e = refl
same_true Keyboard Modem e = absurd (fails refl (holds e))
same_true Keyboard Socket e = absurd (fails refl (holds e))
same_true Modem Screen e = absurd (fails refl (holds e))
same_true Modem Keyboard e = absurd (fails refl (holds e))
same_true Modem Modem e = refl
same_true Modem Socket e = absurd (fails refl (holds e))
same_true Socket Screen e = absurd (fails refl (holds e))
same_true Socket Keyboard e = absurd (fails refl (holds e))
same_true Socket Modem e = absurd (fails refl (holds e))
same_true Socket Socket e = refl
