-- No order links a module to itself. Assumes nothing.
use mathlib.Core.Path.{◌≡◌, refl, ap, ◌∙◌}
use mathlib.Core.Bool.{Bool, true, false, cond, ◌&&◌, not}
use lib.Dec.{T}
use Rattle.laws.proofs.Computed.{and_left, and_right}
use Rattle.links_wiring.specs.declared.Module.{Module}
use Rattle.links_wiring.specs.declared.Module.TheVariants.{Screen, Keyboard, Modem, Socket}
use Rattle.links_wiring.specs.Each.{Table}
use Rattle.links_wiring.specs.Modules.{same}
use Rattle.links_wiring.specs.Tables.{reaches, NoneItself}
use Rattle.links_commands.specs.declared.Order.{Order}
use Rattle.links_commands.specs.declared.Order.TheVariants.{Nothing, Pass, Pair, Link, Ask}
use Rattle.links_changes.specs.Linking.{linked, table_after}
use Rattle.links_changes.proofs.Pairs.{linked_pairs}

-- ---- a test computed at every module

every_module : (Module → Bool) → Bool
every_module f = f Screen && (f Keyboard && (f Modem && f Socket))

each : (f : Module → Bool) → T (every_module f) → (m : Module) → T (f m)
unfolding every_module
each f t Screen = and_left (f Screen) _ t
each f t Keyboard = and_left (f Keyboard) _ (and_right (f Screen) _ t)
each f t Modem = and_left (f Modem) _ (and_right (f Keyboard) _ (and_right (f Screen) _ t))
each f t Socket = and_right (f Modem) _ (and_right (f Keyboard) _ (and_right (f Screen) _ t))

-- of a module's pair with itself it is never so that two modules are named and it is the pair
another : Module → Module → Module → Bool
another r s m = not (not (same r s) && (same m s && same m r))

never : (r s m : Module) → (not (same r s) && (same m s && same m r)) ≡ false
unfolding every_module another
never r s m =
    was (not (same r s) && (same m s && same m r))
    (each (another r s)
    (each (λ t. every_module (another r t)) (each (λ q. every_module (λ t. every_module (another q t))) tt r) s) m)
  where
    was : (t : Bool) → T (not t) → t ≡ false
    was true e = absurd e
    was false e = refl

self_kept : (t : Table) (r s m : Module) (on : Bool) → reaches (linked t r s on) m m ≡ reaches t m m
self_kept t r s m on =
    linked_pairs t r s m m on ∙ ap (λ (b : Bool). cond b on (reaches t m m)) (never r s m)

pub none_itself_after : (t : Table) (o : Order) → NoneItself t → NoneItself (table_after t o)
none_itself_after t Nothing n = n
none_itself_after t (Pass v) n = n
none_itself_after t (Pair v) n = n
none_itself_after t (Link receiver sender on) n = λ m. self_kept t receiver sender m on ∙ n m
none_itself_after t (Ask receiver) n = n
