-- What setting or clearing a link does to each pair. Assumes nothing.
use mathlib.Core.Path.{◌≡◌, refl, sym, ap, ◌∙◌}
use mathlib.Core.Bool.{Bool, true, false, cond, ◌&&◌, not}
use Rattle.links_wiring.specs.declared.Module.{Module}
use Rattle.links_wiring.specs.Each.{Row, Table, of, with}
use Rattle.links_wiring.specs.Modules.{same}
use Rattle.links_wiring.specs.Tables.{row_of, reaches}
use Rattle.links_wiring.proofs.Parts.{of_with, same_true}
use Rattle.links_changes.specs.Linking.{relinked, linked}

-- of the pairs, the one that is set or cleared
relinked_pairs : (t : Table) (r s a b : Module) (on : Bool)
    → reaches (relinked t r s on) a b ≡ cond (same a s && same b r) on (reaches t a b)
relinked_pairs t r s a b on =
    ap (λ (w : Row). of w b) (of_with t s (with (row_of t s) r on) a) ∙ go (same a s) (same_true a s)
  where
    go : (here : Bool) → (here ≡ true → a ≡ s) → of (cond here (with (row_of t s) r on) (of t a)) b
        ≡ cond (here && same b r) on (of (of t a) b)
    go true f =
        of_with (row_of t s) r on b ∙ ap (λ (m : Module). cond (same b r) on (of (of t m) b)) (sym (f refl))
    go false f = refl

-- the pair named is set or cleared, where two modules are named, and every other is as it was
pub linked_pairs : (t : Table) (r s a b : Module) (on : Bool)
    → reaches (linked t r s on) a b ≡ cond (not (same r s) && (same a s && same b r)) on (reaches t a b)
unfolding linked
linked_pairs t r s a b on = go (same r s)
  where
    go : (itself : Bool) → reaches (cond itself t (relinked t r s on)) a b
        ≡ cond (not itself && (same a s && same b r)) on (reaches t a b)
    go true = refl
    go false = relinked_pairs t r s a b on
