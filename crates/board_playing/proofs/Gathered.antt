-- Values gathered for the screen: what is shown of them already, and what is left to show. Assumes nothing.
use mathlib.Core.Path.{◌≡◌, refl, sym, ap, ◌∙◌, subst}
use mathlib.Core.Bool.{Bool, true, false}
use mathlib.Core.List.{List, [], ◌∷◌, ◌++◌, append_assoc, append-nil}
use Prim.Native.Nat.{ℕ, zero, suc, ◌+◌, ◌≤◌, zero-le}
use native.Mathlib.Nat.{not-suc-le-zero, le_of_suc-le-suc, zero-lt-suc}
use native.Mathlib.Omega.{arith}
use lib.ListN.{length, take}
use Rattle.lent.specs.Memory.{written, behind}
use Rattle.lent.proofs.Behind.{length_written, behind_all, up_to}
use Rattle.values.specs.Large.{Values}
use Rattle.values.proofs.Found.{values_tail}
use Rattle.screen_page.specs.declared.Screen.{Screen as Page}
use Rattle.screen_page.specs.Ranges.{broken}
use Rattle.screen_page.proofs.Stays.{true_screen, whole as unbroken-whole}
use Rattle.screen.specs.declared.Ran.{Ran}
use Rattle.screen.specs.Calls.{ran}
use Rattle.screen.proofs.Given.{ran_none, run_broken, run_parts}

-- of all that the screen is sent, t has been shown a beginning, and g has the rest: its first n
pub record Shown (s : Page) (all : List ℕ) (t : Page) (g : List ℕ) (n : ℕ) : Type 0 where
  pub shown : List ℕ
  pub screen : t ≡ (ran s shown).screen
  pub rest : all ≡ shown ++ take n g
  pub long : length g ≡ 4096
  pub room : n ≤ 4096

pub begun : (s : Page) (g : List ℕ) → length g ≡ 4096 → Shown s [] s g 0
begun s g l = record { shown = []; screen = sym (ran_none s); rest = refl; long = l; room = zero-le }

values_left : (us vs : List ℕ) → Values (us ++ vs) → Values us
values_left [] vs h i l = absurd (not-suc-le-zero l)
values_left (u ∷ us) vs h zero l = h 0 (zero-lt-suc (length (us ++ vs)))
values_left (u ∷ us) vs h (suc i) l = values_left us vs (values_tail u (us ++ vs) h) i (le_of_suc-le-suc l)

values_right : (us vs : List ℕ) → Values (us ++ vs) → Values vs
values_right [] vs h = h
values_right (u ∷ us) vs h = values_right us vs (values_tail u (us ++ vs) h)

-- shown in two parts, values come to what they come to in one; a broken screen stays as it is
in_parts : (s : Page) → length s.cells ≡ 1000 → (us ws : List ℕ) → Values (us ++ ws)
    → (ran (ran s us).screen ws).screen ≡ (ran s (us ++ ws)).screen
in_parts s cells us ws v = go (broken s) refl
  where
    stays : broken s ≡ true → (vs : List ℕ) → (ran s vs).screen ≡ s
    stays e vs = ap (λ (r : Ran). r.screen) (run_broken s vs e)

    go : (t : Bool) → broken s ≡ t → (ran (ran s us).screen ws).screen ≡ (ran s (us ++ ws)).screen
    go true e = ap (λ (x : Page). (ran x ws).screen) (stays e us) ∙ stays e ws ∙ sym (stays e (us ++ ws))
    go false e =
        ap (λ (r : Ran). r.screen)
        (sym (run_parts s us ws (true_screen s cells (unbroken-whole s e)) (values_left us ws v)
        (values_right us ws v)))

module _ {s : Page} {all : List ℕ} {t : Page} {g : List ℕ} {n : ℕ} (now : Shown s all t g n) where
  -- the rest shown too
  pub whole : length s.cells ≡ 1000 → Values all → (ran t (take n g)).screen ≡ (ran s all).screen
  whole cells v =
      ap (λ (x : Page). (ran x (take n g)).screen) now.screen
      ∙ in_parts s cells now.shown (take n g) (subst Values now.rest v)
      ∙ ap (λ (vs : List ℕ). (ran s vs).screen) (sym now.rest)

  pub flushed : length s.cells ≡ 1000 → Values all → (u : Page) → u ≡ (ran t (take n g)).screen → Shown s all u g 0
  flushed cells v u e =
      record {
        shown = all;
        screen = e ∙ whole cells v;
        rest = sym (append-nil all);
        long = now.long;
        room = zero-le;
      }

  -- more gathered behind it
  pub added : (ws : List ℕ) → n + length ws ≤ 4096 → {d more : List ℕ} {k : ℕ} → d ≡ written g n ws → k ≡ behind g n ws
      → more ≡ all ++ ws → Shown s more t d k
  added ws l {d} {more} {k} e b a =
      let us = now.shown in
      let fits : n + length ws ≤ length g = omega (arith, now.long, l) in
      let place : k ≡ n + length ws = b ∙ behind_all g n ws fits in
      let p : take k d ≡ take n g ++ ws =
      ap (λ (j : ℕ). take j d) place ∙ ap (take (n + length ws)) e ∙ up_to g n ws fits in
      record {
        shown = us;
        screen = now.screen;
        rest =
            a ∙ ap (λ (vs : List ℕ). vs ++ ws) now.rest ∙ append_assoc us (take n g) ws
            ∙ ap (λ (vs : List ℕ). us ++ vs) (sym p);
        long = ap length e ∙ length_written g n ws ∙ now.long;
        room = omega (arith, place, l);
      }
