-- What a code gives, by what is unfinished. Assumes nothing.
use mathlib.Core.Path.{◌≡◌, refl, ap, ◌∙◌}
use mathlib.Core.Bool.{Bool, true, false, cond}
use Prim.Native.Nat.{ℕ, ◌-◌, ◌/◌, ◌≤◌, ◌<◌}
use native.Mathlib.Omega.{arith}
use lib.Dec.{ltb}
use borrow.Author.Tests.{lt-ltb, le-ltb, eq-eqb, ne_eqb}
use Rattle.laws.proofs.Computed.{holds, chosen}
use Rattle.screen_sequences.specs.declared.Sequence.{Sequence}
use Rattle.screen_sequences.specs.declared.Sequence.TheVariants.{Free, Escape, Long, Control, Separator, Repeat}
use Rattle.screen_sequences.specs.declared.Sequence.TheVariants.{Single, Address, Row}
use Rattle.screen_sequences.specs.declared.Order.TheVariants.{Skip, Write, Second, Again}
use Rattle.screen_sequences.specs.declared.Heard.{Heard}
use Rattle.screen_sequences.specs.Sequences.{is_free, is_separator, does, control, followed, heard}

pub free : (q : Sequence) → is_free q ≡ true → q ≡ Free
free Free e = refl
free Escape e = absurd (holds e)
free Long e = absurd (holds e)
free Control e = absurd (holds e)
free Separator e = absurd (holds e)
free Repeat e = absurd (holds e)
free Single e = absurd (holds e)
free Address e = absurd (holds e)
free (Row r) e = absurd (holds e)

-- a code from 2/0 goes on with the sequence, whatever it is
pub heard_code : (q : Sequence) (b : ℕ) → 31 < b → heard q b ≡ followed q b
heard_code q b h = simp (ne_eqb b 0 (λ e. omega (arith, h, e)), lt-ltb 31 b h)

-- with nothing unfinished it is a character of the current set
pub heard_text : (b : ℕ) → 31 < b → heard Free b ≡ does (Write b)
heard_text b h = heard_code Free b h

-- every sequence but SEP's own
pub no_separator : (q : Sequence) → (q ≡ Separator → ⊥) → is_separator q ≡ false
no_separator Free f = refl
no_separator Escape f = refl
no_separator Long f = refl
no_separator Control f = refl
no_separator Separator f = absurd (f refl)
no_separator Repeat f = refl
no_separator Single f = refl
no_separator Address f = refl
no_separator (Row r) f = refl

-- a C0 code ends a sequence and is obeyed as with nothing unfinished, except after SEP
pub heard_control : (q : Sequence) (b : ℕ) → (q ≡ Separator → ⊥) → 1 ≤ b → b ≤ 31 → heard q b ≡ control b
heard_control q b f l h = simp (ne_eqb b 0 (λ e. omega (arith, l, e)), le-ltb 31 b h, no_separator q f)

-- after SEP one code is dropped, whatever it is
pub heard_dropped : (b : ℕ) → 1 ≤ b → heard Separator b ≡ does Skip
heard_dropped b l =
    simp (ne_eqb b 0 (λ f. omega (arith, l, f)))
    (chosen (λ (h : Heard). h ≡ does Skip) (ltb 31 b) (λ e. refl) (λ e. refl))

-- REP n from 4/0 orders the last character n minus 64 times more
pub heard_repeat : (n : ℕ) → 64 ≤ n → heard Repeat n ≡ does (Again (n - 64))
heard_repeat n h =
    heard_code Repeat n (omega (arith, h))
    ∙ ap (λ (t : Bool). cond t (does Skip) (does (Again (n - 64)))) (le-ltb n 64 h)

-- and any lower code ends it
pub heard_low : (n : ℕ) → 32 ≤ n → n < 64 → heard Repeat n ≡ does Skip
heard_low n h k =
    heard_code Repeat n h ∙ ap (λ (t : Bool). cond t (does Skip) (does (Again (n - 64)))) (lt-ltb n 64 k)

-- SS2 and a code from 2/0 order a G2 character, and one of column 4 nothing
pub heard_second : (c : ℕ) → 32 ≤ c → (c / 16 ≡ 4 → ⊥) → heard Single c ≡ does (Second c)
heard_second c h f =
    heard_code Single c h ∙ ap (λ (t : Bool). cond t (does Skip) (does (Second c))) (ne_eqb (c / 16) 4 f)

pub heard_swallowed : (c : ℕ) → 32 ≤ c → c / 16 ≡ 4 → heard Single c ≡ does Skip
heard_swallowed c h e =
    heard_code Single c h ∙ ap (λ (t : Bool). cond t (does Skip) (does (Second c))) (eq-eqb (c / 16) 4 e)
