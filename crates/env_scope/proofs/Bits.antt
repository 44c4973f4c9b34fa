-- Bits of numbers, and trees that fork by them.
use Rattle.std.proofs.Common.{◌≡◌, ℕ, ◌+◌, ◌*◌, ◌/◌, ◌%◌, ◌^◌, ◌==◌, Bool, true, false, cond, List, Option, Some, None, refl, sym, ap, ◌∙◌, add-one, arith}
use Rattle.std.specs.Str.{bytes_eq}
use Rattle.std.proofs.lemmas.Bool.{false≢true}
use Rattle.std.proofs.lemmas.Slice.Eq.{bytes_eq-Decides}
use Rattle.std.proofs.Math.Nat.{div-div-eq-div-mul}
use Rattle.env_scope.specs.Numbers.{number_of, bits_at}

pub bits_first : (name : List ℕ) → bits_at 0 name ≡ number_of name
bits_first name = omega arith

pub bits_next : (depth : ℕ) (name : List ℕ) → bits_at depth name / 2 ≡ bits_at (depth + 1) name
bits_next depth name = div-div-eq-div-mul (number_of name) (2 ^ depth) 2 ∙ ap (λ m. number_of name / m) (rw add-one (omega arith))

-- a name that is the same has the same bit
pub same_bit : (depth : ℕ) (word name : List ℕ) (b : Bool) → (bits_at depth word % 2 == 0) ≡ b → bytes_eq word name ≡ true → (bits_at depth name % 2 == 0) ≡ b
same_bit depth word name b e same = ap (λ n. bits_at depth n % 2 == 0) (sym ((bytes_eq-Decides word name).0 same)) ∙ e

-- what is put on the side of its bit
pub put_even : {X : Type 0} (more even odd here : X) (same bit : Bool) → more ≡ cond same here even → (same ≡ true → bit ≡ true) → cond bit more odd ≡ cond same here (cond bit even odd)
put_even more even odd here same true e side = e
put_even more even odd here true false e side = absurd (false≢true (side refl))
put_even more even odd here false false e side = refl

pub put_odd : {X : Type 0} (more even odd here : X) (same bit : Bool) → more ≡ cond same here odd → (same ≡ true → bit ≡ false) → cond bit even more ≡ cond same here (cond bit even odd)
put_odd more even odd here same false e side = e
put_odd more even odd here true true e side = absurd (false≢true (sym (side refl)))
put_odd more even odd here false true e side = refl

-- one binding alone, on the side of its bit
pub alone_even : {X : Type 0} (here : X) (same bit : Bool) → (same ≡ true → bit ≡ true) → cond bit (cond same (Some here) None) None ≡ cond same (Some here) None
alone_even here same true side = refl
alone_even here true false side = absurd (false≢true (side refl))
alone_even here false false side = refl

pub alone_odd : {X : Type 0} (here : X) (same bit : Bool) → (same ≡ true → bit ≡ false) → cond bit None (cond same (Some here) None) ≡ cond same (Some here) None
alone_odd here same false side = refl
alone_odd here true true side = absurd (false≢true (sym (side refl)))
alone_odd here false true side = refl

pub twice : {X : Type 0} (same : Bool) (here old rest : X) → cond same here rest ≡ cond same here (cond same old rest)
twice true here old rest = refl
twice false here old rest = refl
