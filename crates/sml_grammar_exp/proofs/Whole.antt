-- Expressions and declarations of all heights are read exactly.
use Rattle.std.proofs.Common.{◌≡◌, ℕ, Bool, true, false, ◌||◌, List, [], ◌∷◌, Option, nat_eq, refl, sym, ap, subst, ◌∙◌, inl, inr}
use Rattle.std.specs.Prelude.{is_some}
use Rattle.std.specs.Cmp.Lexicographic.{pointwise}
use Rattle.std.proofs.lemmas.Slice.Eq.{slice_eq-Decides}
use Rattle.std.proofs.lemmas.Bool.Decides.{Decides-eqb}
use Rattle.readers.proofs.Bundle.{Known, Phrase}
use Rattle.readers.proofs.Choose.{some_of}
use Rattle.sml_lex.specs.declared.token.Kind.TheVariants as kind
use Rattle.sml_fix.specs.Fixities.{Settings, none, assigned}
use Rattle.sml_grammar.proofs.Shapes.{some_token, stops}
use Rattle.sml_grammar_exp.specs.Clauses.{HeadR, head_height}
use Rattle.sml_grammar_exp.specs.ReadClauses.{begins_head, head_goes, head_read}
use Rattle.sml_grammar_exp.specs.Decs.{Changes, changed, fixed}
use Rattle.sml_grammar_exp.specs.ReadLevels.{some_listed, some_operator}
use Rattle.sml_grammar_exp.proofs.Short.{operator_token, operator_is}
use Rattle.sml_grammar_exp.proofs.Heads.{some_heads, no_heads}
use Rattle.sml_grammar_exp.proofs.Knot.{HeadP, ExpP, DecP, All, all_exact}

-- ---- whether some identifier is an operator

same_bytes : (xs ys : List ℕ) → pointwise nat_eq xs ys ≡ true → xs ≡ ys
same_bytes xs ys e = (slice_eq-Decides Decides-eqb xs ys (pointwise nat_eq xs ys) refl).0 e

found : (fix : Settings) (cs : Changes) → some_listed fix cs ≡ true → (v : List ℕ) × (is_some (fix v) ≡ true)
found fix [] e = absurd cc
found fix (c ∷ cs) e = elim (some_of (is_some (fix c.0)) (some_listed fix cs) e) [ inl a ↦ (c.0, a) | inr b ↦ found fix cs b ]

abbrev any_same : Changes → List ℕ → Bool
any_same [] v = false
any_same (c ∷ cs) v = pointwise nat_eq c.0 v || any_same cs v

either_no : (x y : Bool) → (x || y) ≡ false → (x ≡ false) × (y ≡ false)
either_no true y e = absurd cc
either_no false y e = (refl, e)

-- an identifier that no directive speaks of is as before
unspoken : (fix : Settings) (cs : Changes) (v : List ℕ) → any_same cs v ≡ false → changed fix cs v ≡ fix v
unspoken fix [] v e = refl
unspoken fix (c ∷ cs) v e =
    let two = either_no (pointwise nat_eq c.0 v) (any_same cs v) e in
    let first : assigned fix c.0 c.1 v ≡ fix v = let a = two.0 in rw a refl in
    unspoken (assigned fix c.0 c.1) cs v two.1 ∙ first

spoken : (fix : Settings) (cs : Changes) (v : List ℕ) → any_same cs v ≡ true → is_some (fix v) ≡ true → some_listed fix cs ≡ true
spoken fix [] v e i = absurd cc
spoken fix (c ∷ cs) v e i = elim (some_of (pointwise nat_eq c.0 v) (any_same cs v) e) [
  | inl a ↦ let here : is_some (fix c.0) ≡ true = ap (λ (w : List ℕ). is_some (fix w)) (same_bytes c.0 v a) ∙ i in rw here refl
  | inr b ↦ or_right (is_some (fix c.0)) (some_listed fix cs) (spoken fix cs v b i)
]
  where
    or_right : (x y : Bool) → y ≡ true → (x || y) ≡ true
    or_right true y e = refl
    or_right false y e = e

no_operator : (cs : Changes) → some_operator cs ≡ false → (v : List ℕ) → is_some (fixed cs v) ≡ true → ⊥
no_operator cs e v i = go (any_same cs v) refl
  where
    go : (b : Bool) → any_same cs v ≡ b → ⊥
    go true o = let n : true ≡ false = sym (spoken (fixed cs) cs v o i) ∙ e in absurd cc
    go false o = let n : true ≡ false = sym i ∙ ap (λ (s : Option _). is_some s) (unspoken none cs v o) in absurd cc

-- ---- the fronts of clauses

head_exact : (cs : Changes) (s : Known) (n : ℕ) → HeadP cs s n
head_exact cs s n = go (some_operator cs) refl
  where
    go : (b : Bool) → some_operator cs ≡ b → HeadP cs s n
    go true e =
        let v = found (fixed cs) cs e in
        subst (λ (b : Bool). Phrase s n 0 (HeadR (fixed cs)) (λ k. head_read b k.height k.clashes (fixed cs)) (λ t. stops head_goes) head_height 1 0 (begins_head b (fixed cs)) 1) (sym e)
        (some_heads (fixed cs) (some_token (kind.Id (v.0 ∷ []))) (operator_token (fixed cs) true v.0 v.1) s n)
    go false e =
        subst (λ (b : Bool). Phrase s n 0 (HeadR (fixed cs)) (λ k. head_read b k.height k.clashes (fixed cs)) (λ t. stops head_goes) head_height 1 0 (begins_head b (fixed cs)) 1) (sym e)
        (no_heads (fixed cs) s n (λ c i. let v = operator_is (fixed cs) c.decimal c.kind i in no_operator cs e v.0 v.1))

-- ---- expressions and declarations

pub every : (s : Known) (n : ℕ) → All s n
every = all_exact head_exact

pub exp_exact : (cs : Changes) (s : Known) (n : ℕ) → ExpP cs s n
exp_exact cs s n = let a = every s n in a.exp cs

pub dec_exact : (cs : Changes) (s : Known) (n : ℕ) → DecP cs s n
dec_exact cs s n = let a = every s n in a.dec cs
