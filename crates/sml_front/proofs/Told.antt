-- A directive for each identifier that was ever set, with what it is, leaves the fixities as they are.
use Rattle.std.proofs.Common.{◌≡◌, ℕ, Bool, true, false, List, [], ◌∷◌, Option, Some, None, nat_eq, cond, refl, sym, ap, map, ◌∙◌}
use Rattle.std.proofs.Math.Path.{fun_ext}
use Rattle.std.specs.Cmp.Lexicographic.{pointwise, same_text}
use Rattle.std.specs.Map.{lookup}
use Rattle.sml_fix.specs.declared.fixities.Side.{Side}
use Rattle.sml_fix.specs.declared.fixities.Fixities.{Fixities}
use Rattle.sml_fix.specs.Fixities.{Settings, assigned, entries, none, settings, status_in}
use Rattle.sml_grammar_exp.specs.Decs.{Changes, changed, fixed}
use Rattle.sml_parse_mod.specs.Promise.{told}

same_from : (q k : List ℕ) → pointwise nat_eq q k ≡ true → pointwise nat_eq k q ≡ true
same_from q k e =
    let same : q ≡ k = same_text q k (sym e) in
    ap (λ z. pointwise nat_eq z q) (sym same) ∙ (ap (λ z. pointwise nat_eq q z) same ∙ e)

module _ (g : Settings) where
  -- a row of directives, each with what g says of its identifier
  abbrev tellings : Changes → Changes
  tellings es = map (λ e. (e.0, g e.0)) es

  told_one : (f : Settings) (k q : List ℕ) → f q ≡ g q → assigned f k (g k) q ≡ g q
  told_one f k q i = go (pointwise nat_eq k q) refl
    where
      go : (b : Bool) → pointwise nat_eq k q ≡ b → assigned f k (g k) q ≡ g q
      go true e = let same : k ≡ q = same_text k q (sym e) in rw e (ap g same)
      go false e = rw e i

  -- what is said once stays said
  told_still : (f : Settings) (es : Changes) (q : List ℕ) → f q ≡ g q → changed f (tellings es) q ≡ g q
  told_still f [] q i = i
  told_still f (e ∷ es) q i = told_still (assigned f e.0 (g e.0)) es q (told_one f e.0 q i)

  -- an identifier that has an entry is told
  told_here : (f : Settings) (es : Changes) (q : List ℕ) (s : Option (ℕ × Side)) → lookup (pointwise nat_eq q) es ≡ Some s → changed f (tellings es) q ≡ g q
  told_here f [] q s i = absurd cc
  told_here f (e ∷ es) q s i = go (pointwise nat_eq q e.0) refl (told_here (assigned f e.0 (g e.0)) es q s)
    where
      go : (b : Bool) → pointwise nat_eq q e.0 ≡ b → (lookup (pointwise nat_eq q) es ≡ Some s → changed (assigned f e.0 (g e.0)) (tellings es) q ≡ g q) → changed (assigned f e.0 (g e.0)) (tellings es) q ≡ g q
      go true j later =
          let same : q ≡ e.0 = same_text q e.0 (sym j) in
          let now : assigned f e.0 (g e.0) q ≡ g q = rw (same_from q e.0 j) (ap g (sym same)) in
          told_still (assigned f e.0 (g e.0)) es q now
      go false j later = later (ap (λ b. cond b (Some e.1) (lookup (pointwise nat_eq q) es)) (sym j) ∙ i)

-- what is told of fixities leaves them
pub told_leaves : (f : Fixities) → fixed (told f) ≡ settings f
told_leaves f = fun_ext (λ q. go q (lookup (pointwise nat_eq q) (entries f)) refl)
  where
    go : (q : List ℕ) (o : Option (Option (ℕ × Side))) → lookup (pointwise nat_eq q) (entries f) ≡ o → fixed (told f) q ≡ settings f q
    go q None i = told_still (settings f) none (entries f) q (ap status_in (sym i))
    go q (Some s) i = told_here (settings f) none (entries f) q s i
