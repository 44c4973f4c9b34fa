-- A table that is copied entry by entry says the same.
use Rattle.std.proofs.Common.{◌≡◌, ℕ, Bool, true, false, List, [], ◌∷◌, Option, Some, None, cond, nat_eq, refl, sym, ap, ◌∙◌}
use Rattle.std.specs.Cmp.Lexicographic.{pointwise, same_text}
use Rattle.std.specs.List.{IsDistinct, AllByRecursion}
use Rattle.std.specs.Map.{keys_of, lookup}
use Rattle.sml_fix.specs.declared.fixities.Side.{Side}
use Rattle.sml_fix.specs.Fixities.{Settings, none, assigned, status_in}

abbrev pub Entries : Type 0
Entries = List (List ℕ × Option (ℕ × Side))

-- one setting after another
abbrev pub settled : Settings → Entries → Settings
settled f [] = f
settled f (e ∷ es) = settled (assigned f e.0 e.1) es

-- what an entry says, or else what was said before
abbrev merged : Option (Option (ℕ × Side)) → Option (ℕ × Side) → Option (ℕ × Side)
merged None s = s
merged (Some s) t = s

absent : (k : List ℕ) (es : Entries) → AllByRecursion (λ y. pointwise nat_eq k y ≡ false) (keys_of es) → lookup (pointwise nat_eq k) es ≡ None
absent k [] a = refl
absent k (e ∷ es) a = rw a.0 (absent k es a.1)

other_way : (q k : List ℕ) (b : Bool) → pointwise nat_eq q k ≡ b → pointwise nat_eq k q ≡ b
other_way q k true e = let same : q ≡ k = same_text q k (sym e) in rw (sym same) (rw same (let again : pointwise nat_eq k k ≡ true = ap (λ z. pointwise nat_eq z k) (sym same) ∙ e in again))
other_way q k false e = go (pointwise nat_eq k q) refl
  where
    go : (b : Bool) → pointwise nat_eq k q ≡ b → b ≡ false
    go false i = refl
    go true i = let same : k ≡ q = same_text k q (sym i) in let all : pointwise nat_eq q k ≡ true = ap (λ z. pointwise nat_eq z k) (sym same) ∙ (ap (λ z. pointwise nat_eq k z) same ∙ i) in absurd cc

pub settled_says : (f : Settings) (es : Entries) → IsDistinct (pointwise nat_eq) (keys_of es) → (q : List ℕ) → settled f es q ≡ merged (lookup (pointwise nat_eq q) es) (f q)
unfolding IsDistinct
settled_says f [] d q = refl
settled_says f (e ∷ es) d q = settled_says (assigned f e.0 e.1) es d.1 q ∙ go (pointwise nat_eq q e.0) refl
  where
    go : (b : Bool) → pointwise nat_eq q e.0 ≡ b → merged (lookup (pointwise nat_eq q) es) (assigned f e.0 e.1 q) ≡ merged (cond b (Some e.1) (lookup (pointwise nat_eq q) es)) (f q)
    go true i =
        let same : q ≡ e.0 = same_text q e.0 (sym i) in
        let gone : lookup (pointwise nat_eq q) es ≡ None = ap (λ z. lookup (pointwise nat_eq z) es) same ∙ absent e.0 es d.0 in
        rw gone (rw (other_way q e.0 true i) refl)
    go false i = rw (other_way q e.0 false i) refl

pub copied : (es : Entries) → IsDistinct (pointwise nat_eq) (keys_of es) → (q : List ℕ) → settled none es q ≡ status_in (lookup (pointwise nat_eq q) es)
copied es d q = settled_says none es d q ∙ go (lookup (pointwise nat_eq q) es)
  where
    go : (o : Option (Option (ℕ × Side))) → merged o None ≡ status_in o
    go None = refl
    go (Some s) = refl
