-- Constructors and heads are equal where they are alike.
use Rattle.std.proofs.Common.{◌≡◌, ◌++◌, ◌∷◌, [], List, map, Bool, true, false, ◌||◌, cond, Option, Some, refl, sym, ap, subst, ◌∙◌}
use Rattle.std.specs.List.{list_all, list_any, filter_map, cons_option, AllByRecursion}
use Rattle.std.proofs.lemmas.Bool.{and_parts}
use Rattle.std.proofs.lemmas.List.{map-append}
use Rattle.std.proofs.lemmas.Map.Steps.{list_any_congr}
use Rattle.indexmap.specs.IndexSet.{insert_key}
use Rattle.sml_static.specs.Shapes.{Pattern, is_same_key}
use Rattle.sml_static.specs.Exhaustive as static
use Rattle.sml_static.specs.Exhaustive.{Another, is_same_head, head_of, heads}
use Rattle.match_use.specs.Heads.{with_head}
use Rattle.match_use.specs.Keys.{shared_key, shared_head}
use Rattle.match_use.specs.declared.key.Key.{Key}
use Rattle.match_use.specs.declared.key.Key.TheVariants as key
use Rattle.match_use.specs.declared.head.Head.{Head}
use Rattle.match_use.specs.declared.head.Head.TheVariants as head
use Rattle.match_use.proofs.FirstColumn.{once-all, heads-own}
use Rattle.match_use.specs.contracts.key.KeyPartialEq.TheImpl as keys
use Rattle.match_use.specs.contracts.head.HeadPartialEq.TheImpl as head_eq
use Rattle.match_use.specs.contracts.head.HeadEq.TheImpl.Laws.{laws-law}

-- the equality that is derived for heads
abbrev pub equal : Head → Head → Bool
equal = head_eq.eq-value.it

-- two constructors are equal where they are alike
pub key_same : (k j : Key) → keys.eq-value.it k j ≡ is_same_key (shared_key k) (shared_key j)
key_same (key.Of d n) (key.Of e m) = refl
key_same (key.Of d n) (key.Exception q) = refl
key_same (key.Exception p) (key.Of e m) = refl
key_same (key.Exception p) (key.Exception q) = refl

-- two heads that rows have are equal where they are alike
pub eq-same : (a b : Head) → is_same_head (shared_head a) (shared_head a) ≡ true → equal a b ≡ is_same_head (shared_head a) (shared_head b)
eq-same (head.Int x) (head.Int y) e = refl
eq-same (head.Int x) (head.Word y) e = refl
eq-same (head.Int x) (head.Char y) e = refl
eq-same (head.Int x) (head.Text y) e = refl
eq-same (head.Int x) (head.Key j m) e = refl
eq-same (head.Int x) head.Another e = refl
eq-same (head.Word x) (head.Int y) e = refl
eq-same (head.Word x) (head.Word y) e = refl
eq-same (head.Word x) (head.Char y) e = refl
eq-same (head.Word x) (head.Text y) e = refl
eq-same (head.Word x) (head.Key j m) e = refl
eq-same (head.Word x) head.Another e = refl
eq-same (head.Char x) (head.Int y) e = refl
eq-same (head.Char x) (head.Word y) e = refl
eq-same (head.Char x) (head.Char y) e = refl
eq-same (head.Char x) (head.Text y) e = refl
eq-same (head.Char x) (head.Key j m) e = refl
eq-same (head.Char x) head.Another e = refl
eq-same (head.Text x) (head.Int y) e = refl
eq-same (head.Text x) (head.Word y) e = refl
eq-same (head.Text x) (head.Char y) e = refl
eq-same (head.Text x) (head.Text y) e = refl
eq-same (head.Text x) (head.Key j m) e = refl
eq-same (head.Text x) head.Another e = refl
eq-same (head.Key k n) (head.Int y) e = refl
eq-same (head.Key k n) (head.Word y) e = refl
eq-same (head.Key k n) (head.Char y) e = refl
eq-same (head.Key k n) (head.Text y) e = refl
eq-same (head.Key k n) (head.Key j m) e = key_same k j
eq-same (head.Key k n) head.Another e = refl
eq-same head.Another b e = cc

-- the same of one and some
pub any-same : (a : Head) (bs : List Head) → is_same_head (shared_head a) (shared_head a) ≡ true → list_any (equal a) bs ≡ list_any (is_same_head (shared_head a)) (map shared_head bs)
any-same a [] e = refl
any-same a (b ∷ bs) e = ap (λ t. t || list_any (equal a) bs) (eq-same a b e) ∙ ap (λ t. is_same_head (shared_head a) (shared_head b) || t) (any-same a bs e)

-- heads with one more that a row has
pub inserted : (bs : List Head) (a : Head) → is_same_head (shared_head a) (shared_head a) ≡ true → map shared_head (insert_key equal bs a) ≡ with_head (map shared_head bs) (Some (shared_head a))
inserted bs a e = by (list_any (equal a) bs) ∙ ap (λ t. cond t (map shared_head bs) (map shared_head bs ++ shared_head a ∷ [])) (any-same a bs e)
  where
    by : (b : Bool) → map shared_head (cond b bs (bs ++ a ∷ [])) ≡ cond b (map shared_head bs) (map shared_head bs ++ shared_head a ∷ [])
    by true = refl
    by false = map-append shared_head bs (a ∷ [])

-- the head of a row is alike to itself
pub own_head : (r : List Pattern) (h : static.Head) → Some h ≡ head_of r → is_same_head h h ≡ true
own_head r h e = (and_parts (is_same_head h h) true (subst (λ (o : Option static.Head). list_all (λ x. is_same_head x x) (cons_option o []) ≡ true) (sym e) (heads-own (r ∷ [])))).0

no_other : (b : Head) → is_same_head (shared_head b) (shared_head b) ≡ true → equal head.Another b ≡ false
no_other (head.Int x) e = refl
no_other (head.Word x) e = refl
no_other (head.Char x) e = refl
no_other (head.Text x) e = refl
no_other (head.Key k n) e = refl
no_other head.Another e = cc

no_others : (bs : List Head) → list_all (λ h. is_same_head h h) (map shared_head bs) ≡ true → list_any (equal head.Another) bs ≡ false
no_others [] e = refl
no_others (b ∷ bs) e =
    let a = and_parts (is_same_head (shared_head b) (shared_head b)) (list_all (λ h. is_same_head h h) (map shared_head bs)) e in
    ap (λ t. t || list_any (equal head.Another) bs) (no_other b a.0) ∙ no_others bs a.1

-- the heads of rows, with another
pub with_other : (bs : List Head) (rows : List (List Pattern)) → map shared_head bs ≡ heads rows → map shared_head (insert_key equal bs head.Another) ≡ map shared_head bs ++ Another ∷ []
with_other bs rows e =
    let owns = subst (λ (x : List static.Head). list_all (λ h. is_same_head h h) x ≡ true) (sym e) (once-all (λ h. is_same_head h h) [] (filter_map head_of rows) (heads-own rows)) in
    ap (λ t. map shared_head (cond t bs (bs ++ head.Another ∷ []))) (no_others bs owns) ∙ map-append shared_head bs (head.Another ∷ [])

-- what is equal to a head is equal to none that it is not equal to
pub none_later : (a b : Head) (bs : List Head) → equal a b ≡ true → AllByRecursion (λ c. equal b c ≡ false) bs → list_any (equal a) bs ≡ false
none_later a b bs e u = list_any_congr laws-law a b bs e ∙ none bs u
  where
    none : (cs : List Head) → AllByRecursion (λ c. equal b c ≡ false) cs → list_any (equal b) cs ≡ false
    none [] u = refl
    none (c ∷ cs) u = ap (λ t. t || list_any (equal b) cs) u.0 ∙ none cs u.1
