-- What an expression has is a type of its scope.
use Rattle.std.proofs.Common.{rules, ◌≡◌, ℕ, ◌≤◌, true, false, Bool, List, [], ◌∷◌, map, length, refl, subst, sym, ap, ◌∙◌, arith, lit≤}
use Rattle.std.specs.Prelude.{IsTrue, nat_lt, ◌&&◌}
use Rattle.std.specs.List.{list_all, slice_index_or}
use Rattle.tl_text.specs.Pairs.{map_second, seconds}
use Rattle.tl_text.specs.declared.lit.Lit.{Lit}
use Rattle.tl_text.specs.declared.lit.Lit.TheVariants as lit
use Rattle.sml_static.specs.declared.ty.Label.{Label}
use Rattle.sml_static.specs.declared.ty.Ty.{Ty}
use Rattle.sml_static.specs.declared.ty.Ty.TheVariants as ty
use Rattle.sml_static.specs.declared.ty.Ty.TheFolds
use Rattle.sml_static.specs.declared.ty.VarKind.{VarKind}
use Rattle.sml_static.specs.Labels.{is_increasing, labels}
use Rattle.sml_static.specs.WellFormed.{HasFixedNames, Numbering, is_well_formed}
use Rattle.mid_ast.specs.Tree.{Exp, Const, Local, Home, Con, Prim, Tuple, Apply, Fun, Raise, Handle, Let, Exps, NoExps, MoreExps}
use Rattle.mid_typing.specs.Types.{IsTypeAt, arrow, char, int, is_known, is_type_at, literal_type, string, word}
use Rattle.mid_typing.specs.Env.{Env}
use Rattle.mid_typing.specs.Dicts.{Setting}
use Rattle.mid_typing.specs.MidTypes.{AllHave, ExpHas}

-- ---- literals

int_type : (names : Numbering) (c n : ℕ) → names.arity 0 ≡ 0 → names.equality 0 ≡ true → nat_lt 0 c ≡ true → IsTypeAt names c n int
int_type names c n a e l = search (rules, TheFolds.the_lemmas, a, e, l)

word_type : (names : Numbering) (c n : ℕ) → names.arity 1 ≡ 0 → names.equality 1 ≡ true → nat_lt 1 c ≡ true → IsTypeAt names c n word
word_type names c n a e l = search (rules, TheFolds.the_lemmas, a, e, l)

char_type : (names : Numbering) (c n : ℕ) → names.arity 2 ≡ 0 → names.equality 2 ≡ true → nat_lt 2 c ≡ true → IsTypeAt names c n char
char_type names c n a e l = search (rules, TheFolds.the_lemmas, a, e, l)

string_type : (names : Numbering) (c n : ℕ) → names.arity 3 ≡ 0 → names.equality 3 ≡ true → nat_lt 3 c ≡ true → IsTypeAt names c n string
string_type names c n a e l = search (rules, TheFolds.the_lemmas, a, e, l)

below : (i c : ℕ) → 16 ≤ c → i ≤ 3 → nat_lt i c ≡ true
below i c h k = grind (arith, h, k)

arity_of : (names : Numbering) → HasFixedNames names → (i : ℕ) → slice_index_or (map names.arity (0 ∷ 1 ∷ 2 ∷ 3 ∷ 4 ∷ 5 ∷ 6 ∷ 7 ∷ 8 ∷ 9 ∷ [])) i 0 ≡ slice_index_or (0 ∷ 0 ∷ 0 ∷ 0 ∷ 0 ∷ 0 ∷ 1 ∷ 1 ∷ 1 ∷ 0 ∷ []) i 0
arity_of names f i = ap (λ l. slice_index_or l i 0) f.arities

equality_of : (names : Numbering) → HasFixedNames names → (i : ℕ) → slice_index_or (map names.equality (0 ∷ 1 ∷ 2 ∷ 3 ∷ 4 ∷ 5 ∷ 6 ∷ 7 ∷ 8 ∷ 9 ∷ [])) i true ≡ slice_index_or (true ∷ true ∷ true ∷ true ∷ true ∷ false ∷ true ∷ true ∷ true ∷ true ∷ []) i true
equality_of names f i = ap (λ l. slice_index_or l i true) f.equalities

literal_is_type : (names : Numbering) (c n : ℕ) → HasFixedNames names → 16 ≤ c → (l : Lit) → IsTypeAt names c n (literal_type l)
literal_is_type names c n f h (lit.Int z) = int_type names c n (arity_of names f 0) (equality_of names f 0) (below 0 c h (lit≤ tt))
literal_is_type names c n f h (lit.Word z) = word_type names c n (arity_of names f 1) (equality_of names f 1) (below 1 c h (lit≤ tt))
literal_is_type names c n f h (lit.Char z) = char_type names c n (arity_of names f 2) (equality_of names f 2) (below 2 c h (lit≤ tt))
literal_is_type names c n f h (lit.Text z) = string_type names c n (arity_of names f 3) (equality_of names f 3) (below 3 c h (lit≤ tt))

-- ---- the result of a function type

arrow_type : (names : Numbering) (c n : ℕ) (u t : Ty) → is_type_at names c n (arrow u t) ≡ ((is_well_formed names n u && is_well_formed names n t) && (is_known c u && is_known c t))
arrow_type names c n u t = search (rules, TheFolds.the_lemmas)

right_parts : (a b d e : Bool) → ((a && b) && (d && e)) ≡ true → (b && e) ≡ true
right_parts true true true e h = h
right_parts true true false e h = absurd (cc h)
right_parts true false d e h = absurd (cc h)
right_parts false b d e h = absurd (cc h)

result_is_type : (names : Numbering) (c n : ℕ) (u t : Ty) → IsTypeAt names c n (arrow u t) → IsTypeAt names c n t
result_is_type names c n u t h =
    right_parts (is_well_formed names n u) (is_well_formed names n t) (is_known c u) (is_known c t) (sym (arrow_type names c n u t) ∙ h)

-- ---- records

fields_type : (names : Numbering) (c n : ℕ) (fields : List (Label × Ty))
    → is_type_at names c n (ty.Fields fields)
    ≡ ((is_increasing (labels (map_second (is_well_formed names n) fields)) && list_all (λ f. f) (seconds (map_second (is_well_formed names n) fields))) && list_all (λ f. f) (seconds (map_second (is_known c) fields)))
fields_type names c n fields = search (rules, TheFolds.the_lemmas)

labels_same : {B : Type 0} (f : Ty → B) (fields : List (Label × Ty)) → labels (map_second f fields) ≡ labels fields
labels_same f [] = refl
labels_same f (x ∷ fields) = ap (λ l. x.0 ∷ l) (labels_same f fields)

all_three : (a b d : Bool) → a ≡ true → b ≡ true → d ≡ true → ((a && b) && d) ≡ true
all_three true true d e f g = g
all_three true false d e f g = absurd (cc f)
all_three false b d e f g = absurd (cc e)

first_of : (a b d : Bool) → ((a && b) && d) ≡ true → (a ≡ true) × (b ≡ true) × (d ≡ true)
first_of true true d h = (refl, refl, h)
first_of true false d h = absurd (cc h)
first_of false b d h = absurd (cc h)

both_true : (a b : Bool) → a ≡ true → b ≡ true → (a && b) ≡ true
both_true true b e f = f
both_true false b e f = absurd (cc e)

each_is : (names : Numbering) (c n : ℕ) (fields : List (Label × Ty)) → IsTrue (list_all (is_type_at names c n) (seconds fields))
    → (list_all (λ f. f) (seconds (map_second (is_well_formed names n) fields)) ≡ true) × (list_all (λ f. f) (seconds (map_second (is_known c) fields)) ≡ true)
each_is names c n [] h = (refl, refl)
each_is names c n (x ∷ fields) h =
    let k = first_of (is_well_formed names n x.1) (is_known c x.1) (list_all (is_type_at names c n) (seconds fields)) h in
    let r = each_is names c n fields k.2 in
    (both_true (is_well_formed names n x.1) _ k.0 r.0, both_true (is_known c x.1) _ k.1 r.1)

record_is_type : (names : Numbering) (c n : ℕ) (fields : List (Label × Ty)) → IsTrue (is_increasing (labels fields)) → IsTrue (list_all (is_type_at names c n) (seconds fields)) → IsTypeAt names c n (ty.Fields fields)
record_is_type names c n fields i h =
    let k = each_is names c n fields h in
    fields_type names c n fields ∙ all_three _ _ _ (ap is_increasing (labels_same (is_well_formed names n) fields) ∙ i) k.0 k.1

-- ---- expressions

abbrev TypeAt : Setting → ℕ → List VarKind → Ty → Type 0
TypeAt s c ks t = IsTypeAt s.names c (length ks) t

written : (s : Setting) (c : ℕ) (ks : List VarKind) (t w : Ty) → t ≡ w → TypeAt s c ks w → TypeAt s c ks t
written s c ks t w e h = subst (λ u. TypeAt s c ks u) (sym e) h

mutual
  pub exp_is_type : (s : Setting) → HasFixedNames s.names → (c : ℕ) → 16 ≤ c → (g : Env) (ks : List VarKind) (e : Exp) (t : Ty) → ExpHas s c g ks e t → TypeAt s c ks t
  exp_is_type s f c h g ks (Const l) t r = written s c ks t (literal_type l) r (literal_is_type s.names c (length ks) f h l)
  exp_is_type s f c h g ks (Local x w ds) t r = written s c ks t w r.0 r.1
  exp_is_type s f c h g ks (Home q w ds) t r = written s c ks t w r.0 r.1
  exp_is_type s f c h g ks (Con q w) t r = written s c ks t w r.1 r.2
  exp_is_type s f c h g ks (Prim n w ds) t r = written s c ks t w r.0 r.1
  exp_is_type s f c h g ks (Tuple es) t r = written s c ks t (ty.Fields r.0) r.1 (record_is_type s.names c (length ks) r.0 r.2 (all_are_types s f c h g ks es (seconds r.0) r.3))
  exp_is_type s f c h g ks (Apply a b) t r = result_is_type s.names c (length ks) r.0 t (exp_is_type s f c h g ks a (arrow r.0 t) r.1)
  exp_is_type s f c h g ks (Fun rs a b) t r = r.1
  exp_is_type s f c h g ks (Raise a w) t r = written s c ks t w r.0 r.1
  exp_is_type s f c h g ks (Handle a rs) t r = exp_is_type s f c h g ks a t r.0
  exp_is_type s f c h g ks (Let ds a) t r = r.4

  pub all_are_types : (s : Setting) → HasFixedNames s.names → (c : ℕ) → 16 ≤ c → (g : Env) (ks : List VarKind) (es : Exps) (ts : List Ty) → AllHave s c g ks es ts → IsTrue (list_all (is_type_at s.names c (length ks)) ts)
  all_are_types s f c h g ks NoExps [] r = refl
  all_are_types s f c h g ks NoExps (t ∷ ts) r = absurd r
  all_are_types s f c h g ks (MoreExps e es) [] r = absurd r
  all_are_types s f c h g ks (MoreExps e es) (t ∷ ts) r =
      both_true (is_type_at s.names c (length ks) t) (list_all (is_type_at s.names c (length ks)) ts) (exp_is_type s f c h g ks e t r.0) (all_are_types s f c h g ks es ts r.1)
