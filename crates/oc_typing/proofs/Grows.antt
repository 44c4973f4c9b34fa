-- Rows of items one after another: the environment only grows.
use Rattle.std.proofs.Common.{◌≡◌, ℕ, ◌≤◌, ◌∷◌, Option, Some, None, Bool, true, false, if◌then◌else◌, refl, sym, ap, ◌∙◌, subst, arith}
use Rattle.std.specs.Str.{bytes_eq}
use Rattle.oc_ast.specs.Plain.{Bytes, Long, PItem, Let, LetRec, Types, Exn, ExnAs, Module, Sealed, Functor, PItems, NoItems, MoreItems, PMExp, MAt, Struct, Apply, MSeal}
use Rattle.oc_typing.specs.Ty.{first_stamp}
use Rattle.oc_typing.specs.Env.{Env, Empty, AddVal, AddCon, AddType, AddMod, val_of, con_of, type_of, mod_of, in_module, at, over}
use Rattle.oc_typing.specs.OcTypes.{ItemBinds, ItemsBind, ModBinds, OnceEach}
use Rattle.oc_typing.specs.OcText.{OcText, predefined}
use Rattle.oc_typing.specs.More.{after}
use Rattle.oc_typing.proofs.Lookups.{over-empty, over-over}

equal_at_least : (a b : ℕ) → b ≡ a → a ≤ b
equal_at_least a b e = omega (arith, e)

two_steps : (a b c : ℕ) → a ≤ b → b ≤ c → a ≤ c
two_steps a b c h k = omega (arith, h, k)

mutual
  pub item_counts : (c : ℕ) (g : Env) (i : PItem) (c2 : ℕ) (d : Env) → ItemBinds c g i c2 d → c ≤ c2
  item_counts c g (Let p e) c2 d r = equal_at_least c c2 r.3
  item_counts c g (LetRec rs) c2 d r = equal_at_least c c2 r.3
  item_counts c g (Types ds) c2 d r = r.2
  item_counts c g (Exn n w) c2 d r = equal_at_least c c2 r.2
  item_counts c g (ExnAs n q) c2 d r = equal_at_least c c2 r.2
  item_counts c g (Module n o) c2 d r = mod_counts c g o c2 r.0 r.1
  item_counts c g (Sealed n s o) c2 d r = absurd r
  item_counts c g (Functor f x s o) c2 d r = absurd r

  pub items_count : (c : ℕ) (g : Env) (is : PItems) (c2 : ℕ) (d : Env) → ItemsBind c g is c2 d → c ≤ c2
  items_count c g NoItems c2 d r = equal_at_least c c2 r.0
  items_count c g (MoreItems i is) c2 d r = two_steps c r.0 c2 (item_counts c g i r.0 r.1 r.3) (items_count r.0 (over r.1 g) is c2 r.2 r.4)

  pub mod_counts : (c : ℕ) (g : Env) (o : PMExp) (c2 : ℕ) (b : Env) → ModBinds c g o c2 b → c ≤ c2
  mod_counts c g (MAt q) c2 b r = equal_at_least c c2 r.0
  mod_counts c g (Struct is) c2 b r = items_count c g is c2 b r.0
  mod_counts c g (Apply f a) c2 b r = absurd r
  mod_counts c g (MSeal o s) c2 b r = absurd r

-- a row in two: the second one stands where the first one left off
pub split : (is js : PItems) (c : ℕ) (g : Env) (c2 : ℕ) (d : Env) → ItemsBind c g (after is js) c2 d → (c1 : ℕ) × (a : Env) × (b : Env) × ItemsBind c g is c1 a × ItemsBind c1 (over a g) js c2 b × (d ≡ over b a)
split NoItems js c g c2 d r = (c, Empty, d, (refl, refl), r, sym (over-empty d))
split (MoreItems i is) js c g c2 d r =
    let w = split is js r.0 (over r.1 g) c2 r.2 r.4 in (
      w.0,
      over w.1 r.1,
      w.2,
      (r.0, r.1, w.1, r.3, w.3, refl),
      subst (λ e. ItemsBind w.0 e js c2 w.2) (sym (over-over w.1 r.1 g)) w.4,
      r.5 ∙ (ap (λ e. over e r.1) w.5 ∙ over-over w.2 w.1 r.1),
    )

pub join : (is js : PItems) (c c1 : ℕ) (g : Env) (c2 : ℕ) (a b : Env) → ItemsBind c g is c1 a → ItemsBind c1 (over a g) js c2 b → ItemsBind c g (after is js) c2 (over b a)
join NoItems js c c1 g c2 a b r w =
    let h = subst (λ e. ItemsBind c1 (over e g) js c2 b) r.1 w in
    let k = subst (λ n. ItemsBind n g js c2 b) r.0 h in
    subst (λ e. ItemsBind c g js c2 (over b e)) (sym r.1) (subst (λ e. ItemsBind c g js c2 e) (sym (over-empty b)) k)
join (MoreItems i is) js c c1 g c2 a b r w =
    let h = subst (λ e. ItemsBind c1 (over e g) js c2 b) r.5 w in
    let k = subst (λ e. ItemsBind c1 e js c2 b) (over-over r.2 r.1 g) h in (
      r.0,
      r.1,
      over b r.2,
      r.3,
      join is js r.0 c1 (over r.1 g) c2 r.2 b r.4 k,
      ap (λ e. over b e) r.5 ∙ sym (over-over b r.2 r.1),
    )

-- ---- the names of a front stand once each

once_back : (d e : Env) → OnceEach (over d e) → OnceEach e
once_back Empty e o = o
once_back (AddVal x u d) e o = once_back d e o
once_back (AddCon x c d) e o = once_back d e o
once_back (AddType x t d) e o = once_back d e o.1
once_back (AddMod x b d) e o = once_back d e o.1

-- the environment of a text is a front of that of the text with more items
pub text_front : (is js : PItems) (env : Env) → OcText (after is js) env → (c : ℕ) × (c2 : ℕ) × (a : Env) × (b : Env) × ItemsBind first_stamp predefined is c a × OnceEach a × ItemsBind c (over a predefined) js c2 b × (env ≡ over b a)
text_front is js env t =
    let w = split is js first_stamp predefined t.0 env t.1 in
    (w.0, t.0, w.1, w.2, w.3, once_back w.2 w.1 (subst OnceEach w.5 t.2), w.4, w.5)

pub text_more : (is js : PItems) (a b : Env) (c c2 : ℕ) → ItemsBind first_stamp predefined is c a → ItemsBind c (over a predefined) js c2 b → OnceEach (over b a) → OcText (after is js) (over b a)
text_more is js a b c c2 h k o = (c2, join is js first_stamp c predefined c2 a b h k, o)

-- ---- what is found where an environment stands over another one

found_first : {A : Type 0} (b : Bool) (q : A) (o p : Option A) (g : Option A) → (o ≡ None → p ≡ g) → (if b then Some q else o) ≡ None → (if b then Some q else p) ≡ g
found_first true q o p g k e = absurd (cc e)
found_first false q o p g k e = k e

pub val_behind : (x : Bytes) (d g : Env) → val_of x d ≡ None → val_of x (over d g) ≡ val_of x g
val_behind x Empty g e = refl
val_behind x (AddVal y u d) g e = found_first (bytes_eq x y) u (val_of x d) (val_of x (over d g)) (val_of x g) (val_behind x d g) e
val_behind x (AddCon y c d) g e = val_behind x d g e
val_behind x (AddType y t d) g e = val_behind x d g e
val_behind x (AddMod y b d) g e = val_behind x d g e

pub con_behind : (x : Bytes) (d g : Env) → con_of x d ≡ None → con_of x (over d g) ≡ con_of x g
con_behind x Empty g e = refl
con_behind x (AddVal y u d) g e = con_behind x d g e
con_behind x (AddCon y c d) g e = found_first (bytes_eq x y) c (con_of x d) (con_of x (over d g)) (con_of x g) (con_behind x d g) e
con_behind x (AddType y t d) g e = con_behind x d g e
con_behind x (AddMod y b d) g e = con_behind x d g e

pub type_behind : (x : Bytes) (d g : Env) → type_of x d ≡ None → type_of x (over d g) ≡ type_of x g
type_behind x Empty g e = refl
type_behind x (AddVal y u d) g e = type_behind x d g e
type_behind x (AddCon y c d) g e = type_behind x d g e
type_behind x (AddType y t d) g e = found_first (bytes_eq x y) t (type_of x d) (type_of x (over d g)) (type_of x g) (type_behind x d g) e
type_behind x (AddMod y b d) g e = type_behind x d g e

pub mod_behind : (x : Bytes) (d g : Env) → mod_of x d ≡ None → mod_of x (over d g) ≡ mod_of x g
mod_behind x Empty g e = refl
mod_behind x (AddVal y u d) g e = mod_behind x d g e
mod_behind x (AddCon y c d) g e = mod_behind x d g e
mod_behind x (AddType y t d) g e = mod_behind x d g e
mod_behind x (AddMod y b d) g e = found_first (bytes_eq x y) b (mod_of x d) (mod_of x (over d g)) (mod_of x g) (mod_behind x d g) e

-- a path through a module that is not bound again leads where it led
pub path_behind : {A : Type 0} (look : Bytes → Env → Option A) (m x : Bytes) (q : Long) (d g : Env) → mod_of m d ≡ None → at look (m ∷ x ∷ q) (over d g) ≡ at look (m ∷ x ∷ q) g
path_behind look m x q d g e = ap (λ o. in_module (λ b. at look (x ∷ q) b) o) (mod_behind m d g e)
