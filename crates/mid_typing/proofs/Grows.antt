-- Rows of items and of units one after another: type names and scopes only grow.
use Rattle.std.proofs.Common.{◌≡◌, ◌++◌, ℕ, ◌≤◌, List, [], ◌∷◌, Option, Some, None, Bool, true, false, if◌then◌else◌, refl, sym, ap, ◌∙◌, subst, arith}
use Rattle.sml_static.specs.declared.ty.VarKind.{VarKind}
use Rattle.mid_ast.specs.Tree.{Part, Dec, Vals, Funs, Datas, Alias, NewExn, SameExn, Decs, NoDecs, MoreDecs, Item, Core, Module, NoItem, Items, NoItems, MoreItems, Mod, Body, AtPath, NoMod}
use Rattle.mid_typing.specs.Env.{Env, Empty, AddLocal, AddVid, AddType, AddMod, is_same, local_at, mod_at, over, type_at, vid_at}
use Rattle.mid_typing.specs.Dicts.{Setting}
use Rattle.mid_typing.specs.MidTypes.{DecBinds, DecsBind, ItemBinds, ItemsBind, ModBinds}
use Rattle.mid_typing.specs.Units.{UnitsBind, added}
use Rattle.mid_typing.specs.More.{after}
use Rattle.mid_typing.proofs.Lookups.{over-empty, over-over}

-- ---- type names

equal_at_least : (a b : ℕ) → b ≡ a → a ≤ b
equal_at_least a b e = omega (arith, e)

two_steps : (a b c : ℕ) → a ≤ b → b ≤ c → a ≤ c
two_steps a b c h k = omega (arith, h, k)

pub dec_rises : (s : Setting) (c : ℕ) (g : Env) (ks : List VarKind) (d : Dec) (c2 : ℕ) (e : Env) → DecBinds s c g ks d c2 e → c ≤ c2
dec_rises s c g ks (Vals bs) c2 e r = equal_at_least c c2 r.2
dec_rises s c g ks (Funs bs) c2 e r = equal_at_least c c2 r.5
dec_rises s c g ks (Datas ds) c2 e r = r.4
dec_rises s c g ks (Alias q f) c2 e r = equal_at_least c c2 r.2
dec_rises s c g ks (NewExn q a) c2 e r = equal_at_least c c2 r.2
dec_rises s c g ks (SameExn q p) c2 e r = equal_at_least c c2 r.3

pub decs_rise : (s : Setting) (c : ℕ) (g : Env) (ks : List VarKind) (ds : Decs) (c2 : ℕ) (e : Env) → DecsBind s c g ks ds c2 e → c ≤ c2
decs_rise s c g ks NoDecs c2 e r = equal_at_least c c2 r.0
decs_rise s c g ks (MoreDecs d ds) c2 e r =
    two_steps c r.0 c2 (dec_rises s c g ks d r.0 r.1 r.3) (decs_rise s r.0 (over r.1 g) ks ds c2 r.2 r.4)

mutual
  pub item_rises : (s : Setting) (c : ℕ) (g : Env) (i : Item) (c2 : ℕ) (e : Env) → ItemBinds s c g i c2 e → c ≤ c2
  item_rises s c g (Core d) c2 e r = dec_rises s c g [] d c2 r.0 r.1
  item_rises s c g (Module x o) c2 e r = mod_rises s c g o c2 r.0 r.1
  item_rises s c g NoItem c2 e r = absurd r

  pub items_rise : (s : Setting) (c : ℕ) (g : Env) (is : Items) (c2 : ℕ) (e : Env) → ItemsBind s c g is c2 e → c ≤ c2
  items_rise s c g NoItems c2 e r = equal_at_least c c2 r.0
  items_rise s c g (MoreItems i is) c2 e r =
      two_steps c r.0 c2 (item_rises s c g i r.0 r.1 r.3) (items_rise s r.0 (over r.1 g) is c2 r.2 r.4)

  pub mod_rises : (s : Setting) (c : ℕ) (g : Env) (o : Mod) (c2 : ℕ) (b : Env) → ModBinds s c g o c2 b → c ≤ c2
  mod_rises s c g (Body is) c2 b r = items_rise s c g is c2 b r
  mod_rises s c g (AtPath q) c2 b r = equal_at_least c c2 r.0
  mod_rises s c g NoMod c2 b r = absurd r

pub units_rise : (s : Setting) (c : ℕ) (g : Env) (us : List (Part × Items)) (c2 : ℕ) (e : Env) → UnitsBind s c g us c2 e → c ≤ c2
units_rise s c g [] c2 e r = equal_at_least c c2 r.0
units_rise s c g (u ∷ us) c2 e r =
    two_steps c r.0 c2 (items_rise s c g u.1 r.0 r.1 r.3) (units_rise s r.0 (over (added s.stage u.0 r.1) g) us c2 r.2 r.4)

-- ---- one row after another

pub items_split : (s : Setting) (is js : Items) (c : ℕ) (g : Env) (c2 : ℕ) (e : Env) → ItemsBind s c g (after is js) c2 e → (c1 : ℕ) × (a : Env) × (b : Env) × ItemsBind s c g is c1 a × ItemsBind s c1 (over a g) js c2 b × (e ≡ over b a)
items_split s NoItems js c g c2 e r = (c, Empty, e, (refl, refl), r, sym (over-empty e))
items_split s (MoreItems i is) js c g c2 e r =
    let w = items_split s is js r.0 (over r.1 g) c2 r.2 r.4 in (
      w.0,
      over w.1 r.1,
      w.2,
      (r.0, r.1, w.1, r.3, w.3, refl),
      subst (λ d. ItemsBind s w.0 d js c2 w.2) (sym (over-over w.1 r.1 g)) w.4,
      r.5 ∙ (ap (λ d. over d r.1) w.5 ∙ over-over w.2 w.1 r.1),
    )

pub items_join : (s : Setting) (is js : Items) (c c1 : ℕ) (g : Env) (c2 : ℕ) (a b : Env) → ItemsBind s c g is c1 a → ItemsBind s c1 (over a g) js c2 b → ItemsBind s c g (after is js) c2 (over b a)
items_join s NoItems js c c1 g c2 a b r w =
    let h = subst (λ d. ItemsBind s c1 (over d g) js c2 b) r.1 w in
    let k = subst (λ n. ItemsBind s n g js c2 b) r.0 h in
    subst (λ d. ItemsBind s c g js c2 (over b d)) (sym r.1) (subst (λ d. ItemsBind s c g js c2 d) (sym (over-empty b)) k)
items_join s (MoreItems i is) js c c1 g c2 a b r w =
    let h = subst (λ d. ItemsBind s c1 (over d g) js c2 b) r.5 w in
    let k = subst (λ d. ItemsBind s c1 d js c2 b) (over-over r.2 r.1 g) h in (
      r.0,
      r.1,
      over b r.2,
      r.3,
      items_join s is js r.0 c1 (over r.1 g) c2 r.2 b r.4 k,
      ap (λ d. over b d) r.5 ∙ sym (over-over b r.2 r.1),
    )

pub units_split : (s : Setting) (us vs : List (Part × Items)) (c : ℕ) (g : Env) (c2 : ℕ) (e : Env) → UnitsBind s c g (us ++ vs) c2 e → (c1 : ℕ) × (a : Env) × (b : Env) × UnitsBind s c g us c1 a × UnitsBind s c1 (over a g) vs c2 b × (e ≡ over b a)
units_split s [] vs c g c2 e r = (c, Empty, e, (refl, refl), r, sym (over-empty e))
units_split s (u ∷ us) vs c g c2 e r =
    let d = added s.stage u.0 r.1 in
    let w = units_split s us vs r.0 (over d g) c2 r.2 r.4 in (
      w.0,
      over w.1 d,
      w.2,
      (r.0, r.1, w.1, r.3, w.3, refl),
      subst (λ x. UnitsBind s w.0 x vs c2 w.2) (sym (over-over w.1 d g)) w.4,
      r.5 ∙ (ap (λ x. over x d) w.5 ∙ over-over w.2 w.1 d),
    )

pub units_join : (s : Setting) (us vs : List (Part × Items)) (c c1 : ℕ) (g : Env) (c2 : ℕ) (a b : Env) → UnitsBind s c g us c1 a → UnitsBind s c1 (over a g) vs c2 b → UnitsBind s c g (us ++ vs) c2 (over b a)
units_join s [] vs c c1 g c2 a b r w =
    let h = subst (λ d. UnitsBind s c1 (over d g) vs c2 b) r.1 w in
    let k = subst (λ n. UnitsBind s n g vs c2 b) r.0 h in
    subst (λ d. UnitsBind s c g vs c2 (over b d)) (sym r.1) (subst (λ d. UnitsBind s c g vs c2 d) (sym (over-empty b)) k)
units_join s (u ∷ us) vs c c1 g c2 a b r w =
    let d = added s.stage u.0 r.1 in
    let h = subst (λ x. UnitsBind s c1 (over x g) vs c2 b) r.5 w in
    let k = subst (λ x. UnitsBind s c1 x vs c2 b) (over-over r.2 d g) h in (
      r.0,
      r.1,
      over b r.2,
      r.3,
      units_join s us vs r.0 c1 (over d g) c2 r.2 b r.4 k,
      ap (λ x. over b x) r.5 ∙ sym (over-over b r.2 d),
    )

-- ---- what is found where an environment stands over another one

found_first : {A : Type 0} (b : Bool) (q : A) (o p : Option A) (g : Option A) → (o ≡ None → p ≡ g) → (if b then Some q else o) ≡ None → (if b then Some q else p) ≡ g
found_first true q o p g k e = absurd (cc e)
found_first false q o p g k e = k e

pub local_behind : (x : ℕ) (d g : Env) → local_at x d ≡ None → local_at x (over d g) ≡ local_at x g
local_behind x Empty g e = refl
local_behind x (AddLocal y n v d) g e = found_first _ v (local_at x d) (local_at x (over d g)) (local_at x g) (local_behind x d g) e
local_behind x (AddVid p v d) g e = local_behind x d g e
local_behind x (AddType p t d) g e = local_behind x d g e
local_behind x (AddMod m b d) g e = local_behind x d g e

pub vid_behind : (x : Part) (d g : Env) → vid_at (x ∷ []) d ≡ None → vid_at (x ∷ []) (over d g) ≡ vid_at (x ∷ []) g
vid_behind x Empty g e = refl
vid_behind x (AddLocal y n v d) g e = vid_behind x d g e
vid_behind x (AddVid p v d) g e = found_first (is_same (x ∷ []) p) v (vid_at (x ∷ []) d) (vid_at (x ∷ []) (over d g)) (vid_at (x ∷ []) g) (vid_behind x d g) e
vid_behind x (AddType p t d) g e = vid_behind x d g e
vid_behind x (AddMod m b d) g e = vid_behind x d g e

pub type_behind : (x : Part) (d g : Env) → type_at (x ∷ []) d ≡ None → type_at (x ∷ []) (over d g) ≡ type_at (x ∷ []) g
type_behind x Empty g e = refl
type_behind x (AddLocal y n v d) g e = type_behind x d g e
type_behind x (AddVid p v d) g e = type_behind x d g e
type_behind x (AddType p t d) g e = found_first (is_same (x ∷ []) p) t (type_at (x ∷ []) d) (type_at (x ∷ []) (over d g)) (type_at (x ∷ []) g) (type_behind x d g) e
type_behind x (AddMod m b d) g e = type_behind x d g e

pub mod_behind : (x : Part) (d g : Env) → mod_at (x ∷ []) d ≡ None → mod_at (x ∷ []) (over d g) ≡ mod_at (x ∷ []) g
mod_behind x Empty g e = refl
mod_behind x (AddLocal y n v d) g e = mod_behind x d g e
mod_behind x (AddVid p v d) g e = mod_behind x d g e
mod_behind x (AddType p t d) g e = mod_behind x d g e
mod_behind x (AddMod m b d) g e = found_first (is_same (x ∷ []) (m ∷ [])) b (mod_at (x ∷ []) d) (mod_at (x ∷ []) (over d g)) (mod_at (x ∷ []) g) (mod_behind x d g) e
