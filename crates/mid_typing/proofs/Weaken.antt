-- What types where names are bound types where more are bound.
use Rattle.std.proofs.Common.{inl, inr, ◌++◌, ℕ, List, [], ◌∷◌, Option, Some, None, length}
use Rattle.tl_text.specs.Pairs.{seconds}
use Rattle.sml_static.specs.declared.mid.MidData.{MidData}
use Rattle.sml_static.specs.declared.ty.Scheme.{Scheme}
use Rattle.sml_static.specs.declared.ty.Ty.{Ty}
use Rattle.sml_static.specs.declared.ty.VarKind.{VarKind}
use Rattle.sml_static.specs.WellFormed.{Numbering}
use Rattle.mid_ast.specs.Tree.{Part, Name, Dict, Base, At, Given, Cells, Parts, Dicts, NoDicts, MoreDicts, Pat, Any, PLit, PVar, PCon, PConOf, PTuple, PLayer, PCell, PFlex, Pats, NoPats, MorePats, Exp, Const, Local, Home, Con, Prim, Tuple, Apply, Fun, Raise, Handle, Let, Exps, NoExps, MoreExps, Rules, NoRules, MoreRules, Dec, Vals, Funs, Datas, Alias, NewExn, SameExn, Decs, NoDecs, MoreDecs, Binds, NoBinds, MoreBinds, Item, Core, Module, NoItem, Items, NoItems, MoreItems, Mod, Body, AtPath, NoMod}
use Rattle.mid_typing.specs.Env.{Entry, General, Within, Vid, Variable, Constructor, Exception, Env, binder_at, local_at, over, vid_at}
use Rattle.mid_typing.specs.Basis.{prim_scheme}
use Rattle.mid_typing.specs.Dicts.{Setting, Stage, Elaborated, Explicit, Placed, DictFits, DictsFit, IsEqualityAt, IsEqualityBinder, PrimDicts}
use Rattle.mid_typing.specs.Patterns.{Binder, ConHas, PatHas, PatsHave, put_binders}
use Rattle.mid_typing.specs.Profile.{IsAllowed, IsWhole, IsWholeEntry, IsWholeVid, UsesAreFunctions}
use Rattle.mid_typing.specs.Data.{DatasAre, IsCopyOf}
use Rattle.mid_typing.specs.MidTypes.{UseOf, HomeOf, PrimOf, Member, within, ExpHas, AllHave, RulesHave, DecBinds, BindsHave, MembersHave, DecsBind, ItemBinds, ItemsBind, ModBinds}
use Rattle.mid_typing.specs.Units.{UnitsBind, UnitsType, added}
use Rattle.mid_typing.specs.More.{More}
use Rattle.mid_typing.proofs.Lookups.{found_more, more_binders, more_over, more_within}

-- ---- dictionaries

equality_more : (s : Stage) (g h : Env) → More g h → (q : Name) (name : _) → IsEqualityAt s g q name → IsEqualityAt s h q name
equality_more Elaborated g h m q name e = e
equality_more Explicit g h m q name e = e
equality_more Placed g h m q name (inl e) = inl (m.vids q _ e)
equality_more Placed g h m q name (inr e) = inr (e.0, found_more (λ v. IsEqualityBinder v e.0 name) (λ w. w) (binder_at q g) (binder_at q h) (m.binders q) e.1)

mutual
  pub dict_more : (s : Stage) (g h : Env) → More g h → (ks : List VarKind) (d : Dict) (t : Ty) → DictFits s g ks d t → DictFits s h ks d t
  dict_more s g h m ks (Base n) t r = r
  dict_more s g h m ks (At q ds) t r = (r.0, r.1, r.2, r.3, equality_more s g h m q r.0 r.4, dicts_more s g h m ks ds r.1 r.5)
  dict_more s g h m ks (Given i) t r = r
  dict_more s g h m ks Cells t r = r
  dict_more s g h m ks (Parts ds) t r = (r.0, r.1, dicts_more s g h m ks ds (seconds r.0) r.2)

  pub dicts_more : (s : Stage) (g h : Env) → More g h → (ks : List VarKind) (ds : Dicts) (ts : List Ty) → DictsFit s g ks ds ts → DictsFit s h ks ds ts
  dicts_more s g h m ks NoDicts [] r = r
  dicts_more s g h m ks NoDicts (t ∷ ts) r = r
  dicts_more s g h m ks (MoreDicts d ds) [] r = r
  dicts_more s g h m ks (MoreDicts d ds) (t ∷ ts) r = (dict_more s g h m ks d t r.0, dicts_more s g h m ks ds ts r.1)

prim_dicts_more : (s : Stage) (g h : Env) → More g h → (ks : List VarKind) (ds : Dicts) (ts : List Ty) → PrimDicts s g ks ds ts → PrimDicts s h ks ds ts
prim_dicts_more Elaborated g h m ks ds ts r = r
prim_dicts_more Explicit g h m ks ds ts r = dicts_more Explicit g h m ks ds _ r
prim_dicts_more Placed g h m ks ds ts r = dicts_more Placed g h m ks ds _ r

-- ---- uses

use_dicts : (s : Setting) (c : ℕ) (g h : Env) → More g h → (ks : List VarKind) (v : Option Entry) (t : Ty) (ds : Dicts) → UseOf s c g ks v t ds → UseOf s c h ks v t ds
use_dicts s c g h m ks None t ds r = r
use_dicts s c g h m ks (Some (General n vars body)) t ds r = (r.0, r.1, r.2, r.3, dicts_more s.stage g h m ks ds _ r.4)
use_dicts s c g h m ks (Some (Within u us)) t ds r = (r.0, dicts_more s.stage g h m ks ds us r.1)

use_more : (s : Setting) (c : ℕ) (g h : Env) → More g h → (ks : List VarKind) (x : ℕ) (t : Ty) (ds : Dicts) → UseOf s c g ks (local_at x g) t ds → UseOf s c h ks (local_at x h) t ds
use_more s c g h m ks x t ds r =
    found_more (λ v. UseOf s c h ks v t ds) (λ w. w) (local_at x g) (local_at x h) (m.locals x) (use_dicts s c g h m ks (local_at x g) t ds r)

home_dicts : (s : Setting) (c : ℕ) (g h : Env) → More g h → (ks : List VarKind) (v : Option Vid) (t : Ty) (ds : Dicts) → HomeOf s c g ks v t ds → HomeOf s c h ks v t ds
home_dicts s c g h m ks None t ds r = r
home_dicts s c g h m ks (Some (Variable scheme)) t ds r = (r.0, r.1, dicts_more s.stage g h m ks ds _ r.2)
home_dicts s c g h m ks (Some (Constructor n scheme)) t ds r = r
home_dicts s c g h m ks (Some (Exception scheme)) t ds r = r

home_more : (s : Setting) (c : ℕ) (g h : Env) → More g h → (ks : List VarKind) (q : Name) (t : Ty) (ds : Dicts) → HomeOf s c g ks (vid_at q g) t ds → HomeOf s c h ks (vid_at q h) t ds
home_more s c g h m ks q t ds r =
    found_more (λ v. HomeOf s c h ks v t ds) (λ w. w) (vid_at q g) (vid_at q h) (m.vids q) (home_dicts s c g h m ks (vid_at q g) t ds r)

prim_more : (s : Setting) (c : ℕ) (g h : Env) → More g h → (ks : List VarKind) (o : Option Scheme) (t : Ty) (ds : Dicts) → PrimOf s c g ks o t ds → PrimOf s c h ks o t ds
prim_more s c g h m ks None t ds r = r
prim_more s c g h m ks (Some scheme) t ds r = (r.0, r.1, prim_dicts_more s.stage g h m ks ds _ r.2)

con_more : (g h : Env) → More g h → (ks : List VarKind) (q : Name) (n : ℕ) (t : Ty) → ConHas ks (vid_at q g) n t → ConHas ks (vid_at q h) n t
con_more g h m ks q n t r = found_more (λ v. ConHas ks v n t) (λ w. w.1) (vid_at q g) (vid_at q h) (m.vids q) r

-- ---- patterns

mutual
  pub pat_more : (s : Setting) (c : ℕ) (g h : Env) → More g h → (ks : List VarKind) (p : Pat) (t : Ty) (bs : List Binder) → PatHas s c g ks p t bs → PatHas s c h ks p t bs
  pat_more s c g h m ks (Any w) t bs r = r
  pat_more s c g h m ks (PLit l) t bs r = r
  pat_more s c g h m ks (PVar x n w) t bs r = r
  pat_more s c g h m ks (PCon q w n) t bs r = (r.0, r.1, con_more g h m ks q n w r.2, r.3)
  pat_more s c g h m ks (PConOf q w n p) t bs r = (r.0, r.1, r.2, con_more g h m ks q n w r.3, pat_more s c g h m ks p r.0 bs r.4)
  pat_more s c g h m ks (PTuple ps) t bs r = (r.0, r.1, r.2, pats_more s c g h m ks ps (seconds r.0) bs r.3)
  pat_more s c g h m ks (PLayer x n p) t bs r = (r.0, pat_more s c g h m ks p t r.0 r.1, r.2, r.3)
  pat_more s c g h m ks (PCell p) t bs r = (r.0, r.1, pat_more s c g h m ks p r.0 bs r.2)
  pat_more s c g h m ks PFlex t bs r = r

  pub pats_more : (s : Setting) (c : ℕ) (g h : Env) → More g h → (ks : List VarKind) (ps : Pats) (ts : List Ty) (bs : List Binder) → PatsHave s c g ks ps ts bs → PatsHave s c h ks ps ts bs
  pats_more s c g h m ks NoPats [] bs r = r
  pats_more s c g h m ks NoPats (t ∷ ts) bs r = r
  pats_more s c g h m ks (MorePats p ps) [] bs r = r
  pats_more s c g h m ks (MorePats p ps) (t ∷ ts) bs r = (r.0, r.1, pat_more s c g h m ks p t r.0 r.2, pats_more s c g h m ks ps ts r.1 r.3, r.4)

-- ---- the profile

whole_more : (g h : Env) → More g h → (n : ℕ) (vars : List VarKind) (e : Exp) → IsWhole g n vars e → IsWhole h n vars e
whole_more g h m n vars (Local x t ds) r = found_more (λ v. IsWholeEntry v n vars t) (λ w. w) (local_at x g) (local_at x h) (m.locals x) r
whole_more g h m n vars (Home q t ds) r = found_more (λ v. IsWholeVid v n vars t) (λ w. w) (vid_at q g) (vid_at q h) (m.vids q) r
whole_more g h m n vars (Const l) r = absurd r
whole_more g h m n vars (Con q t) r = absurd r
whole_more g h m n vars (Prim i t ds) r = absurd r
whole_more g h m n vars (Tuple es) r = absurd r
whole_more g h m n vars (Apply f a) r = absurd r
whole_more g h m n vars (Fun rs a b) r = absurd r
whole_more g h m n vars (Raise a t) r = absurd r
whole_more g h m n vars (Handle a rs) r = absurd r
whole_more g h m n vars (Let ds a) r = absurd r

uses_more : (g h : Env) → More g h → (n : ℕ) (p : Pat) (vars : List VarKind) (e : Exp) → UsesAreFunctions g n p vars e → UsesAreFunctions h n p vars e
uses_more g h m n p vars e (inl r) = inl r
uses_more g h m n p vars e (inr (inl r)) = inr (inl (r.0, whole_more g h m n vars e r.1))
uses_more g h m n p vars e (inr (inr r)) = inr (inr r)

allowed_more : (g h : Env) → More g h → (ks : List VarKind) (p : Pat) (vars : List VarKind) (e : Exp) (bs : List Binder) → IsAllowed g ks p vars e bs → IsAllowed h ks p vars e bs
allowed_more g h m ks p vars e bs r = record { refutable = r.refutable; equality = r.equality; uses = uses_more g h m (length ks) p vars e r.uses }

-- ---- datatypes

copy_more : (g h : Env) → More g h → (d : MidData) → IsCopyOf g d → IsCopyOf h d
copy_more g h m d r = record { path = r.path; entry = r.entry; found = m.types r.path r.entry r.found; function = r.function; cons = r.cons; same = r.same }

datas_more : (names : Numbering) (c c2 : ℕ) (g h : Env) → More g h → (ds : List MidData) (news : List ℕ) → DatasAre names c c2 g ds news → DatasAre names c c2 h ds news
datas_more names c c2 g h m [] news r = r
datas_more names c c2 g h m (d ∷ ds) news (inl r) = inl (r.0, (r.1.0, datas_more names c c2 g h m ds r.1.0 r.1.1, r.1.2))
datas_more names c c2 g h m (d ∷ ds) news (inr r) = inr (copy_more g h m d r.0, datas_more names c c2 g h m ds news r.1)

-- ---- expressions and declarations

mutual
  pub exp_more : (s : Setting) (c : ℕ) (g h : Env) → More g h → (ks : List VarKind) (e : Exp) (t : Ty) → ExpHas s c g ks e t → ExpHas s c h ks e t
  exp_more s c g h m ks (Const l) t r = r
  exp_more s c g h m ks (Local x w ds) t r = (r.0, r.1, use_more s c g h m ks x w ds r.2)
  exp_more s c g h m ks (Home q w ds) t r = (r.0, r.1, home_more s c g h m ks q w ds r.2)
  exp_more s c g h m ks (Con q w) t r = (r.0, r.1, r.2, con_more g h m ks q r.0 w r.3)
  exp_more s c g h m ks (Prim n w ds) t r = (r.0, r.1, prim_more s c g h m ks (prim_scheme n) w ds r.2)
  exp_more s c g h m ks (Tuple es) t r = (r.0, r.1, r.2, all_more s c g h m ks es (seconds r.0) r.3)
  exp_more s c g h m ks (Apply f a) t r = (r.0, exp_more s c g h m ks f _ r.1, exp_more s c g h m ks a r.0 r.2)
  exp_more s c g h m ks (Fun rs a b) t r = (r.0, r.1, r.2, rules_more s c g h m ks rs a b r.3)
  exp_more s c g h m ks (Raise a w) t r = (r.0, r.1, exp_more s c g h m ks a _ r.2)
  exp_more s c g h m ks (Handle a rs) t r = (exp_more s c g h m ks a t r.0, r.1, rules_more s c g h m ks rs _ t r.2)
  exp_more s c g h m ks (Let ds a) t r =
      (r.0, r.1, decs_more s c g h m ks ds r.0 r.1 r.2, exp_more s r.0 (over r.1 g) (over r.1 h) (more_over r.1 g h m) ks a t r.3, r.4)

  pub all_more : (s : Setting) (c : ℕ) (g h : Env) → More g h → (ks : List VarKind) (es : Exps) (ts : List Ty) → AllHave s c g ks es ts → AllHave s c h ks es ts
  all_more s c g h m ks NoExps [] r = r
  all_more s c g h m ks NoExps (t ∷ ts) r = r
  all_more s c g h m ks (MoreExps e es) [] r = r
  all_more s c g h m ks (MoreExps e es) (t ∷ ts) r = (exp_more s c g h m ks e t r.0, all_more s c g h m ks es ts r.1)

  pub rules_more : (s : Setting) (c : ℕ) (g h : Env) → More g h → (ks : List VarKind) (rs : Rules) (a t : Ty) → RulesHave s c g ks rs a t → RulesHave s c h ks rs a t
  rules_more s c g h m ks NoRules a t r = r
  rules_more s c g h m ks (MoreRules p e rs) a t r = (
    (
      r.0.0,
      pat_more s c g h m ks p a r.0.0 r.0.1,
      exp_more s c (put_binders (length ks) [] r.0.0 g) (put_binders (length ks) [] r.0.0 h) (more_binders (length ks) [] r.0.0 g h m) ks e t r.0.2,
    ),
    rules_more s c g h m ks rs a t r.1,
  )

  pub dec_more : (s : Setting) (c : ℕ) (g h : Env) → More g h → (ks : List VarKind) (d : Dec) (c2 : ℕ) (e : Env) → DecBinds s c g ks d c2 e → DecBinds s c h ks d c2 e
  dec_more s c g h m ks (Vals bs) c2 e r = (binds_more s c g h m ks bs e r.0, r.1, r.2)
  dec_more s c g h m ks (Funs bs) c2 e r = (r.0, r.1, members_more s c g h m ks r.0 r.1 bs r.1 r.2, r.3, r.4, r.5)
  dec_more s c g h m ks (Datas ds) c2 e r = (r.0, datas_more s.names c c2 g h m ds r.0 r.1, r.2, r.3, r.4)
  dec_more s c g h m ks (Alias q f) c2 e r = r
  dec_more s c g h m ks (NewExn q a) c2 e r = r
  dec_more s c g h m ks (SameExn q p) c2 e r = (r.0, m.vids p _ r.1, r.2, r.3)

  pub binds_more : (s : Setting) (c : ℕ) (g h : Env) → More g h → (ks : List VarKind) (bs : Binds) (e : Env) → BindsHave s c g ks bs e → BindsHave s c h ks bs e
  binds_more s c g h m ks NoBinds e r = r
  binds_more s c g h m ks (MoreBinds p vars a more) e r = (
    r.0,
    r.1,
    r.2,
    exp_more s c g h m (ks ++ vars) a r.0 r.3,
    pat_more s c g h m (ks ++ vars) p r.0 r.1 r.4,
    r.5,
    allowed_more g h m ks p vars a r.1 r.6,
    binds_more s c g h m ks more r.2 r.7,
    r.8,
  )

  pub members_more : (s : Setting) (c : ℕ) (g h : Env) → More g h → (ks : List VarKind) (group : ℕ → VarKind) (all : List Member) (bs : Binds) (ms : List Member) → MembersHave s c g ks group all bs ms → MembersHave s c h ks group all bs ms
  members_more s c g h m ks group all NoBinds [] r = r
  members_more s c g h m ks group all NoBinds (x ∷ ms) r = r
  members_more s c g h m ks group all (MoreBinds p vars e more) [] r = r
  members_more s c g h m ks group all (MoreBinds p vars e more) (x ∷ ms) r = (
    r.0,
    r.1,
    r.2,
    r.3,
    r.4,
    exp_more s c (within group (length ks) x.own all g) (within group (length ks) x.own all h) (more_within group (length ks) x.own all g h m) (ks ++ vars) e x.type r.5,
    members_more s c g h m ks group all more ms r.6,
  )

  pub decs_more : (s : Setting) (c : ℕ) (g h : Env) → More g h → (ks : List VarKind) (ds : Decs) (c2 : ℕ) (e : Env) → DecsBind s c g ks ds c2 e → DecsBind s c h ks ds c2 e
  decs_more s c g h m ks NoDecs c2 e r = r
  decs_more s c g h m ks (MoreDecs d ds) c2 e r =
      (r.0, r.1, r.2, dec_more s c g h m ks d r.0 r.1 r.3, decs_more s r.0 (over r.1 g) (over r.1 h) (more_over r.1 g h m) ks ds c2 r.2 r.4, r.5)

-- ---- items and units

mutual
  pub item_more : (s : Setting) (c : ℕ) (g h : Env) → More g h → (i : Item) (c2 : ℕ) (e : Env) → ItemBinds s c g i c2 e → ItemBinds s c h i c2 e
  item_more s c g h m (Core d) c2 e r = (r.0, dec_more s c g h m [] d c2 r.0 r.1, r.2, r.3)
  item_more s c g h m (Module x o) c2 e r = (r.0, mod_more s c g h m o c2 r.0 r.1, r.2)
  item_more s c g h m NoItem c2 e r = r

  pub items_more : (s : Setting) (c : ℕ) (g h : Env) → More g h → (is : Items) (c2 : ℕ) (e : Env) → ItemsBind s c g is c2 e → ItemsBind s c h is c2 e
  items_more s c g h m NoItems c2 e r = r
  items_more s c g h m (MoreItems i is) c2 e r =
      (r.0, r.1, r.2, item_more s c g h m i r.0 r.1 r.3, items_more s r.0 (over r.1 g) (over r.1 h) (more_over r.1 g h m) is c2 r.2 r.4, r.5)

  pub mod_more : (s : Setting) (c : ℕ) (g h : Env) → More g h → (o : Mod) (c2 : ℕ) (b : Env) → ModBinds s c g o c2 b → ModBinds s c h o c2 b
  mod_more s c g h m (Body is) c2 b r = items_more s c g h m is c2 b r
  mod_more s c g h m (AtPath q) c2 b r = (r.0, m.mods q b r.1)
  mod_more s c g h m NoMod c2 b r = r

pub units_more : (s : Setting) (c : ℕ) (g h : Env) → More g h → (us : List (Part × Items)) (c2 : ℕ) (e : Env) → UnitsBind s c g us c2 e → UnitsBind s c h us c2 e
units_more s c g h m [] c2 e r = r
units_more s c g h m (u ∷ us) c2 e r =
    let d = added s.stage u.0 r.1 in
    (r.0, r.1, r.2, items_more s c g h m u.1 r.0 r.1 r.3, units_more s r.0 (over d g) (over d h) (more_over d g h m) us c2 r.2 r.4, r.5)

pub units_type_more : (s : Setting) (c : ℕ) (g h : Env) → More g h → (us : List (Part × Items)) (c2 : ℕ) (e : Env) → UnitsType s c g us c2 e → UnitsType s c h us c2 e
units_type_more s c g h m us c2 e r = record { binds = units_more s c g h m us c2 e r.binds; binders = r.binders; datas = r.datas }
