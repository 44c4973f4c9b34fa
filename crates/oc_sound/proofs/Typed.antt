-- A typed phrase of a text is a typed tree of runs.
use Rattle.std.proofs.Common.{◌≡◌, ◌⊎◌, ℕ, ◌+◌, ◌≤◌, inl, inr, List, [], ◌∷◌, ◌++◌, Option, Some, None, Bool, true, false, if◌then◌else◌, refl, sym, ap, ◌∙◌, subst, arith}
use Rattle.oc_ast.specs.Plain.{Bytes, Long, PATy, PTDef, PAPat, PAtom, Const, Val, Con, Nothing, Paren, Tuple, Items, PAtoms, NoAtoms, MoreAtoms, PArms, NoArms, MoreArms, PFull, Is, LetIn, LetRecIn, LetMod, LetExn, If, Match, Try, While, Then, PItem, Let, LetRec, Types, Exn, ExnAs, Module, Sealed, Functor, PItems, NoItems, MoreItems, PMExp, MAt, Struct, Apply, MSeal, Plain, Poly, PRBinds, NoBinds, MoreBinds, PSimple, One, Call, Build, Oper, Fun}
use Rattle.oc_typing.specs.Ty as oc
use Rattle.oc_typing.specs.Ty.{Ty, Tys, Instance, bool, exn, first_stamp, inst, unit}
use Rattle.oc_typing.specs.Env as env
use Rattle.oc_typing.specs.Env.{Env, Empty, AddCon, AddMod, val_at}
use Rattle.oc_typing.specs.Variables.{Differ, NoVars, OneVar, Vars, VarsClosed, put_vars}
use Rattle.oc_typing.specs.Patterns.{APatTypes}
use Rattle.oc_typing.specs.NonExpansive.{NonExpansive}
use Rattle.oc_typing.specs.Definitions.{put_defs}
use Rattle.oc_typing.specs.Written.{ArgReads}
use Rattle.oc_typing.specs.OcTypes.{AllType, ArmsType, AtomTypes, AtomsType, BindsType, FullTypes, ItemBinds, ItemsBind, ModBinds, SimpleTypes, ValHas, raises}
use Rattle.oc_typing.proofs.Grows.{item_counts, items_count}
use Rattle.oc_typing.proofs.Lookups.{over-empty, over-over}
use Rattle.oc_steps.specs.Known.{Holds, Known, Nobody, Raises, is_exception, item_knows, items_know, mod_knows, or_nobody, over}
use Rattle.oc_steps.specs.View.{apat_tree, arms_tree, atom_tree, atoms_tree, binds_tree, full_tree, item_tree, items_tree, mod_tree, pat_tree, simple_tree}
use Rattle.oc_steps.proofs.Generalised.{generalised_is_still}
use Rattle.oc_steps.proofs.Viewed.{simple_still}
use Rattle.run_types.specs.Basic.{Basic}
use Rattle.run_types.proofs.Choice.{choice_has}
use Rattle.run_types.specs.TypedItems.{HasItems, ScopeTy, exn_ctx, inside_ty, joined, with_struct_ty}
use Rattle.run_types.specs.Types as run
use Rattle.run_types.specs.Types.{AllOf, Binds, ConsT, Ctx, Has, HasAll, HasFuns, HasRules, Mono, NilT, TArr, TExn, TNam, Types as VarTypes, UseAt, Weaker, World, join, monos, no_ctx, under_ty, unit_ty}
use Rattle.runs.specs.Env as renv
use Rattle.runs.specs.Forms.{call, let_in, loop_name, seq, unit_exp, var, while_do}
use Rattle.runs.specs.Names.{Name, same}
use Rattle.runs.specs.Ordered.{Still}
use Rattle.runs.specs.Tree as tree
use Rattle.oc_sound.proofs.Apart.{apart_over, item_apart, items_apart}
use Rattle.oc_sound.proofs.Arms.{apat_always, match_has, pat_always}
use Rattle.oc_sound.proofs.Declared.{entry_table}
use Rattle.oc_sound.proofs.Defined.{DefsGood, defs_closed, defs_good}
use Rattle.oc_sound.proofs.Fitting.{NoneItselfAt, args_first, con_means, fits_over, exn_first, fits_vars, mod_is, type_is}
use Rattle.oc_sound.proofs.Forms.{form_has}
use Rattle.oc_sound.proofs.Groups.{Aligned, group_typed}
use Rattle.oc_sound.proofs.Lets.{let_typed}
use Rattle.oc_sound.proofs.Meanings.{meant_inst}
use Rattle.oc_sound.proofs.Names.{AllSmall, assoc, bound_in, over_put}
use Rattle.oc_sound.proofs.Patterns.{Gives, apat_binds, apat_has, apat_small, con_tree_has, gives_own, literal_ty, mono_binds, mono_serve, pat_binds, pat_has, pat_small}
use Rattle.oc_sound.proofs.Serving.{VarsServe, place_exn, place_mod, place_put, serves_at, serves_empty, serves_exn, serves_mod, serves_put, serves_types}
use Rattle.oc_sound.proofs.Tables.{Tabled, both_tables, map_table, no_table}
use Rattle.oc_sound.specs.Meant.{all_meant, meant}
use Rattle.oc_sound.specs.Secure.{SecureArms, SecureAtom, SecureAtoms, SecureBinds, SecureFull, SecureItem, SecureItems, SecureMod, SecureSimple}
use Rattle.oc_sound.specs.Words.{Variants, capital}
use Rattle.oc_sound.specs.Served.{Apart, Closed, Fits, Place, Serves, written_tys}

-- a name at an instance of its scheme
val_has : (f b : ℕ → run.Ty) (x : Ctx) (q : Long) (o : Option Ty) (t : Ty) → ((u : Ty) → o ≡ Some u → (d : ℕ → run.Ty) → UseAt (x q) (meant f d u)) → ValHas o t → UseAt (x q) (meant f b t)
val_has f b x q None t s h = absurd h
val_has f b x q (Some u) t s h = subst (UseAt (x q)) (sym (ap (meant f b) h.2 ∙ meant_inst f b h.0 u)) (s u refl (λ i. meant f b (h.0 i)))

-- a rule whose variables have one type each
record RuleTyped (w : World) (k : Known) (g : Env) (f : ℕ → run.Ty) (x : Ctx) (p : tree.Pat) (u : run.Ty) (bs : Vars) : Type 0 where
  own : Ctx
  binds : Binds w x (λ a. a ≡ u) p own
  place : Place w k (put_vars bs g) f (join (renv.binds p) own x)

rule_typed : (w : World) (k : Known) (g : Env) (f : ℕ → run.Ty) (x : Ctx) (b : ℕ → run.Ty) → Place w k g f x → (p : tree.Pat) (u : run.Ty) (bs : Vars) → run.HasPat w x p u (assoc (meant f b) bs) → ((q : Name) → renv.binds p q ≡ bound_in bs q) → AllSmall bs → VarsClosed bs → Differ bs → RuleTyped w k g f x p u bs
rule_typed w k g f x b pl p u bs h n s c d =
    let m = monos (assoc (meant f b) bs) in
    record { own = m; binds = mono_binds w x p u (assoc (meant f b) bs) h; place = place_put w k g f x m bs (renv.binds p) pl n s (mono_serve f b bs c d) }

-- the one rule of a function
fun_has : (w : World) (k : Known) (g : Env) (f : ℕ → run.Ty) (x : Ctx) → Place w k g f x → (b : ℕ → run.Ty) (p : PAPat) (e : tree.Exp) (a : Ty) (t : run.Ty) (bs : Vars) → APatTypes g p a bs → AllSmall bs → VarsClosed bs → Differ bs → ((y : Ctx) → Place w k (put_vars bs g) f y → Has w y e t) → HasRules w x (λ u. u ≡ meant f b a) (tree.Rule (apat_tree k p) e tree.Stop) t
fun_has w k g f x pl b p e a t bs r n c d h =
    let m = rule_typed w k g f x b pl (apat_tree k p) (meant f b a) bs (apat_has w k g f x b (assoc (meant f b) bs) pl p a bs r (gives_own f b bs d)) (apat_binds k g p a bs r) n c d in
    (m.own, m.binds, h (join (renv.binds (apat_tree k p)) m.own x) m.place, tt)

-- ---- forms that stand for others

any_binds : (w : World) (x : Ctx) (u : run.Ty) → Binds w x (λ a. a ≡ u) tree.PAny no_ctx
any_binds w x u = ((u, (λ y. None), refl, tt), λ y v i o. absurd (cc i))

seq_has : (w : World) (x : Ctx) (a c : tree.Exp) (t : run.Ty) → Has w x a unit_ty → Has w x c t → Has w x (seq a c) t
seq_has w x a c t h k = inl (inl tt, unit_ty, h, inl (no_ctx, any_binds w x unit_ty, k, tt))

-- the loop's own name, which is no path
abbrev loop_names : Name → Bool
loop_names = λ y. if same loop_name y then true else false

abbrev loop_types : VarTypes
loop_types = λ y. Some (TArr unit_ty unit_ty)

place_loop : (w : World) (k : Known) (g : Env) (f : ℕ → run.Ty) (x h : Ctx) → Place w k g f x → Place w k g f (join loop_names h x)
place_loop w k g f x h pl = record { basic = pl.basic; fits = pl.fits; serves = record { vals = vals; exns = exns; small = pl.serves.small; large = pl.serves.large } }
  where
    vals : (q : Long) (u : Ty) → val_at q g ≡ Some u → (b : ℕ → run.Ty) → UseAt (join loop_names h x q) (meant f b u)
    vals [] u e b = absurd (cc e)
    vals (y ∷ q) u e b = pl.serves.vals (y ∷ q) u e b

    exns : (q : Long) (a : Option Ty) → env.con_at q g ≡ Some (raises a) → UseAt (join loop_names h x q) (TNam (written_tys a))
    exns [] a e = absurd (cc e)
    exns (y ∷ q) a e = pl.serves.exns (y ∷ q) a e

unit_has : (w : World) (x : Ctx) → Has w x unit_exp unit_ty
unit_has w x = (NilT, tt, refl)

while_has : (w : World) (x : Ctx) (a c : tree.Exp) → Basic w → ((h : Ctx) → Has w (join loop_names h x) a run.bool_ty) → ((h : Ctx) → Has w (join loop_names h x) c unit_ty) → Has w x (while_do a c) unit_ty
while_has w x a c q ha hc =
    let m : Ctx = monos loop_types in
    let y : Ctx = join loop_names m x in
    let again : Has w y (call (tree.Var loop_name) unit_exp) unit_ty = (ConsT (TArr unit_ty unit_ty) (ConsT unit_ty NilT), (refl, (unit_has w y, tt)), (unit_ty, refl)) in
    let body = choice_has w y a (seq c (call (tree.Var loop_name) unit_exp)) unit_exp unit_ty q (ha m) (seq_has w y c (call (tree.Var loop_name) unit_exp) unit_ty (hc m) again) (unit_has w y) in
    (m, (λ n u i o. (loop_types, ap Some (sym o), (unit_ty, unit_ty, refl, inl tt, (no_ctx, ((unit_ty, (λ z. None), refl, (NilT, refl, tt)), λ z v j p. absurd (cc j)), body, tt), tt))), again)

-- ---- rows of items

-- the row leaves a scope with the schemes of these environments
abbrev Leaves : World → (ℕ → run.Ty) → ScopeTy → tree.Items → Env → Env → Type 0
Leaves w f c is e o = (d : ScopeTy) × HasItems w c is d × Serves f e d.env × Serves f o d.own

-- so it does from each scope with the schemes of the first two
abbrev Goes : World → (ℕ → run.Ty) → Env → Env → tree.Items → Env → Env → Type 0
Goes w f g h is e o = (c : ScopeTy) → Serves f g c.env → Serves f h c.own → Leaves w f c is e o

-- a row that binds d
abbrev pub RowGood : Variants → World → Env → PItems → Env → Type 0
RowGood vs w g is d = (k : Known) → Fits w k g → Apart vs k → Fits w (items_know k is) d × ((f : ℕ → run.Ty) (h : Env) → Goes w f g h (items_tree k is) (env.over d g) (env.over d h))

-- an item before a row that goes on from what it leaves
abbrev ItemGood : Variants → World → Env → PItem → Env → Type 0
ItemGood vs w g i d =
    (k : Known) → Fits w k g → Apart vs k
    → Fits w (item_knows k i) d
    × ((f : ℕ → run.Ty) (h e o : Env) (more : tree.Items) → Goes w f (env.over d g) (env.over d h) more e o → Goes w f g h (item_tree k i more) e o)

abbrev ModGood : Variants → World → Env → Bytes → PMExp → Env → Type 0
ModGood vs w g m p b =
    (k : Known) → Fits w k g → Apart vs k
    → Fits w (mod_knows k p) b
    × ((f : ℕ → run.Ty) (h e o : Env) (more : tree.Items) → Goes w f (AddMod m b g) (AddMod m b h) more e o → Goes w f g h (mod_tree k m p more) e o)

row_end : (vs : Variants) (w : World) (g : Env) (d : Env) → d ≡ Empty → RowGood vs w g NoItems d
row_end vs w g d e = λ k t aw. (
  subst (Fits w Nobody) (sym e) refl,
  λ f h c s o.
      (c, ((λ x u i. i), (λ x u i. i)), subst (λ v. Serves f (env.over v g) c.env) (sym e) s, subst (λ v. Serves f (env.over v h) c.own) (sym e) o),
)

row_more : (vs : Variants) (types : Bool) (w : World) (g b r d : Env) (i : PItem) (is : PItems) → d ≡ env.over r b → SecureItem vs types i → ItemGood vs w g i b → RowGood vs w (env.over b g) is r → RowGood vs w g (MoreItems i is) d
row_more vs types w g b r d i is e si p q = subst (RowGood vs w g (MoreItems i is)) (sym e) (λ k t aw.
    let a = p k t aw in
    let k1 : Known = over (item_knows k i) k in
    let c = q k1 (fits_over w (item_knows k i) k b g a.0 t) (apart_over vs (item_knows k i) k (item_apart vs types k i si aw) aw) in (
      fits_over w (items_know k1 is) (item_knows k i) r b c.0 a.0,
      λ f h. a.1 f h (env.over (env.over r b) g) (env.over (env.over r b) h) (items_tree k1 is) (λ v s o.
          subst (λ z. Leaves w f v (items_tree k1 is) z (env.over (env.over r b) h)) (sym (over-over r b g))
          (subst (λ z. Leaves w f v (items_tree k1 is) (env.over r (env.over b g)) z) (sym (over-over r b h)) (c.1 f (env.over b h) v s o))),
    ))

-- variables, over both environments
vars_go : (f : ℕ → run.Ty) (bs : Vars) (g : Env) (x own : Ctx) (bd : Name → Bool) → ((q : Name) → bd q ≡ bound_in bs q) → AllSmall bs → VarsServe f bs own → Serves f g x → Serves f (env.over (put_vars bs Empty) g) (join bd own x)
vars_go f bs g x own bd n s v h = subst (λ z. Serves f z (join bd own x)) (sym (over_put bs Empty g)) (serves_put f g x own bs bd h n s v)

exn_go : (f : ℕ → run.Ty) (n : Bytes) (a : Option Ty) (w : World) (h e o g : Env) (more : tree.Items) → capital n ≡ true → Goes w f (AddCon n (raises a) g) (AddCon n (raises a) h) more e o → (c : ScopeTy) → Serves f g c.env → Serves f h c.own → Leaves w f (joined (same (var n)) (exn_ctx (written_tys a)) c) more e o
exn_go f n a w h e o g more k go c s t = go (joined (same (var n)) (exn_ctx (written_tys a)) c) (serves_exn f g c.env n a s k) (serves_exn f h c.own n a t k)

none_at : (w : World) (k : Known) (g : Env) → Fits w k g → NoneItselfAt g
none_at w k g h = λ q t e. (type_is w q k g t h e).0

mod_at_good : (vs : Variants) (w : World) (g b : Env) (m : Bytes) (q : Long) → env.mod_at q g ≡ Some b → ModGood vs w g m (MAt q) b
mod_at_good vs w g b m q e k t aw =
    let i = mod_is w q k g b t e in (
      subst (λ o. Fits w (or_nobody o) b) (sym i.1) i.2,
      λ f h e1 o more go c s u.
          let r : Ctx = λ y. c.env (q ++ y) in
          go (with_struct_ty m r c) (serves_mod f g b c.env r m s (serves_at f g b c.env q s e)) (serves_mod f h b c.own r m u (serves_at f g b c.env q s e)),
    )

struct_good : (vs : Variants) (w : World) (g b : Env) (m : Bytes) (is : PItems) → RowGood vs w g is b → ModGood vs w g m (Struct is) b
struct_good vs w g b m is r k t aw =
    let p = r k t aw in (
      p.0,
      λ f h e o more go c s u.
          let d = p.1 f Empty (inside_ty c) s (serves_empty f) in
          let own = subst (λ z. Serves f z (d.0).own) (over-empty b) d.3 in
          let n = go (with_struct_ty m (d.0).own c) (serves_mod f g b c.env (d.0).own m s own) (serves_mod f h b c.own (d.0).own m u own) in
          (n.0, (d.0, d.1, n.1), n.2, n.3),
    )

item_module : (vs : Variants) (w : World) (g b d : Env) (m : Bytes) (p : PMExp) → d ≡ AddMod m b Empty → ModGood vs w g m p b → ItemGood vs w g (Module m p) d
item_module vs w g b d m p e r = subst (ItemGood vs w g (Module m p)) (sym e) (λ k t aw. let q = r k t aw in ((mod_knows k p, Nobody, q.0, refl, refl), q.1))

types_item : (vs : Variants) (w : World) (g : Env) (ds : List PTDef) (d : Env) → DefsGood w d ds → ItemGood vs w g (Types ds) d
types_item vs w g ds d r k t aw = (r.fits, λ f h e o more go c s u. go c (serves_types f d g c.env r.alone s) (serves_types f d h c.own r.alone u))

exn_item : (vs : Variants) (w : World) (g d : Env) (n : Bytes) (p : Option PATy) (a : Option Ty) → capital n ≡ true → ArgReads [] g p a → d ≡ AddCon n (raises a) Empty → ItemGood vs w g (Exn n p) d
exn_item vs w g d n p a c r e = subst (ItemGood vs w g (Exn n p)) (sym e) (λ k t aw. (
  (Nobody, refl, inl (refl, (a, refl, args_first [] g (none_at w k g t) p a r))),
  λ f h e1 o more go v s u.
      let m = exn_go f n a w h e1 o g more c go v s u in
      (m.0, (written_tys a, m.1), m.2, m.3),
))

-- an alias of an exception is the value at the path
exn_as_item : (vs : Variants) (w : World) (g d : Env) (n : Bytes) (q : Long) (a : Option Ty) → capital n ≡ true → env.con_at q g ≡ Some (raises a) → d ≡ AddCon n (raises a) Empty → ItemGood vs w g (ExnAs n q) d
exn_as_item vs w g d n q a c r e = subst (ItemGood vs w g (ExnAs n q)) (sym e) (λ k t aw. (
  (Nobody, refl, inl (refl, (a, refl, exn_first w q k g a t r))),
  λ f h e1 o more go v s u.
      let m = exn_go f n a w h e1 o g more c go v s u in
      let ty : run.Ty = TNam (written_tys a) in
      (m.0, (inl tt, ty, s.exns q a r, exn_ctx (written_tys a), inl ((ty, (λ y. Some ty), refl, refl), λ y i j l. (ty, (λ z. Some ty), refl, refl, ap Some (sym l))), m.1), m.2, m.3),
))

later : (i j m : ℕ) → i ≤ j → j ≤ m → i ≤ m
later i j m h k = omega (arith, h, k)

let_in_has : (w : World) (x : Ctx) (p : tree.Pat) (a c : tree.Exp) (t u : run.Ty) (own : Ctx) → run.Covers (tree.Rule p c tree.Stop) → Has w x a u → (Binds w x (λ v. v ≡ u) p own ⊎ (Still a × Binds w x (λ v. Has w x a v) p own)) → Has w (join (renv.binds p) own x) c t → Has w x (let_in p a c) t
let_in_has w x p a c t u own k h (inl i) e = inl (k, u, h, inl (own, i, e, tt))
let_in_has w x p a c t u own k h (inr i) e = inl (k, u, h, inr (i.0, (own, i.1, e, tt)))

-- the least stamp at which a local module may stand, and a text
at_least : (k : ℕ) → k ≤ k + first_stamp
at_least k = omega arith

first_on : (k : ℕ) → first_stamp ≤ k + first_stamp
first_on k = omega arith

mutual
  pub atom_has : (vs : Variants) (w : World) (k : Known) → Closed vs w → Apart vs k → (g : Env) (f : ℕ → run.Ty) (x : Ctx) → Place w k g f x → (b : ℕ → run.Ty) (a : PAtom) → SecureAtom vs a → (t : Ty) → AtomTypes g a t → Has w x (atom_tree k a) (meant f b t)
  atom_has vs w k cl aw g f x pl b (Const l) s t r = ap (meant f b) r ∙ literal_ty f b l
  atom_has vs w k cl aw g f x pl b (Val q) s t r = val_has f b x q (val_at q g) t (λ u e d. pl.serves.vals q u e d) r
  atom_has vs w k cl aw g f x pl b (Con q) s t r = con_tree_has w x q (is_exception q k) NilT (meant f b t) tree.Nil (con_means w k g f x b pl q None t r) tt
  atom_has vs w k cl aw g f x pl b Nothing s t r = (NilT, tt, ap (meant f b) r)
  atom_has vs w k cl aw g f x pl b (Paren e) s t r = full_has vs w k cl aw g f x pl b e s t r
  atom_has vs w k cl aw g f x pl b (Tuple a xs) s t r =
      (ConsT (meant f b r.0) (all_meant f b r.1), (atom_has vs w k cl aw g f x pl b a s.0 r.0 r.2, atoms_have vs w k cl aw g f x pl b xs s.1 r.1 r.3), ap (meant f b) r.4)
  atom_has vs w k cl aw g f x pl b (Items xs) s t r =
      let m = all_have vs w k cl aw g f x pl b xs s r.0 r.1 in (m.0, m.1, (meant f b r.0, m.2, ap (meant f b) r.2, pl.basic.lists))

  atoms_have : (vs : Variants) (w : World) (k : Known) → Closed vs w → Apart vs k → (g : Env) (f : ℕ → run.Ty) (x : Ctx) → Place w k g f x → (b : ℕ → run.Ty) (xs : PAtoms) → SecureAtoms vs xs → (ts : Tys) → AtomsType g xs ts → HasAll w x (atoms_tree k xs) (all_meant f b ts)
  atoms_have vs w k cl aw g f x pl b NoAtoms s ts r = subst (HasAll w x tree.Nil) (sym (ap (all_meant f b) r)) tt
  atoms_have vs w k cl aw g f x pl b (MoreAtoms a xs) s ts r =
      subst (HasAll w x (tree.Cons (atom_tree k a) (atoms_tree k xs))) (sym (ap (all_meant f b) r.4)) (atom_has vs w k cl aw g f x pl b a s.0 r.0 r.2, atoms_have vs w k cl aw g f x pl b xs s.1 r.1 r.3)

  all_have : (vs : Variants) (w : World) (k : Known) → Closed vs w → Apart vs k → (g : Env) (f : ℕ → run.Ty) (x : Ctx) → Place w k g f x → (b : ℕ → run.Ty) (xs : PAtoms) → SecureAtoms vs xs → (t : Ty) → AllType g xs t → (ts : run.Tys) × HasAll w x (atoms_tree k xs) ts × AllOf (meant f b t) ts
  all_have vs w k cl aw g f x pl b NoAtoms s t r = (NilT, tt, tt)
  all_have vs w k cl aw g f x pl b (MoreAtoms a xs) s t r =
      let m = all_have vs w k cl aw g f x pl b xs s.1 t r.1 in (ConsT (meant f b t) m.0, (atom_has vs w k cl aw g f x pl b a s.0 t r.0, m.1), (refl, m.2))

  arms_have : (vs : Variants) (w : World) (k : Known) → Closed vs w → Apart vs k → (g : Env) (f : ℕ → run.Ty) (x : Ctx) → Place w k g f x → (b : ℕ → run.Ty) (arms : PArms) → SecureArms vs arms → (a t : Ty) → ArmsType g arms a t → HasRules w x (λ u. u ≡ meant f b a) (arms_tree k arms) (meant f b t)
  arms_have vs w k cl aw g f x pl b NoArms s a t r = tt
  arms_have vs w k cl aw g f x pl b (MoreArms p e arms) s a t r =
      let bs = r.0.0 in
      let m = rule_typed w k g f x b pl (pat_tree k p) (meant f b a) bs (pat_has w k g f x b (assoc (meant f b) bs) pl p a bs r.0.1 (gives_own f b bs r.0.3)) (pat_binds k g p a bs r.0.1) (pat_small g p a bs r.0.1 s.0) r.0.2 r.0.3 in
      (m.own, m.binds, atom_has vs w k cl aw (put_vars bs g) f (join (renv.binds (pat_tree k p)) m.own x) m.place b e s.1 t r.0.4, arms_have vs w k cl aw g f x pl b arms s.2 a t r.1)

  simple_has : (vs : Variants) (w : World) (k : Known) → Closed vs w → Apart vs k → (g : Env) (f : ℕ → run.Ty) (x : Ctx) → Place w k g f x → (b : ℕ → run.Ty) (e : PSimple) → SecureSimple vs e → (t : Ty) → SimpleTypes g e t → Has w x (simple_tree k e) (meant f b t)
  simple_has vs w k cl aw g f x pl b (One a) s t r = atom_has vs w k cl aw g f x pl b a s t r
  simple_has vs w k cl aw g f x pl b (Call h a) s t r =
      (ConsT (TArr (meant f b r.0) (meant f b t)) (ConsT (meant f b r.0) NilT), (atom_has vs w k cl aw g f x pl b h s.0 (oc.Arrow r.0 t) r.1, (atom_has vs w k cl aw g f x pl b a s.1 r.0 r.2, tt)), (meant f b r.0, refl))
  simple_has vs w k cl aw g f x pl b (Build q a) s t r =
      con_tree_has w x q (is_exception q k) (ConsT (meant f b r.0) NilT) (meant f b t) (tree.Cons (atom_tree k a) tree.Nil) (con_means w k g f x b pl q (Some r.0) t r.1) (atom_has vs w k cl aw g f x pl b a s r.0 r.2, tt)
  simple_has vs w k cl aw g f x pl b (Oper a o c) s t r =
      form_has w x f b (atom_tree k a) (atom_tree k c) pl.basic o r.0 r.1 t r.2 s.0 (atom_has vs w k cl aw g f x pl b a s.1 r.0 r.3) (atom_has vs w k cl aw g f x pl b c s.2 r.1 r.4)
  simple_has vs w k cl aw g f x pl b (Fun p e) s t r =
      (meant f b r.0, meant f b r.1, ap (meant f b) r.3, inl (apat_always k p s.0), fun_has w k g f x pl b p (full_tree k e) r.0 (meant f b r.1) r.2 r.4 (apat_small g p r.0 r.2 r.4 s.1) r.5 r.6 (λ y pl1. full_has vs w k cl aw (put_vars r.2 g) f y pl1 b e s.2 r.1 r.7))

  pub full_has : (vs : Variants) (w : World) (k : Known) → Closed vs w → Apart vs k → (g : Env) (f : ℕ → run.Ty) (x : Ctx) → Place w k g f x → (b : ℕ → run.Ty) (e : PFull) → SecureFull vs e → (t : Ty) → FullTypes g e t → Has w x (full_tree k e) (meant f b t)
  full_has vs w k cl aw g f x pl b (Is e) s t r = simple_has vs w k cl aw g f x pl b e s t r
  full_has vs w k cl aw g f x pl b (LetIn p e h) s t r =
      let m = let_typed w k g f x pl p (simple_tree k e) r.0 (NonExpansive e) (λ u. SimpleTypes g e u) s.1 (λ n. simple_still k e (generalised_is_still e n)) (λ d pl1 u v. simple_has vs w k cl aw g d x pl1 d e s.2 u v) r.1 in
      let body = full_has vs w k cl aw (put_vars r.0 g) f (join (renv.binds (pat_tree k p)) m.own x) (place_put w k g f x m.own r.0 (renv.binds (pat_tree k p)) pl m.bound m.small m.serve) b h s.3 t r.2 in
      let_in_has w x (pat_tree k p) (simple_tree k e) (full_tree k h) (meant f b t) m.type m.own (inl (pat_always k p s.0)) m.has m.binds body
  full_has vs w k cl aw g f x pl b (LetRecIn rs h) s t r =
      let m = group_typed vs w k g f x pl rs r.0 s.0 (λ d cs. BindsType d rs cs) (λ d n y pl1 cs al v c gv. funs_have vs w k cl aw d n y pl1 rs s.0 cs al v c gv) r.1 in
      (m.own, m.has, full_has vs w k cl aw (put_vars r.0 g) f (join (renv.names (binds_tree k rs)) m.own x) (place_put w k g f x m.own r.0 (renv.names (binds_tree k rs)) pl m.bound m.small m.serve) b h s.1 t r.2)
  full_has vs w k cl aw g f x pl b (LetMod n is h) s t r =
      let v = r.1 (r.0 + first_stamp) (at_least r.0) in
      let m = row_good vs false (r.0 + first_stamp) g is v.0 v.1 (first_on r.0) s.0 v.2 w pl.basic cl k pl.fits aw in
      let d = m.1 f Empty (record { env = x; own = no_ctx }) pl.serves (serves_empty f) in
      let own = subst (λ z. Serves f z (d.0).own) (over-empty v.1) d.3 in
      (x, (λ y u i. i), d.0, d.1, full_has vs w (Holds n (items_know k is) k) cl (items_apart vs false k is s.0 aw, aw) (AddMod n v.1 g) f (under_ty n (d.0).own x) (place_mod w k (items_know k is) g v.1 f x (d.0).own n pl m.0 own) b h s.1 t v.4)
  full_has vs w k cl aw g f x pl b (LetExn n p h) s t r =
      let e = join (same (var n)) (exn_ctx (written_tys r.0)) x in
      (written_tys r.0, full_has vs w (Raises n k) cl (s.1, aw) (AddCon n (raises r.0) g) f e (place_exn w k g f x n r.0 pl s.0 (args_first [] g (none_at w k g pl.fits) p r.0 r.1)) b h s.2 t r.2)
  full_has vs w k cl aw g f x pl b (If a c d) s t r =
      choice_has w x (atom_tree k a) (atom_tree k c) (atom_tree k d) (meant f b t) pl.basic (atom_has vs w k cl aw g f x pl b a s.0 bool r.0) (atom_has vs w k cl aw g f x pl b c s.1 t r.1) (atom_has vs w k cl aw g f x pl b d s.2 t r.2)
  full_has vs w k cl aw g f x pl b (Match a arms) s t r =
      match_has vs w k g f x b (atom_tree k a) r.0 t (meant f b t) arms cl aw pl s.0 r.2 (atom_has vs w k cl aw g f x pl b a s.1 r.0 r.1) (arms_have vs w k cl aw g f x pl b arms s.2 r.0 t r.2)
  full_has vs w k cl aw g f x pl b (Try a arms) s t r = (atom_has vs w k cl aw g f x pl b a s.0 t r.0, arms_have vs w k cl aw g f x pl b arms s.1 exn t r.1)
  full_has vs w k cl aw g f x pl b (While a h) s t r =
      subst (Has w x (while_do (atom_tree k a) (full_tree k h))) (sym (ap (meant f b) r.2))
      (while_has w x (atom_tree k a) (full_tree k h) pl.basic (λ m. atom_has vs w k cl aw g f (join loop_names m x) (place_loop w k g f x m pl) b a s.0 bool r.0) (λ m. full_has vs w k cl aw g f (join loop_names m x) (place_loop w k g f x m pl) b h s.1 unit r.1))
  full_has vs w k cl aw g f x pl b (Then a h) s t r = seq_has w x (atom_tree k a) (full_tree k h) (meant f b t) (atom_has vs w k cl aw g f x pl b a s.0 unit r.0) (full_has vs w k cl aw g f x pl b h s.1 t r.1)

  funs_have : (vs : Variants) (w : World) (k : Known) → Closed vs w → Apart vs k → (g : Env) (f : ℕ → run.Ty) (x : Ctx) → Place w k g f x → (rs : PRBinds) → SecureBinds vs rs → (cs : Vars) → Aligned rs cs → BindsType g rs cs → (c : VarTypes) → Gives f f c cs → HasFuns w x (binds_tree k rs) c
  funs_have vs w k cl aw g f x pl NoBinds s cs al r c gv = tt
  funs_have vs w k cl aw g f x pl (MoreBinds (Plain y (Fun p e)) rs) s (OneVar z t cs) al r c gv =
      let h = r.0 in (
        meant f f h.0,
        meant f f h.1,
        ap (λ n. c (var n)) al.0 ∙ (gv.0 ∙ ap (λ u. Some (meant f f u)) h.3),
        inl (apat_always k p s.0.1.0),
        fun_has w k g f x pl f p (full_tree k e) h.0 (meant f f h.1) h.2 h.4 (apat_small g p h.0 h.2 h.4 s.0.1.1) h.5 h.6 (λ y pl1. full_has vs w k cl aw (put_vars h.2 g) f y pl1 f e s.0.1.2 h.1 h.7),
        funs_have vs w k cl aw g f x pl rs s.1 cs al.1 r.1 c gv.1,
      )
  funs_have vs w k cl aw g f x pl (MoreBinds (Plain y (Fun p e)) rs) s NoVars al r c gv = absurd r
  funs_have vs w k cl aw g f x pl (MoreBinds (Plain y (One a)) rs) s cs al r c gv = absurd s.0.1
  funs_have vs w k cl aw g f x pl (MoreBinds (Plain y (Call h a)) rs) s cs al r c gv = absurd s.0.1
  funs_have vs w k cl aw g f x pl (MoreBinds (Plain y (Build q a)) rs) s cs al r c gv = absurd s.0.1
  funs_have vs w k cl aw g f x pl (MoreBinds (Plain y (Oper a o d)) rs) s cs al r c gv = absurd s.0.1
  funs_have vs w k cl aw g f x pl (MoreBinds (Poly y ws v e) rs) s cs al r c gv = absurd s.0

  item_good : (vs : Variants) (b : Bool) (c : ℕ) (g : Env) (i : PItem) (e : ℕ) (d : Env) → first_stamp ≤ c → SecureItem vs b i → ItemBinds c g i e d → Tabled vs b c e (λ w. ItemGood vs w g i d)
  item_good vs b c g (Let p a) e d l s r = no_table vs b c e (λ w. ItemGood vs w g (Let p a) d) (λ w q cl. subst (ItemGood vs w g (Let p a)) (sym r.4) (λ k t aw. (
    fits_vars w Nobody r.0 Empty refl,
    λ f h e1 o more go v sv u.
        let pl : Place w k g f v.env = record { basic = q; fits = t; serves = sv } in
        let m = let_typed w k g f v.env pl p (simple_tree k a) r.0 (NonExpansive a) (λ j. SimpleTypes g a j) s.1 (λ n. simple_still k a (generalised_is_still a n)) (λ d1 pl1 j z. simple_has vs w k cl aw g d1 v.env pl1 d1 a s.2 j z) r.1 in
        let bd = renv.binds (pat_tree k p) in
        let n = go (joined bd m.own v) (vars_go f r.0 g v.env m.own bd m.bound m.small m.serve sv) (vars_go f r.0 h v.own m.own bd m.bound m.small m.serve u) in
        (n.0, (inl (pat_always k p s.0), m.type, m.has, m.own, m.binds, n.1), n.2, n.3),
  )))
  item_good vs b c g (LetRec rs) e d l s r = no_table vs b c e (λ w. ItemGood vs w g (LetRec rs) d) (λ w q cl. subst (ItemGood vs w g (LetRec rs)) (sym r.4) (λ k t aw. (
    fits_vars w Nobody r.0 Empty refl,
    λ f h e1 o more go v sv u.
        let pl : Place w k g f v.env = record { basic = q; fits = t; serves = sv } in
        let m = group_typed vs w k g f v.env pl rs r.0 s (λ d1 cs. BindsType d1 rs cs) (λ d1 n y pl1 cs al z c1 gv. funs_have vs w k cl aw d1 n y pl1 rs s cs al z c1 gv) r.1 in
        let bd = renv.names (binds_tree k rs) in
        let n = go (joined bd m.own v) (vars_go f r.0 g v.env m.own bd m.bound m.small m.serve sv) (vars_go f r.0 h v.own m.own bd m.bound m.small m.serve u) in
        (n.0, (m.own, m.has, n.1), n.2, n.3),
  )))
  item_good vs true c g (Types ds) e d l s r = (
    entry_table ds r.1,
    defs_closed vs (env.over (put_defs ds r.1 Empty) g) ds r.0 r.1 s.2 r.5,
    λ w q cl i. subst (ItemGood vs w g (Types ds)) (sym r.6) (λ k t aw. types_item vs w g ds (put_defs ds r.1 Empty) (defs_good vs w k g c e ds r.0 r.1 l t s.1 s.2 r.4 r.5 r.3 i) k t aw),
  )
  item_good vs false c g (Types ds) e d l s r = absurd (cc s.0)
  item_good vs b c g (Exn n p) e d l s r = no_table vs b c e (λ w. ItemGood vs w g (Exn n p) d) (λ w q cl. exn_item vs w g d n p r.0 s.0 r.1 r.3)
  item_good vs b c g (ExnAs n p) e d l s r = no_table vs b c e (λ w. ItemGood vs w g (ExnAs n p) d) (λ w q cl. exn_as_item vs w g d n p r.0 s.0 r.1 r.3)
  item_good vs b c g (Module m p) e d l s r = map_table vs b c e (λ w. ModGood vs w g m p r.0) (λ w. ItemGood vs w g (Module m p) d) (λ w h. item_module vs w g r.0 d m p r.2 h) (mod_good vs b c g m p e r.0 l s r.1)
  item_good vs b c g (Sealed m n p) e d l s r = absurd s
  item_good vs b c g (Functor m y n p) e d l s r = absurd s

  mod_good : (vs : Variants) (b : Bool) (c : ℕ) (g : Env) (m : Bytes) (p : PMExp) (e : ℕ) (d : Env) → first_stamp ≤ c → SecureMod vs b p → ModBinds c g p e d → Tabled vs b c e (λ w. ModGood vs w g m p d)
  mod_good vs b c g m (MAt q) e d l s r = no_table vs b c e (λ w. ModGood vs w g m (MAt q) d) (λ w i cl. mod_at_good vs w g d m q r.1)
  mod_good vs b c g m (Struct is) e d l s r = map_table vs b c e (λ w. RowGood vs w g is d) (λ w. ModGood vs w g m (Struct is) d) (λ w h. struct_good vs w g d m is h) (row_good vs b c g is e d l s r.0)
  mod_good vs b c g m (Apply h a) e d l s r = absurd s
  mod_good vs b c g m (MSeal p n) e d l s r = absurd s

  pub row_good : (vs : Variants) (b : Bool) (c : ℕ) (g : Env) (is : PItems) (e : ℕ) (d : Env) → first_stamp ≤ c → SecureItems vs b is → ItemsBind c g is e d → Tabled vs b c e (λ w. RowGood vs w g is d)
  row_good vs b c g NoItems e d l s r = no_table vs b c e (λ w. RowGood vs w g NoItems d) (λ w q cl. row_end vs w g d r.1)
  row_good vs b c g (MoreItems i is) e d l s r =
      let up = item_counts c g i r.0 r.1 r.3 in
      both_tables vs b c r.0 e (λ w. ItemGood vs w g i r.1) (λ w. RowGood vs w (env.over r.1 g) is r.2) (λ w. RowGood vs w g (MoreItems i is) d) up (items_count r.0 (env.over r.1 g) is e r.2 r.4)
      (λ w a h. row_more vs b w g r.1 r.2 d i is r.5 s.0 a h) (item_good vs b c g i r.0 r.1 l s.0 r.3) (row_good vs b r.0 (env.over r.1 g) is e r.2 (later first_stamp c r.0 l up) s.1 r.4)
