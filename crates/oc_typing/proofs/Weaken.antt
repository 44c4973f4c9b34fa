-- What types where names are bound types where more are bound.
use Rattle.std.proofs.Common.{◌≡◌, ℕ, List, [], ◌∷◌, Option, Some, None, refl, sym, subst}
use Rattle.oc_ast.specs.Plain.{Bytes, Long, Cons, PATy, PATys, NoATys, MoreATys, POTy, POTys, NoTys, MoreTys, TVar, TCon, TParen, TAt, TArrow, TTuple, PTDef, Alias, Variant, PAPat, Any, PVar, PConst, PCon, PUnit, PParen, PTuple, PNil, PCell, PAPats, NoPats, MorePats, PPat, PAt, PBuild, PCons, PAs, PAtom, Const, Val, Con, Nothing, Paren, Tuple, Items, PAtoms, NoAtoms, MoreAtoms, PArms, NoArms, MoreArms, PFull, Is, LetIn, LetRecIn, LetMod, LetExn, If, Match, Try, While, Then, PItem, Let, LetRec, Types, Exn, ExnAs, Module, Sealed, Functor, PItems, NoItems, MoreItems, PMExp, MAt, Struct, Apply, MSeal, PRBind, Plain, Poly, PRBinds, NoBinds, MoreBinds, PSimple, One, Call, Build, Oper, Fun}
use Rattle.oc_typing.specs.Ty as ty
use Rattle.oc_typing.specs.Ty.{Ty, Tys, Arrow, AtFresh, bool, exn, inst, list, unit}
use Rattle.oc_typing.specs.Env.{ConTy, Env, TyEntry, Empty, AddCon, AddMod, val_at, con_at, type_at, over}
use Rattle.oc_typing.specs.Variables.{Vars, NoVars, OneVar, inst_vars, put_vars}
use Rattle.oc_typing.specs.Written.{TypeHas, PartReads, Reads, AllPartsRead, AllRead, ArgReads}
use Rattle.oc_typing.specs.Definitions.{ConsRead, DefIs, DefsAre, put_defs}
use Rattle.oc_typing.specs.Patterns.{ConHas, APatTypes, APatsType, PatTypes}
use Rattle.oc_typing.specs.OcTypes.{ValHas, raises, group, Named, AtomTypes, AtomsType, AllType, ArmsType, SimpleTypes, FullTypes, BindsType, BindTypes, ItemBinds, ItemsBind, ModBinds}
use Rattle.oc_typing.specs.More.{More}
use Rattle.oc_typing.proofs.Lookups.{more_con, more_mod, more_vars, more_over, val_more, con_more, type_more, mod_more}

-- ---- written types

type_has : (o p : Option TyEntry) (ts : Tys) (t : Ty) → ((d : TyEntry) → o ≡ Some d → p ≡ Some d) → TypeHas o ts t → TypeHas p ts t
type_has None p ts t k w = absurd w
type_has (Some d) p ts t k w = subst (λ o. TypeHas o ts t) (sym (k d refl)) w

mutual
  pub part_reads : (vs : List Bytes) (g h : Env) → More g h → (w : PATy) (t : Ty) → PartReads vs g w t → PartReads vs h w t
  part_reads vs g h m (TVar v) t r = r
  part_reads vs g h m (TCon ws q) t r = (r.0, all_read vs g h m ws r.0 r.1, type_has (type_at q g) (type_at q h) r.0 t (λ d e. type_more q g h d m e) r.2)
  part_reads vs g h m (TParen w) t r = reads vs g h m w t r

  pub reads : (vs : List Bytes) (g h : Env) → More g h → (w : POTy) (t : Ty) → Reads vs g w t → Reads vs h w t
  reads vs g h m (TAt w) t r = part_reads vs g h m w t r
  reads vs g h m (TArrow a b) t r = (r.0, r.1, part_reads vs g h m a r.0 r.2, reads vs g h m b r.1 r.3, r.4)
  reads vs g h m (TTuple w ws) t r = (r.0, r.1, part_reads vs g h m w r.0 r.2, all_parts_read vs g h m ws r.1 r.3, r.4)

  pub all_parts_read : (vs : List Bytes) (g h : Env) → More g h → (ws : PATys) (ts : Tys) → AllPartsRead vs g ws ts → AllPartsRead vs h ws ts
  all_parts_read vs g h m NoATys ts r = r
  all_parts_read vs g h m (MoreATys w ws) ts r = (r.0, r.1, part_reads vs g h m w r.0 r.2, all_parts_read vs g h m ws r.1 r.3, r.4)

  pub all_read : (vs : List Bytes) (g h : Env) → More g h → (ws : POTys) (ts : Tys) → AllRead vs g ws ts → AllRead vs h ws ts
  all_read vs g h m NoTys ts r = r
  all_read vs g h m (MoreTys w ws) ts r = (r.0, r.1, reads vs g h m w r.0 r.2, all_read vs g h m ws r.1 r.3, r.4)

pub arg_reads : (vs : List Bytes) (g h : Env) → More g h → (w : Option PATy) (a : Option Ty) → ArgReads vs g w a → ArgReads vs h w a
arg_reads vs g h m None a r = r
arg_reads vs g h m (Some w) a r = (r.0, part_reads vs g h m w r.0 r.1, r.2)

cons_read : (vs : List Bytes) (g h : Env) → More g h → (cs : Cons) (ks : List (Bytes × Option Ty)) → ConsRead vs g cs ks → ConsRead vs h cs ks
cons_read vs g h m [] ks r = r
cons_read vs g h m (c ∷ cs) ks r = (r.0, r.1, arg_reads vs g h m c.1 r.0 r.2, cons_read vs g h m cs r.1 r.3, r.4)

def_is : (g h : Env) → More g h → (d : PTDef) (ss : List ℕ) (t : TyEntry) → DefIs g d ss t → DefIs h d ss t
def_is g h m (Alias vs n w) ss t r = (r.0, r.1, (r.2.0, reads vs g h m w r.2.0 r.2.1, r.2.2))
def_is g h m (Variant vs n None cs) ss t r = (r.0, (r.1.0, r.1.1, r.1.2, cons_read vs g h m cs r.1.1 r.1.3, r.1.4))
def_is g h m (Variant vs n (Some w) cs) ss t r = (r.0, r.1, (r.2.0, r.2.1, type_more r.2.0 g h t m r.2.2, r.2.3, cons_read vs g h m cs t.cons r.2.4))

defs_are : (g h : Env) → More g h → (ds : List PTDef) (ss : List ℕ) (ts : List TyEntry) → DefsAre g ds ss ts → DefsAre h ds ss ts
defs_are g h m [] ss ts r = r
defs_are g h m (d ∷ ds) ss ts r = (r.0, r.1, r.2, r.3, def_is g h m d r.0 r.2 r.4, defs_are g h m ds r.1 r.3 r.5, r.6, r.7)

-- ---- patterns

con_has : (o p : Option ConTy) (a : Option Ty) (t : Ty) → ((c : ConTy) → o ≡ Some c → p ≡ Some c) → ConHas o a t → ConHas p a t
con_has None p a t k w = absurd w
con_has (Some c) p a t k w = subst (λ o. ConHas o a t) (sym (k c refl)) w

pub con_at_has : (g h : Env) → More g h → (q : Long) (a : Option Ty) (t : Ty) → ConHas (con_at q g) a t → ConHas (con_at q h) a t
con_at_has g h m q a t w = con_has (con_at q g) (con_at q h) a t (λ c e. con_more q g h c m e) w

mutual
  pub apat_types : (g h : Env) → More g h → (p : PAPat) (t : Ty) (bs : Vars) → APatTypes g p t bs → APatTypes h p t bs
  apat_types g h m Any t bs r = r
  apat_types g h m (PVar x) t bs r = r
  apat_types g h m (PConst l) t bs r = r
  apat_types g h m (PCon q) t bs r = (con_at_has g h m q None t r.0, r.1)
  apat_types g h m PUnit t bs r = r
  apat_types g h m (PParen p) t bs r = pat_types g h m p t bs r
  apat_types g h m (PTuple p ps) t bs r = (r.0, r.1, r.2, r.3, apat_types g h m p r.0 r.2 r.4, apats_type g h m ps r.1 r.3 r.5, r.6, r.7)
  apat_types g h m PNil t bs r = r
  apat_types g h m (PCell p) t bs r = (r.0, r.1, pat_types g h m p r.0 bs r.2)

  pub apats_type : (g h : Env) → More g h → (ps : PAPats) (ts : Tys) (bs : Vars) → APatsType g ps ts bs → APatsType h ps ts bs
  apats_type g h m NoPats ts bs r = r
  apats_type g h m (MorePats p ps) ts bs r = (r.0, r.1, r.2, r.3, apat_types g h m p r.0 r.2 r.4, apats_type g h m ps r.1 r.3 r.5, r.6, r.7)

  pub pat_types : (g h : Env) → More g h → (p : PPat) (t : Ty) (bs : Vars) → PatTypes g p t bs → PatTypes h p t bs
  pat_types g h m (PAt p) t bs r = apat_types g h m p t bs r
  pat_types g h m (PBuild q p) t bs r = (r.0, con_at_has g h m q (Some r.0) t r.1, apat_types g h m p r.0 bs r.2)
  pat_types g h m (PCons p q) t bs r = (r.0, r.1, r.2, r.3, apat_types g h m p r.0 r.1 r.4, apat_types g h m q (list r.0) r.2 r.5, r.6)
  pat_types g h m (PAs p x) t bs r = (r.0, apat_types g h m p t r.0 r.1, r.2)

-- ---- expressions, modules and items

val_has : (o p : Option Ty) (t : Ty) → ((u : Ty) → o ≡ Some u → p ≡ Some u) → ValHas o t → ValHas p t
val_has None p t k w = absurd w
val_has (Some u) p t k w = subst (λ o. ValHas o t) (sym (k u refl)) w

named : (g h : Env) → More g h → (rs : PRBinds) (bs : Vars) → Named g rs bs → Named h rs bs
named g h m NoBinds bs r = r
named g h m (MoreBinds (Plain x e) rs) bs r = (r.0, r.1, named g h m rs r.1 r.2, r.3)
named g h m (MoreBinds (Poly x vs w e) rs) bs r = (r.0, r.1, r.2, reads vs g h m w r.0 r.3, named g h m rs r.1 r.4, r.5)

mutual
  pub atom_types : (g h : Env) → More g h → (a : PAtom) (t : Ty) → AtomTypes g a t → AtomTypes h a t
  atom_types g h m (Const l) t r = r
  atom_types g h m (Val q) t r = val_has (val_at q g) (val_at q h) t (λ u e. val_more q g h u m e) r
  atom_types g h m (Con q) t r = con_at_has g h m q None t r
  atom_types g h m Nothing t r = r
  atom_types g h m (Paren f) t r = full_types g h m f t r
  atom_types g h m (Tuple a xs) t r = (r.0, r.1, atom_types g h m a r.0 r.2, atoms_type g h m xs r.1 r.3, r.4)
  atom_types g h m (Items xs) t r = (r.0, all_type g h m xs r.0 r.1, r.2)

  pub atoms_type : (g h : Env) → More g h → (xs : PAtoms) (ts : Tys) → AtomsType g xs ts → AtomsType h xs ts
  atoms_type g h m NoAtoms ts r = r
  atoms_type g h m (MoreAtoms a xs) ts r = (r.0, r.1, atom_types g h m a r.0 r.2, atoms_type g h m xs r.1 r.3, r.4)

  pub all_type : (g h : Env) → More g h → (xs : PAtoms) (t : Ty) → AllType g xs t → AllType h xs t
  all_type g h m NoAtoms t r = r
  all_type g h m (MoreAtoms a xs) t r = (atom_types g h m a t r.0, all_type g h m xs t r.1)

  pub arms_type : (g h : Env) → More g h → (arms : PArms) (a t : Ty) → ArmsType g arms a t → ArmsType h arms a t
  arms_type g h m NoArms a t r = r
  arms_type g h m (MoreArms p b arms) a t r = (
    (r.0.0, pat_types g h m p a r.0.0 r.0.1, r.0.2, r.0.3, atom_types (put_vars r.0.0 g) (put_vars r.0.0 h) (more_vars r.0.0 g h m) b t r.0.4),
    arms_type g h m arms a t r.1,
  )

  pub simple_types : (g h : Env) → More g h → (e : PSimple) (t : Ty) → SimpleTypes g e t → SimpleTypes h e t
  simple_types g h m (One a) t r = atom_types g h m a t r
  simple_types g h m (Call f a) t r = (r.0, atom_types g h m f (Arrow r.0 t) r.1, atom_types g h m a r.0 r.2)
  simple_types g h m (Build q a) t r = (r.0, con_at_has g h m q (Some r.0) t r.1, atom_types g h m a r.0 r.2)
  simple_types g h m (Oper a o b) t r = (r.0, r.1, r.2, atom_types g h m a r.0 r.3, atom_types g h m b r.1 r.4)
  simple_types g h m (Fun p f) t r = (
    r.0,
    r.1,
    r.2,
    r.3,
    apat_types g h m p r.0 r.2 r.4,
    r.5,
    r.6,
    full_types (put_vars r.2 g) (put_vars r.2 h) (more_vars r.2 g h m) f r.1 r.7,
  )

  pub full_types : (g h : Env) → More g h → (f : PFull) (t : Ty) → FullTypes g f t → FullTypes h f t
  full_types g h m (Is e) t r = simple_types g h m e t r
  full_types g h m (LetIn p e f) t r = (
    r.0,
    (
      r.1.0,
      r.1.1,
      (
        r.1.2.0,
        λ v i l. let w = r.1.2.1 v i l in (simple_types g h m e (inst (λ j. ty.Var (v j)) r.1.0) w.0, pat_types g h m p (inst (λ j. ty.Var (v j)) r.1.0) (inst_vars (λ j. ty.Var (v j)) r.0) w.1),
      ),
      r.1.3,
    ),
    full_types (put_vars r.0 g) (put_vars r.0 h) (more_vars r.0 g h m) f t r.2,
  )
  full_types g h m (LetRecIn rs f) t r = (
    r.0,
    (
      named g h m rs r.0 r.1.0,
      (r.1.1.0, λ v i l. let us : ℕ → Ty = λ j. ty.Var (v j) in binds_type (put_vars (group us rs r.0) g) (put_vars (group us rs r.0) h) (more_vars (group us rs r.0) g h m) rs (group us rs r.0) (r.1.1.1 v i l)),
      r.1.2,
    ),
    full_types (put_vars r.0 g) (put_vars r.0 h) (more_vars r.0 g h m) f t r.2,
  )
  full_types g h m (LetMod n is f) t r = (
    r.0,
    λ c l. let w = r.1 c l in (w.0, w.1, items_bind g h m c is w.0 w.1 w.2, w.3, full_types (AddMod n w.1 g) (AddMod n w.1 h) (more_mod n w.1 g h m) f t w.4),
  )
  full_types g h m (LetExn n w f) t r = (r.0, arg_reads [] g h m w r.0 r.1, full_types (AddCon n (raises r.0) g) (AddCon n (raises r.0) h) (more_con n (raises r.0) g h m) f t r.2)
  full_types g h m (If a b c) t r = (atom_types g h m a bool r.0, atom_types g h m b t r.1, atom_types g h m c t r.2)
  full_types g h m (Match a arms) t r = (r.0, atom_types g h m a r.0 r.1, arms_type g h m arms r.0 t r.2)
  full_types g h m (Try a arms) t r = (atom_types g h m a t r.0, arms_type g h m arms exn t r.1)
  full_types g h m (While a f) t r = (atom_types g h m a bool r.0, full_types g h m f unit r.1, r.2)
  full_types g h m (Then a f) t r = (atom_types g h m a unit r.0, full_types g h m f t r.1)

  pub binds_type : (g h : Env) → More g h → (rs : PRBinds) (bs : Vars) → BindsType g rs bs → BindsType h rs bs
  binds_type g h m NoBinds bs r = r
  binds_type g h m (MoreBinds b rs) NoVars r = r
  binds_type g h m (MoreBinds b rs) (OneVar y t bs) r = (bind_types g h m b t r.0, binds_type g h m rs bs r.1)

  pub bind_types : (g h : Env) → More g h → (b : PRBind) (t : Ty) → BindTypes g b t → BindTypes h b t
  bind_types g h m (Plain x e) t r = simple_types g h m e t r
  bind_types g h m (Poly x vs w e) t r = (r.0, λ v i l. simple_types g h m e (inst (λ j. ty.Var (v j)) t) (r.1 v i l))

  pub item_binds : (g h : Env) → More g h → (c : ℕ) (i : PItem) (c2 : ℕ) (d : Env) → ItemBinds c g i c2 d → ItemBinds c h i c2 d
  item_binds g h m c (Let p e) c2 d r = (
    r.0,
    (
      r.1.0,
      r.1.1,
      (
        r.1.2.0,
        λ v i l. let w = r.1.2.1 v i l in (simple_types g h m e (inst (λ j. ty.Var (v j)) r.1.0) w.0, pat_types g h m p (inst (λ j. ty.Var (v j)) r.1.0) (inst_vars (λ j. ty.Var (v j)) r.0) w.1),
      ),
      r.1.3,
    ),
    r.2,
    r.3,
    r.4,
  )
  item_binds g h m c (LetRec rs) c2 d r = (
    r.0,
    (
      named g h m rs r.0 r.1.0,
      (r.1.1.0, λ v i l. let us : ℕ → Ty = λ j. ty.Var (v j) in binds_type (put_vars (group us rs r.0) g) (put_vars (group us rs r.0) h) (more_vars (group us rs r.0) g h m) rs (group us rs r.0) (r.1.1.1 v i l)),
      r.1.2,
    ),
    r.2,
    r.3,
    r.4,
  )
  item_binds g h m c (Types ds) c2 d r = (
    r.0,
    r.1,
    r.2,
    r.3,
    r.4,
    defs_are (over (put_defs ds r.1 Empty) g) (over (put_defs ds r.1 Empty) h) (more_over (put_defs ds r.1 Empty) g h m) ds r.0 r.1 r.5,
    r.6,
  )
  item_binds g h m c (Exn n w) c2 d r = (r.0, arg_reads [] g h m w r.0 r.1, r.2, r.3)
  item_binds g h m c (ExnAs n q) c2 d r = (r.0, con_more q g h (raises r.0) m r.1, r.2, r.3)
  item_binds g h m c (Module n o) c2 d r = (r.0, mod_binds g h m c o c2 r.0 r.1, r.2)
  item_binds g h m c (Sealed n s o) c2 d r = r
  item_binds g h m c (Functor f x s o) c2 d r = r

  pub items_bind : (g h : Env) → More g h → (c : ℕ) (is : PItems) (c2 : ℕ) (d : Env) → ItemsBind c g is c2 d → ItemsBind c h is c2 d
  items_bind g h m c NoItems c2 d r = r
  items_bind g h m c (MoreItems i is) c2 d r = (r.0, r.1, r.2, item_binds g h m c i r.0 r.1 r.3, items_bind (over r.1 g) (over r.1 h) (more_over r.1 g h m) r.0 is c2 r.2 r.4, r.5)

  pub mod_binds : (g h : Env) → More g h → (c : ℕ) (o : PMExp) (c2 : ℕ) (b : Env) → ModBinds c g o c2 b → ModBinds c h o c2 b
  mod_binds g h m c (MAt q) c2 b r = (r.0, mod_more q g h b m r.1)
  mod_binds g h m c (Struct is) c2 b r = (items_bind g h m c is c2 b r.0, r.1)
  mod_binds g h m c (Apply f a) c2 b r = r
  mod_binds g h m c (MSeal o s) c2 b r = r
