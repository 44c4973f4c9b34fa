-- A typed text that names nothing of String and Char types where these are not bound.
use Rattle.std.proofs.Common.{◌≡◌, ℕ, List, [], ◌∷◌, Option, Some, None, Bool, false, if◌then◌else◌, refl, sym, ap, ◌∙◌, subst}
use Rattle.std.specs.Prelude.{codes}
use Rattle.std.specs.Str.{bytes_eq}
use Rattle.oc_ast.specs.Plain.{Bytes, Long, Cons, PATy, PATys, NoATys, MoreATys, POTy, POTys, NoTys, MoreTys, TVar, TCon, TParen, TAt, TArrow, TTuple, PTDef, Alias, Variant, PAPat, Any, PVar, PConst, PCon, PUnit, PParen, PTuple, PNil, PCell, PAPats, NoPats, MorePats, PPat, PAt, PBuild, PCons, PAs, PAtom, Const, Val, Con, Nothing, Paren, Tuple, Items, PAtoms, NoAtoms, MoreAtoms, PArms, NoArms, MoreArms, PFull, Is, LetIn, LetRecIn, LetMod, LetExn, If, Match, Try, While, Then, PItem, Let, LetRec, Types, Exn, ExnAs, Module, Sealed, Functor, PItems, NoItems, MoreItems, PMExp, MAt, Struct, Apply, MSeal, PRBind, Plain, Poly, PRBinds, NoBinds, MoreBinds, PSimple, One, Call, Build, Oper, Fun}
use Rattle.oc_typing.specs.Ty as ty
use Rattle.oc_typing.specs.Ty.{Ty, Tys, Arrow, AtFresh, bool, exn, inst, list, unit}
use Rattle.oc_typing.specs.Env.{ConTy, Env, TyEntry, Empty, AddVal, AddCon, AddType, AddMod, at, con_at, con_of, in_module, mod_at, mod_of, over, type_of, val_of}
use Rattle.oc_typing.specs.Variables.{Vars, NoVars, OneVar, inst_vars, put_vars}
use Rattle.oc_typing.specs.Written.{TypeHas, PartReads, Reads, AllPartsRead, AllRead, ArgReads}
use Rattle.oc_typing.specs.Definitions.{ConsRead, DefIs, DefsAre, put_defs}
use Rattle.oc_typing.specs.Patterns.{ConHas, APatTypes, APatsType, PatTypes}
use Rattle.oc_typing.specs.OcTypes.{ValHas, raises, group, Named, AtomTypes, AtomsType, AllType, ArmsType, SimpleTypes, FullTypes, BindsType, BindTypes, ItemBinds, ItemsBind, ModBinds}
use Rattle.oc_typing.specs.OcText.{OcText, predefined}
use Rattle.oc_sound.specs.Clear.{ClearAPat, ClearAPats, ClearAll, ClearArg, ClearArms, ClearAtom, ClearAtoms, ClearBind, ClearBinds, ClearCons, ClearDef, ClearDefs, ClearFull, ClearItem, ClearItems, ClearMod, ClearModule, ClearPart, ClearParts, ClearPat, ClearPath, ClearSimple, ClearTy, IsOther}
use Rattle.oc_sound.proofs.Total.{TypesTotally, total}

-- ---- environments that differ in String and Char

record Same (g h : Env) : Type 0 where
  vals : (x : Bytes) → val_of x g ≡ val_of x h
  cons : (x : Bytes) → con_of x g ≡ con_of x h
  types : (x : Bytes) → type_of x g ≡ type_of x h
  mods : (x : Bytes) → IsOther x → mod_of x g ≡ mod_of x h

same_val : (x : Bytes) (u : Ty) (g h : Env) → Same g h → Same (AddVal x u g) (AddVal x u h)
same_val x u g h m = record { vals = λ y. ap (λ o. if bytes_eq y x then Some u else o) (m.vals y); cons = m.cons; types = m.types; mods = m.mods }

same_con : (x : Bytes) (c : ConTy) (g h : Env) → Same g h → Same (AddCon x c g) (AddCon x c h)
same_con x c g h m = record { vals = m.vals; cons = λ y. ap (λ o. if bytes_eq y x then Some c else o) (m.cons y); types = m.types; mods = m.mods }

same_type : (x : Bytes) (d : TyEntry) (g h : Env) → Same g h → Same (AddType x d g) (AddType x d h)
same_type x d g h m = record { vals = m.vals; cons = m.cons; types = λ y. ap (λ o. if bytes_eq y x then Some d else o) (m.types y); mods = m.mods }

same_mod : (x : Bytes) (b g h : Env) → Same g h → Same (AddMod x b g) (AddMod x b h)
same_mod x b g h m = record { vals = m.vals; cons = m.cons; types = m.types; mods = λ y o. ap (λ e. if bytes_eq y x then Some b else e) (m.mods y o) }

same_vars : (bs : Vars) (g h : Env) → Same g h → Same (put_vars bs g) (put_vars bs h)
same_vars NoVars g h m = m
same_vars (OneVar x t bs) g h m = same_vars bs (AddVal x t g) (AddVal x t h) (same_val x t g h m)

same_over : (d g h : Env) → Same g h → Same (over d g) (over d h)
same_over Empty g h m = m
same_over (AddVal x u d) g h m = same_val x u (over d g) (over d h) (same_over d g h m)
same_over (AddCon x c d) g h m = same_con x c (over d g) (over d h) (same_over d g h m)
same_over (AddType x t d) g h m = same_type x t (over d g) (over d h) (same_over d g h m)
same_over (AddMod x b d) g h m = same_mod x b (over d g) (over d h) (same_over d g h m)

path_same : {A : Type 0} (look : Bytes → Env → Option A) (q : Long) (g h : Env) → ((x : Bytes) → look x g ≡ look x h) → Same g h → ClearPath q → at look q g ≡ at look q h
path_same look [] g h k m z = refl
path_same look (x ∷ []) g h k m z = k x
path_same look (n ∷ x ∷ q) g h k m z = ap (λ o. in_module (λ b. at look (x ∷ q) b) o) (m.mods n z)

path_is : {A : Type 0} (look : Bytes → Env → Option A) (q : Long) (g h : Env) (a : A) → ((x : Bytes) → look x g ≡ look x h) → Same g h → ClearPath q → at look q g ≡ Some a → at look q h ≡ Some a
path_is look q g h a k m z e = sym (path_same look q g h k m z) ∙ e

mod_same : (q : Long) (g h : Env) → Same g h → ClearModule q → mod_at q g ≡ mod_at q h
mod_same [] g h m z = refl
mod_same (x ∷ []) g h m z = m.mods x z
mod_same (n ∷ x ∷ q) g h m z = ap (λ o. in_module (λ b. at mod_of (x ∷ q) b) o) (m.mods n z)

-- ---- typing

mutual
  part_reads : (vs : List Bytes) (g h : Env) → Same g h → (w : PATy) (t : Ty) → ClearPart w → PartReads vs g w t → PartReads vs h w t
  part_reads vs g h m (TVar v) t z r = r
  part_reads vs g h m (TCon ws q) t z r = (r.0, all_read vs g h m ws r.0 z.1 r.1, subst (λ o. TypeHas o r.0 t) (path_same type_of q g h m.types m z.0) r.2)
  part_reads vs g h m (TParen w) t z r = reads vs g h m w t z r

  reads : (vs : List Bytes) (g h : Env) → Same g h → (w : POTy) (t : Ty) → ClearTy w → Reads vs g w t → Reads vs h w t
  reads vs g h m (TAt w) t z r = part_reads vs g h m w t z r
  reads vs g h m (TArrow a b) t z r = (r.0, r.1, part_reads vs g h m a r.0 z.0 r.2, reads vs g h m b r.1 z.1 r.3, r.4)
  reads vs g h m (TTuple w ws) t z r = (r.0, r.1, part_reads vs g h m w r.0 z.0 r.2, all_parts_read vs g h m ws r.1 z.1 r.3, r.4)

  all_parts_read : (vs : List Bytes) (g h : Env) → Same g h → (ws : PATys) (ts : Tys) → ClearParts ws → AllPartsRead vs g ws ts → AllPartsRead vs h ws ts
  all_parts_read vs g h m NoATys ts z r = r
  all_parts_read vs g h m (MoreATys w ws) ts z r = (r.0, r.1, part_reads vs g h m w r.0 z.0 r.2, all_parts_read vs g h m ws r.1 z.1 r.3, r.4)

  all_read : (vs : List Bytes) (g h : Env) → Same g h → (ws : POTys) (ts : Tys) → ClearAll ws → AllRead vs g ws ts → AllRead vs h ws ts
  all_read vs g h m NoTys ts z r = r
  all_read vs g h m (MoreTys w ws) ts z r = (r.0, r.1, reads vs g h m w r.0 z.0 r.2, all_read vs g h m ws r.1 z.1 r.3, r.4)

arg_reads : (vs : List Bytes) (g h : Env) → Same g h → (w : Option PATy) (a : Option Ty) → ClearArg w → ArgReads vs g w a → ArgReads vs h w a
arg_reads vs g h m None a z r = r
arg_reads vs g h m (Some w) a z r = (r.0, part_reads vs g h m w r.0 z r.1, r.2)

cons_read : (vs : List Bytes) (g h : Env) → Same g h → (cs : Cons) (ks : List (Bytes × Option Ty)) → ClearCons cs → ConsRead vs g cs ks → ConsRead vs h cs ks
cons_read vs g h m [] ks z r = r
cons_read vs g h m (c ∷ cs) ks z r = (r.0, r.1, arg_reads vs g h m c.1 r.0 z.0 r.2, cons_read vs g h m cs r.1 z.1 r.3, r.4)

def_is : (g h : Env) → Same g h → (d : PTDef) (ss : List ℕ) (t : TyEntry) → ClearDef d → DefIs g d ss t → DefIs h d ss t
def_is g h m (Alias vs n w) ss t z r = (r.0, r.1, (r.2.0, reads vs g h m w r.2.0 z r.2.1, r.2.2))
def_is g h m (Variant vs n None cs) ss t z r = (r.0, (r.1.0, r.1.1, r.1.2, cons_read vs g h m cs r.1.1 z r.1.3, r.1.4))
def_is g h m (Variant vs n (Some w) cs) ss t z r = (r.0, r.1, (r.2.0, r.2.1, path_is type_of r.2.0 g h t m.types m (subst ClearTy r.2.1 z.0).0 r.2.2, r.2.3, cons_read vs g h m cs t.cons z.1 r.2.4))

defs_are : (g h : Env) → Same g h → (ds : List PTDef) (ss : List ℕ) (ts : List TyEntry) → ClearDefs ds → DefsAre g ds ss ts → DefsAre h ds ss ts
defs_are g h m [] ss ts z r = r
defs_are g h m (d ∷ ds) ss ts z r = (r.0, r.1, r.2, r.3, def_is g h m d r.0 r.2 z.0 r.4, defs_are g h m ds r.1 r.3 z.1 r.5, r.6, r.7)

-- ---- patterns

con_at_has : (g h : Env) → Same g h → (q : Long) (a : Option Ty) (t : Ty) → ClearPath q → ConHas (con_at q g) a t → ConHas (con_at q h) a t
con_at_has g h m q a t z w = subst (λ o. ConHas o a t) (path_same con_of q g h m.cons m z) w

mutual
  apat_types : (g h : Env) → Same g h → (p : PAPat) (t : Ty) (bs : Vars) → ClearAPat p → APatTypes g p t bs → APatTypes h p t bs
  apat_types g h m Any t bs z r = r
  apat_types g h m (PVar x) t bs z r = r
  apat_types g h m (PConst l) t bs z r = r
  apat_types g h m (PCon q) t bs z r = (con_at_has g h m q None t z r.0, r.1)
  apat_types g h m PUnit t bs z r = r
  apat_types g h m (PParen p) t bs z r = pat_types g h m p t bs z r
  apat_types g h m (PTuple p ps) t bs z r = (r.0, r.1, r.2, r.3, apat_types g h m p r.0 r.2 z.0 r.4, apats_type g h m ps r.1 r.3 z.1 r.5, r.6, r.7)
  apat_types g h m PNil t bs z r = r
  apat_types g h m (PCell p) t bs z r = (r.0, r.1, pat_types g h m p r.0 bs z r.2)

  apats_type : (g h : Env) → Same g h → (ps : PAPats) (ts : Tys) (bs : Vars) → ClearAPats ps → APatsType g ps ts bs → APatsType h ps ts bs
  apats_type g h m NoPats ts bs z r = r
  apats_type g h m (MorePats p ps) ts bs z r = (r.0, r.1, r.2, r.3, apat_types g h m p r.0 r.2 z.0 r.4, apats_type g h m ps r.1 r.3 z.1 r.5, r.6, r.7)

  pat_types : (g h : Env) → Same g h → (p : PPat) (t : Ty) (bs : Vars) → ClearPat p → PatTypes g p t bs → PatTypes h p t bs
  pat_types g h m (PAt p) t bs z r = apat_types g h m p t bs z r
  pat_types g h m (PBuild q p) t bs z r = (r.0, con_at_has g h m q (Some r.0) t z.0 r.1, apat_types g h m p r.0 bs z.1 r.2)
  pat_types g h m (PCons p q) t bs z r = (r.0, r.1, r.2, r.3, apat_types g h m p r.0 r.1 z.0 r.4, apat_types g h m q (list r.0) r.2 z.1 r.5, r.6)
  pat_types g h m (PAs p x) t bs z r = (r.0, apat_types g h m p t r.0 z r.1, r.2)

-- ---- expressions, modules and items

named : (g h : Env) → Same g h → (rs : PRBinds) (bs : Vars) → ClearBinds rs → Named g rs bs → Named h rs bs
named g h m NoBinds bs z r = r
named g h m (MoreBinds (Plain x e) rs) bs z r = (r.0, r.1, named g h m rs r.1 z.1 r.2, r.3)
named g h m (MoreBinds (Poly x vs w e) rs) bs z r = (r.0, r.1, r.2, reads vs g h m w r.0 z.0.0 r.3, named g h m rs r.1 z.1 r.4, r.5)

mutual
  atom_types : (g h : Env) → Same g h → (a : PAtom) (t : Ty) → ClearAtom a → AtomTypes g a t → AtomTypes h a t
  atom_types g h m (Const l) t z r = r
  atom_types g h m (Val q) t z r = subst (λ o. ValHas o t) (path_same val_of q g h m.vals m z) r
  atom_types g h m (Con q) t z r = con_at_has g h m q None t z r
  atom_types g h m Nothing t z r = r
  atom_types g h m (Paren f) t z r = full_types g h m f t z r
  atom_types g h m (Tuple a xs) t z r = (r.0, r.1, atom_types g h m a r.0 z.0 r.2, atoms_type g h m xs r.1 z.1 r.3, r.4)
  atom_types g h m (Items xs) t z r = (r.0, all_type g h m xs r.0 z r.1, r.2)

  atoms_type : (g h : Env) → Same g h → (xs : PAtoms) (ts : Tys) → ClearAtoms xs → AtomsType g xs ts → AtomsType h xs ts
  atoms_type g h m NoAtoms ts z r = r
  atoms_type g h m (MoreAtoms a xs) ts z r = (r.0, r.1, atom_types g h m a r.0 z.0 r.2, atoms_type g h m xs r.1 z.1 r.3, r.4)

  all_type : (g h : Env) → Same g h → (xs : PAtoms) (t : Ty) → ClearAtoms xs → AllType g xs t → AllType h xs t
  all_type g h m NoAtoms t z r = r
  all_type g h m (MoreAtoms a xs) t z r = (atom_types g h m a t z.0 r.0, all_type g h m xs t z.1 r.1)

  arms_type : (g h : Env) → Same g h → (arms : PArms) (a t : Ty) → ClearArms arms → ArmsType g arms a t → ArmsType h arms a t
  arms_type g h m NoArms a t z r = r
  arms_type g h m (MoreArms p b arms) a t z r = (
    (r.0.0, pat_types g h m p a r.0.0 z.0 r.0.1, r.0.2, r.0.3, atom_types (put_vars r.0.0 g) (put_vars r.0.0 h) (same_vars r.0.0 g h m) b t z.1 r.0.4),
    arms_type g h m arms a t z.2 r.1,
  )

  simple_types : (g h : Env) → Same g h → (e : PSimple) (t : Ty) → ClearSimple e → SimpleTypes g e t → SimpleTypes h e t
  simple_types g h m (One a) t z r = atom_types g h m a t z r
  simple_types g h m (Call f a) t z r = (r.0, atom_types g h m f (Arrow r.0 t) z.0 r.1, atom_types g h m a r.0 z.1 r.2)
  simple_types g h m (Build q a) t z r = (r.0, con_at_has g h m q (Some r.0) t z.0 r.1, atom_types g h m a r.0 z.1 r.2)
  simple_types g h m (Oper a o b) t z r = (r.0, r.1, r.2, atom_types g h m a r.0 z.0 r.3, atom_types g h m b r.1 z.1 r.4)
  simple_types g h m (Fun p f) t z r = (
    r.0,
    r.1,
    r.2,
    r.3,
    apat_types g h m p r.0 r.2 z.0 r.4,
    r.5,
    r.6,
    full_types (put_vars r.2 g) (put_vars r.2 h) (same_vars r.2 g h m) f r.1 z.1 r.7,
  )

  full_types : (g h : Env) → Same g h → (f : PFull) (t : Ty) → ClearFull f → FullTypes g f t → FullTypes h f t
  full_types g h m (Is e) t z r = simple_types g h m e t z r
  full_types g h m (LetIn p e f) t z r = (
    r.0,
    (
      r.1.0,
      r.1.1,
      (
        r.1.2.0,
        λ v i l. let w = r.1.2.1 v i l in (simple_types g h m e (inst (λ j. ty.Var (v j)) r.1.0) z.1 w.0, pat_types g h m p (inst (λ j. ty.Var (v j)) r.1.0) (inst_vars (λ j. ty.Var (v j)) r.0) z.0 w.1),
      ),
      r.1.3,
    ),
    full_types (put_vars r.0 g) (put_vars r.0 h) (same_vars r.0 g h m) f t z.2 r.2,
  )
  full_types g h m (LetRecIn rs f) t z r = (
    r.0,
    (
      named g h m rs r.0 z.0 r.1.0,
      (r.1.1.0, λ v i l. let us : ℕ → Ty = λ j. ty.Var (v j) in binds_type (put_vars (group us rs r.0) g) (put_vars (group us rs r.0) h) (same_vars (group us rs r.0) g h m) rs (group us rs r.0) z.0 (r.1.1.1 v i l)),
      r.1.2,
    ),
    full_types (put_vars r.0 g) (put_vars r.0 h) (same_vars r.0 g h m) f t z.1 r.2,
  )
  full_types g h m (LetMod n is f) t z r = (
    r.0,
    λ c l. let w = r.1 c l in (w.0, w.1, items_bind g h m c is w.0 w.1 z.0 w.2, w.3, full_types (AddMod n w.1 g) (AddMod n w.1 h) (same_mod n w.1 g h m) f t z.1 w.4),
  )
  full_types g h m (LetExn n w f) t z r = (r.0, arg_reads [] g h m w r.0 z.0 r.1, full_types (AddCon n (raises r.0) g) (AddCon n (raises r.0) h) (same_con n (raises r.0) g h m) f t z.1 r.2)
  full_types g h m (If a b c) t z r = (atom_types g h m a bool z.0 r.0, atom_types g h m b t z.1 r.1, atom_types g h m c t z.2 r.2)
  full_types g h m (Match a arms) t z r = (r.0, atom_types g h m a r.0 z.0 r.1, arms_type g h m arms r.0 t z.1 r.2)
  full_types g h m (Try a arms) t z r = (atom_types g h m a t z.0 r.0, arms_type g h m arms exn t z.1 r.1)
  full_types g h m (While a f) t z r = (atom_types g h m a bool z.0 r.0, full_types g h m f unit z.1 r.1, r.2)
  full_types g h m (Then a f) t z r = (atom_types g h m a unit z.0 r.0, full_types g h m f t z.1 r.1)

  binds_type : (g h : Env) → Same g h → (rs : PRBinds) (bs : Vars) → ClearBinds rs → BindsType g rs bs → BindsType h rs bs
  binds_type g h m NoBinds bs z r = r
  binds_type g h m (MoreBinds b rs) NoVars z r = r
  binds_type g h m (MoreBinds b rs) (OneVar y t bs) z r = (bind_types g h m b t z.0 r.0, binds_type g h m rs bs z.1 r.1)

  bind_types : (g h : Env) → Same g h → (b : PRBind) (t : Ty) → ClearBind b → BindTypes g b t → BindTypes h b t
  bind_types g h m (Plain x e) t z r = simple_types g h m e t z r
  bind_types g h m (Poly x vs w e) t z r = (r.0, λ v i l. simple_types g h m e (inst (λ j. ty.Var (v j)) t) z.1 (r.1 v i l))

  item_binds : (g h : Env) → Same g h → (c : ℕ) (i : PItem) (c2 : ℕ) (d : Env) → ClearItem i → ItemBinds c g i c2 d → ItemBinds c h i c2 d
  item_binds g h m c (Let p e) c2 d z r = (
    r.0,
    (
      r.1.0,
      r.1.1,
      (
        r.1.2.0,
        λ v i l. let w = r.1.2.1 v i l in (simple_types g h m e (inst (λ j. ty.Var (v j)) r.1.0) z.1 w.0, pat_types g h m p (inst (λ j. ty.Var (v j)) r.1.0) (inst_vars (λ j. ty.Var (v j)) r.0) z.0 w.1),
      ),
      r.1.3,
    ),
    r.2,
    r.3,
    r.4,
  )
  item_binds g h m c (LetRec rs) c2 d z r = (
    r.0,
    (
      named g h m rs r.0 z r.1.0,
      (r.1.1.0, λ v i l. let us : ℕ → Ty = λ j. ty.Var (v j) in binds_type (put_vars (group us rs r.0) g) (put_vars (group us rs r.0) h) (same_vars (group us rs r.0) g h m) rs (group us rs r.0) z (r.1.1.1 v i l)),
      r.1.2,
    ),
    r.2,
    r.3,
    r.4,
  )
  item_binds g h m c (Types ds) c2 d z r = (
    r.0,
    r.1,
    r.2,
    r.3,
    r.4,
    defs_are (over (put_defs ds r.1 Empty) g) (over (put_defs ds r.1 Empty) h) (same_over (put_defs ds r.1 Empty) g h m) ds r.0 r.1 z r.5,
    r.6,
  )
  item_binds g h m c (Exn n w) c2 d z r = (r.0, arg_reads [] g h m w r.0 z r.1, r.2, r.3)
  item_binds g h m c (ExnAs n q) c2 d z r = (r.0, path_is con_of q g h (raises r.0) m.cons m z r.1, r.2, r.3)
  item_binds g h m c (Module n o) c2 d z r = (r.0, mod_binds g h m c o c2 r.0 z r.1, r.2)
  item_binds g h m c (Sealed n s o) c2 d z r = r
  item_binds g h m c (Functor f x s o) c2 d z r = r

  items_bind : (g h : Env) → Same g h → (c : ℕ) (is : PItems) (c2 : ℕ) (d : Env) → ClearItems is → ItemsBind c g is c2 d → ItemsBind c h is c2 d
  items_bind g h m c NoItems c2 d z r = r
  items_bind g h m c (MoreItems i is) c2 d z r = (r.0, r.1, r.2, item_binds g h m c i r.0 r.1 z.0 r.3, items_bind (over r.1 g) (over r.1 h) (same_over r.1 g h m) r.0 is c2 r.2 z.1 r.4, r.5)

  mod_binds : (g h : Env) → Same g h → (c : ℕ) (o : PMExp) (c2 : ℕ) (b : Env) → ClearMod o → ModBinds c g o c2 b → ModBinds c h o c2 b
  mod_binds g h m c (MAt q) c2 b z r = (r.0, sym (mod_same q g h m z) ∙ r.1)
  mod_binds g h m c (Struct is) c2 b z r = (items_bind g h m c is c2 b z r.0, r.1)
  mod_binds g h m c (Apply f a) c2 b z r = r
  mod_binds g h m c (MSeal o s) c2 b z r = r

-- ---- texts

total_same : Same predefined total
total_same = record { vals = λ x. refl; cons = λ x. refl; types = λ x. refl; mods = λ x o. mods x o }
  where
    skip : {A : Type 0} (b c : Bool) (a d : A) → b ≡ false → c ≡ false → (if b then Some a else (if c then Some d else None)) ≡ None
    skip b c a d p q = ap (λ i. if i then Some a else (if c then Some d else None)) p ∙ ap (λ i. if i then Some d else None) q

    mods : (x : Bytes) → IsOther x → mod_of x predefined ≡ None
    mods x o = skip (bytes_eq x (codes "String")) (bytes_eq x (codes "Char")) _ _ o.0 o.1

pub clear_totally : (text : PItems) (d : Env) → OcText text d → ClearItems text → TypesTotally text d
clear_totally text d r z = (r.0, items_bind predefined total total_same _ text r.0 d z r.1, r.2)
