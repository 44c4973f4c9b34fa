-- A pattern of a text is typed as a pattern of runs, and binds the same variables.
use Rattle.std.proofs.Common.{◌≡◌, ℕ, inl, inr, Option, Some, None, Bool, true, false, if◌then◌else◌, refl, sym, ap, ap₂, ◌∙◌, subst}
use Rattle.std.proofs.lemmas.Slice.Eq.{bytes_eq-Decides}
use Rattle.oc_ast.specs.declared.literal.OcLit.{OcLit}
use Rattle.oc_ast.specs.declared.literal.OcLit.TheVariants as lit
use Rattle.oc_ast.specs.Plain.{Bytes, Long, PAPat, Any, PVar, PConst, PCon, PUnit, PParen, PTuple, PNil, PCell, PAPats, NoPats, MorePats, PPat, PAt, PBuild, PCons, PAs}
use Rattle.oc_typing.specs.Ty.{Ty, Tys, list}
use Rattle.oc_typing.specs.Env.{Env}
use Rattle.oc_typing.specs.Variables.{Differ, NoVars, OneVar, Vars, VarsClosed, joined}
use Rattle.oc_typing.specs.Patterns.{APatTypes, APatsType, PatTypes, literal_type}
use Rattle.oc_steps.specs.Known.{Known, is_exception}
use Rattle.oc_steps.specs.View.{apat_tree, apats_tree, con_pat, con_tree, const_of, pat_tree}
use Rattle.run_types.specs.Types as run
use Rattle.run_types.specs.Types.{Binds, ConsT, Ctx, Has, HasAll, HasPat, HasPats, Mono, NilT, TData, TNam, Types, UseAt, World, const_ty, join, mono, monos}
use Rattle.runs.specs.Env.{binds, binds_any}
use Rattle.runs.specs.Forms.{var}
use Rattle.runs.specs.Names.{Name, same}
use Rattle.runs.specs.Tree as tree
use Rattle.oc_sound.proofs.Fitting.{ConMeans, con_means}
use Rattle.oc_sound.proofs.Meanings.{meant_closed}
use Rattle.oc_sound.proofs.Names.{AllSmall, IsBound, assoc, assoc_bound, bound_closed, bound_in, joined_bound, joined_small, or_none}
use Rattle.oc_sound.proofs.Serving.{VarsServe}
use Rattle.oc_sound.specs.Meant.{all_meant, meant}
use Rattle.oc_sound.specs.Secure.{EachSmallNames, PatSmallNames, SmallNames}
use Rattle.oc_sound.specs.Served.{Place}

pub literal_ty : (f b : ℕ → run.Ty) (l : OcLit) → meant f b (literal_type l) ≡ const_ty (const_of l)
literal_ty f b (lit.Int z) = refl
literal_ty f b (lit.Char c) = refl
literal_ty f b (lit.Text s) = refl

-- ---- constructors

pub con_pat_has : (w : World) (x : Ctx) (q : Long) (e : Bool) (ts : run.Tys) (t : run.Ty) (ps : tree.Pats) (c : Types) → ConMeans w x q e ts t → HasPats w x ps ts c → HasPat w x (con_pat e q ps) t c
con_pat_has w x q e ts t ps c (inl m) h = subst (λ i. HasPat w x (con_pat i q ps) t c) (sym m.0) (ts, m.1, m.2, h)
con_pat_has w x q e ts t ps c (inr m) h = subst (λ i. HasPat w x (con_pat i q ps) t c) (sym m.0) (m.1, true, m.2, m.3, m.4, m.6, subst (λ us. HasPats w x ps us c) m.5 h)

pub con_tree_has : (w : World) (x : Ctx) (q : Long) (e : Bool) (ts : run.Tys) (t : run.Ty) (es : tree.Exps) → ConMeans w x q e ts t → HasAll w x es ts → Has w x (con_tree e q es) t
con_tree_has w x q e ts t es (inl m) h = subst (λ i. Has w x (con_tree i q es) t) (sym m.0) (ConsT (TNam ts) ts, (m.1, h), (ts, refl, m.2))
con_tree_has w x q e ts t es (inr m) h = subst (λ i. Has w x (con_tree i q es) t) (sym m.0) (ts, h, (m.1, true, m.2, m.3, m.4, m.5, m.6))

-- ---- the types of variables

abbrev pub Gives : (ℕ → run.Ty) → (ℕ → run.Ty) → Types → Vars → Type 0
Gives f b c NoVars = Unit {0}
Gives f b c (OneVar y t bs) = (c (var y) ≡ Some (meant f b t)) × Gives f b c bs

gives_each : (f b : ℕ → run.Ty) (c : Types) (bs : Vars) → ((y : Bytes) (t : Ty) → IsBound y t bs → c (var y) ≡ Some (meant f b t)) → Gives f b c bs
gives_each f b c NoVars h = tt
gives_each f b c (OneVar y t bs) h = (h y t (inl ((bytes_eq-Decides y y).1 refl, refl)), gives_each f b c bs (λ z u i. h z u (inr i)))

pub gives_own : (f b : ℕ → run.Ty) (bs : Vars) → Differ bs → Gives f b (assoc (meant f b) bs) bs
gives_own f b bs d = gives_each f b (assoc (meant f b) bs) bs (λ y t i. assoc_bound (meant f b) bs y t d i)

gives_left : (f b : ℕ → run.Ty) (c : Types) (cs ds : Vars) → Gives f b c (joined cs ds) → Gives f b c cs
gives_left f b c NoVars ds h = tt
gives_left f b c (OneVar y t cs) ds h = (h.0, gives_left f b c cs ds h.1)

gives_right : (f b : ℕ → run.Ty) (c : Types) (cs ds : Vars) → Gives f b c (joined cs ds) → Gives f b c ds
gives_right f b c NoVars ds h = h
gives_right f b c (OneVar y t cs) ds h = gives_right f b c cs ds h.1

-- ---- patterns

mutual
  pub apat_has : (w : World) (k : Known) (g : Env) (f : ℕ → run.Ty) (x : Ctx) (b : ℕ → run.Ty) (c : Types) → Place w k g f x → (p : PAPat) (t : Ty) (bs : Vars) → APatTypes g p t bs → Gives f b c bs → HasPat w x (apat_tree k p) (meant f b t) c
  apat_has w k g f x b c pl Any t bs r h = tt
  apat_has w k g f x b c pl (PVar y) t bs r h = (subst (Gives f b c) r h).0
  apat_has w k g f x b c pl (PConst l) t bs r h = ap (meant f b) r.0 ∙ literal_ty f b l
  apat_has w k g f x b c pl (PCon q) t bs r h = con_pat_has w x q (is_exception q k) NilT (meant f b t) tree.PNil c (con_means w k g f x b pl q None t r.0) tt
  apat_has w k g f x b c pl PUnit t bs r h = (NilT, ap (meant f b) r.0, tt)
  apat_has w k g f x b c pl (PParen p) t bs r h = pat_has w k g f x b c pl p t bs r h
  apat_has w k g f x b c pl (PTuple p ps) t bs r h =
      let m = subst (Gives f b c) r.7 h in (
        ConsT (meant f b r.0) (all_meant f b r.1),
        ap (meant f b) r.6,
        (apat_has w k g f x b c pl p r.0 r.2 r.4 (gives_left f b c r.2 r.3 m), apats_have w k g f x b c pl ps r.1 r.3 r.5 (gives_right f b c r.2 r.3 m)),
      )
  apat_has w k g f x b c pl PNil t bs r h = (1, true, ConsT (meant f b r.0) NilT, NilT, (pl.basic.lists).0, ap (meant f b) r.1, tt)
  apat_has w k g f x b c pl (PCell p) t bs r h = (meant f b r.0, ap (meant f b) r.1, pat_has w k g f x b c pl p r.0 bs r.2 h)

  apats_have : (w : World) (k : Known) (g : Env) (f : ℕ → run.Ty) (x : Ctx) (b : ℕ → run.Ty) (c : Types) → Place w k g f x → (ps : PAPats) (ts : Tys) (bs : Vars) → APatsType g ps ts bs → Gives f b c bs → HasPats w x (apats_tree k ps) (all_meant f b ts) c
  apats_have w k g f x b c pl NoPats ts bs r h = subst (λ us. HasPats w x tree.PNil us c) (sym (ap (all_meant f b) r.0)) tt
  apats_have w k g f x b c pl (MorePats p ps) ts bs r h =
      let m = subst (Gives f b c) r.7 h in
      subst (λ us. HasPats w x (tree.PMore (apat_tree k p) (apats_tree k ps)) us c) (sym (ap (all_meant f b) r.6))
      (apat_has w k g f x b c pl p r.0 r.2 r.4 (gives_left f b c r.2 r.3 m), apats_have w k g f x b c pl ps r.1 r.3 r.5 (gives_right f b c r.2 r.3 m))

  pub pat_has : (w : World) (k : Known) (g : Env) (f : ℕ → run.Ty) (x : Ctx) (b : ℕ → run.Ty) (c : Types) → Place w k g f x → (p : PPat) (t : Ty) (bs : Vars) → PatTypes g p t bs → Gives f b c bs → HasPat w x (pat_tree k p) (meant f b t) c
  pat_has w k g f x b c pl (PAt p) t bs r h = apat_has w k g f x b c pl p t bs r h
  pat_has w k g f x b c pl (PBuild q p) t bs r h =
      con_pat_has w x q (is_exception q k) (ConsT (meant f b r.0) NilT) (meant f b t) (tree.PMore (apat_tree k p) tree.PNil) c (con_means w k g f x b pl q (Some r.0) t r.1) (apat_has w k g f x b c pl p r.0 bs r.2 h, tt)
  pat_has w k g f x b c pl (PCons p q) t bs r h =
      let m = subst (Gives f b c) r.6 h in
      let u = meant f b r.0 in (
        1,
        true,
        ConsT u NilT,
        ConsT (run.TVar 0) (ConsT (run.list_ty (run.TVar 0)) NilT),
        (pl.basic.lists).1,
        ap (meant f b) r.3,
        (apat_has w k g f x b c pl p r.0 r.1 r.4 (gives_left f b c r.1 r.2 m), (apat_has w k g f x b c pl q (list r.0) r.2 r.5 (gives_right f b c r.1 r.2 m), tt)),
      )
  pat_has w k g f x b c pl (PAs p y) t bs r h = let m = subst (Gives f b c) r.2 h in (m.0, apat_has w k g f x b c pl p t r.0 r.1 m.1)

-- ---- the names that a pattern binds

con_pat_binds : (e : Bool) (q : Long) (ps : tree.Pats) (n : Name) → binds (con_pat e q ps) n ≡ binds_any ps n
con_pat_binds true q ps n = refl
con_pat_binds false q ps n = refl

two_bind : (cs ds bs : Vars) (n : Name) (b c : Bool) → bs ≡ joined cs ds → b ≡ bound_in cs n → c ≡ bound_in ds n → (if b then true else c) ≡ bound_in bs n
two_bind cs ds bs n b c e h m = ap₂ (λ x y. if x then true else y) h m ∙ (sym (joined_bound cs ds n) ∙ ap (λ v. bound_in v n) (sym e))

mutual
  pub apat_binds : (k : Known) (g : Env) (p : PAPat) (t : Ty) (bs : Vars) → APatTypes g p t bs → (n : Name) → binds (apat_tree k p) n ≡ bound_in bs n
  apat_binds k g Any t bs r n = ap (λ v. bound_in v n) (sym r)
  apat_binds k g (PVar y) t bs r n = sym (or_none (same (var y) n)) ∙ ap (λ v. bound_in v n) (sym r)
  apat_binds k g (PConst l) t bs r n = ap (λ v. bound_in v n) (sym r.1)
  apat_binds k g (PCon q) t bs r n = con_pat_binds (is_exception q k) q tree.PNil n ∙ ap (λ v. bound_in v n) (sym r.1)
  apat_binds k g PUnit t bs r n = ap (λ v. bound_in v n) (sym r.1)
  apat_binds k g (PParen p) t bs r n = pat_binds k g p t bs r n
  apat_binds k g (PTuple p ps) t bs r n =
      two_bind r.2 r.3 bs n (binds (apat_tree k p) n) (binds_any (apats_tree k ps) n) r.7 (apat_binds k g p r.0 r.2 r.4 n) (apats_bind k g ps r.1 r.3 r.5 n)
  apat_binds k g PNil t bs r n = ap (λ v. bound_in v n) (sym r.2)
  apat_binds k g (PCell p) t bs r n = pat_binds k g p r.0 bs r.2 n

  apats_bind : (k : Known) (g : Env) (ps : PAPats) (ts : Tys) (bs : Vars) → APatsType g ps ts bs → (n : Name) → binds_any (apats_tree k ps) n ≡ bound_in bs n
  apats_bind k g NoPats ts bs r n = ap (λ v. bound_in v n) (sym r.1)
  apats_bind k g (MorePats p ps) ts bs r n =
      two_bind r.2 r.3 bs n (binds (apat_tree k p) n) (binds_any (apats_tree k ps) n) r.7 (apat_binds k g p r.0 r.2 r.4 n) (apats_bind k g ps r.1 r.3 r.5 n)

  pub pat_binds : (k : Known) (g : Env) (p : PPat) (t : Ty) (bs : Vars) → PatTypes g p t bs → (n : Name) → binds (pat_tree k p) n ≡ bound_in bs n
  pat_binds k g (PAt p) t bs r n = apat_binds k g p t bs r n
  pat_binds k g (PBuild q p) t bs r n =
      con_pat_binds (is_exception q k) q (tree.PMore (apat_tree k p) tree.PNil) n ∙ (or_none (binds (apat_tree k p) n) ∙ apat_binds k g p r.0 bs r.2 n)
  pat_binds k g (PCons p q) t bs r n =
      two_bind r.1 r.2 bs n (binds (apat_tree k p) n) (if binds (apat_tree k q) n then true else false) r.6 (apat_binds k g p r.0 r.1 r.4 n)
      (or_none (binds (apat_tree k q) n) ∙ apat_binds k g q (list r.0) r.2 r.5 n)
  pat_binds k g (PAs p y) t bs r n = ap (λ c. if same (var y) n then true else c) (apat_binds k g p t r.0 r.1 n) ∙ ap (λ v. bound_in v n) (sym r.2)

mutual
  pub apat_small : (g : Env) (p : PAPat) (t : Ty) (bs : Vars) → APatTypes g p t bs → SmallNames p → AllSmall bs
  apat_small g Any t bs r h = subst AllSmall (sym r) tt
  apat_small g (PVar y) t bs r h = subst AllSmall (sym r) (h, tt)
  apat_small g (PConst l) t bs r h = subst AllSmall (sym r.1) tt
  apat_small g (PCon q) t bs r h = subst AllSmall (sym r.1) tt
  apat_small g PUnit t bs r h = subst AllSmall (sym r.1) tt
  apat_small g (PParen p) t bs r h = pat_small g p t bs r h
  apat_small g (PTuple p ps) t bs r h = subst AllSmall (sym r.7) (joined_small r.2 r.3 (apat_small g p r.0 r.2 r.4 h.0) (apats_small g ps r.1 r.3 r.5 h.1))
  apat_small g PNil t bs r h = subst AllSmall (sym r.2) tt
  apat_small g (PCell p) t bs r h = pat_small g p r.0 bs r.2 h

  apats_small : (g : Env) (ps : PAPats) (ts : Tys) (bs : Vars) → APatsType g ps ts bs → EachSmallNames ps → AllSmall bs
  apats_small g NoPats ts bs r h = subst AllSmall (sym r.1) tt
  apats_small g (MorePats p ps) ts bs r h = subst AllSmall (sym r.7) (joined_small r.2 r.3 (apat_small g p r.0 r.2 r.4 h.0) (apats_small g ps r.1 r.3 r.5 h.1))

  pub pat_small : (g : Env) (p : PPat) (t : Ty) (bs : Vars) → PatTypes g p t bs → PatSmallNames p → AllSmall bs
  pat_small g (PAt p) t bs r h = apat_small g p t bs r h
  pat_small g (PBuild q p) t bs r h = apat_small g p r.0 bs r.2 h
  pat_small g (PCons p q) t bs r h = subst AllSmall (sym r.6) (joined_small r.1 r.2 (apat_small g p r.0 r.1 r.4 h.0) (apat_small g q (list r.0) r.2 r.5 h.1))
  pat_small g (PAs p y) t bs r h = subst AllSmall (sym r.2) (h.0, apat_small g p t r.0 r.1 h.1)

-- ---- a pattern whose variables have one type each

pub mono_use : (o : Option run.Ty) (v : run.Ty) → UseAt (mono o) v → o ≡ Some v
mono_use None v h = absurd h
mono_use (Some u) v h = ap Some (sym h)

pub mono_binds : (w : World) (x : Ctx) (p : tree.Pat) (u : run.Ty) (c : Types) → HasPat w x p u c → Binds w x (λ a. a ≡ u) p (monos c)
mono_binds w x p u c h = ((u, c, refl, h), λ y v i o. (u, c, refl, h, mono_use (c y) v o))

pub mono_serve : (f b : ℕ → run.Ty) (bs : Vars) → VarsClosed bs → Differ bs → VarsServe f bs (monos (assoc (meant f b) bs))
mono_serve f b bs k d = λ y t i c. subst (λ o. UseAt (mono o) (meant f c t)) (sym (assoc_bound (meant f b) bs y t d i)) (meant_closed f c b t (bound_closed bs y t k i))
