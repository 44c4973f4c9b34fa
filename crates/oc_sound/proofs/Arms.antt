-- Arms that leave no value out.
use Rattle.std.proofs.Common.{◌≡◌, ◌⊎◌, ℕ, inl, inr, List, [], ◌∷◌, Option, Some, None, Bool, true, false, if◌then◌else◌, refl, sym, ap, ap₂, ◌∙◌, subst}
use Rattle.std.specs.Prelude.{codes}
use Rattle.oc_ast.specs.Plain.{Bytes, Long, PAPat, Any, PVar, PConst, PCon, PUnit, PParen, PTuple, PNil, PCell, PAPats, NoPats, MorePats, PPat, PAt, PBuild, PCons, PAs, PArms, NoArms, MoreArms}
use Rattle.oc_typing.specs.Ty.{Ty, Tys, MoreTypes, Stamped, bool, inst, list, unit}
use Rattle.oc_typing.specs.Env.{ConTy, Env, con_at, con_of}
use Rattle.oc_typing.specs.Variables.{Vars}
use Rattle.oc_typing.specs.Patterns.{APatTypes, APatsType, ConHas, PatTypes}
use Rattle.oc_typing.specs.OcText.{constant}
use Rattle.oc_typing.specs.OcTypes.{ArmsType}
use Rattle.oc_steps.specs.Known.{Known, is_exception, led, raised_of}
use Rattle.oc_steps.specs.View.{apat_tree, apats_tree, arms_tree, con_pat, pat_tree}
use Rattle.run_types.specs.Basic.{Basic}
use Rattle.run_types.proofs.Choice.{truth_shape}
use Rattle.run_types.proofs.Put.{datum_data}
use Rattle.run_types.proofs.Taken.{datum_tup}
use Rattle.run_types.specs.Types as run
use Rattle.run_types.specs.Types.{AllAlways, AllShaped, Always, ConsT, Covers, Ctx, Has, HasRules, NilT, Shaped, TTup, TakesOne, Took, Whole, World, bool_ty, inst_all, list_ty}
use Rattle.runs.specs.Env as renv
use Rattle.runs.specs.Forms.{var}
use Rattle.runs.specs.Patterns.{both, layer, matched, matched_all, no_match}
use Rattle.runs.specs.Primitives.{cons_part, false_part, nil_part, true_part}
use Rattle.runs.specs.Names.{Name, Part, last_part, same_part}
use Rattle.runs.proofs.Paths.{part_self}
use Rattle.runs.specs.Tree as tree
use Rattle.runs.specs.Tree.{Case, Con, Datum, Item, NoVals, Stuck, Tup, Val, Vals}
use Rattle.oc_sound.proofs.Apart.{exn_unlisted}
use Rattle.oc_sound.proofs.Fitting.{ConMeans, KnownCon, con_is, con_means}
use Rattle.oc_sound.proofs.Names.{some_is, true_false}
use Rattle.oc_sound.proofs.Serving.{not_truth}
use Rattle.oc_sound.specs.Meant.{all_meant, meant}
use Rattle.oc_sound.specs.Secure.{EachTakesAll, IsName, IsOf, LeaveNoneOut, PatTakesAll, SomeArm, TakeVariant, TakesAll, TakesCons, TakesEach, TakesNil}
use Rattle.oc_sound.specs.Words.{Among, Listed, Variants, capital}
use Rattle.oc_sound.specs.Served.{Apart, Closed, Place}

-- ---- patterns that take each value of their type

mutual
  pub apat_always : (k : Known) (p : PAPat) → TakesAll true p → Always (apat_tree k p)
  apat_always k Any h = tt
  apat_always k (PVar y) h = tt
  apat_always k (PConst l) h = absurd h
  apat_always k (PCon q) h = absurd h
  apat_always k PUnit h = tt
  apat_always k (PParen p) h = pat_always k p h
  apat_always k (PTuple p ps) h = (apat_always k p h.0, apats_always k ps h.1)
  apat_always k PNil h = absurd h
  apat_always k (PCell p) h = pat_always k p h.1

  apats_always : (k : Known) (ps : PAPats) → EachTakesAll true ps → AllAlways (apats_tree k ps)
  apats_always k NoPats h = tt
  apats_always k (MorePats p ps) h = (apat_always k p h.0, apats_always k ps h.1)

  pub pat_always : (k : Known) (p : PPat) → PatTakesAll true p → Always (pat_tree k p)
  pat_always k (PAt p) h = apat_always k p h
  pat_always k (PBuild q p) h = absurd h
  pat_always k (PCons p q) h = absurd h
  pat_always k (PAs p y) h = apat_always k p h

arms_cover : (k : Known) (arms : PArms) → SomeArm (PatTakesAll true) arms → Covers (arms_tree k arms)
arms_cover k NoArms h = absurd h
arms_cover k (MoreArms p a arms) (inl h) = inl (pat_always k p h)
arms_cover k (MoreArms p a arms) (inr h) = inr (arms_cover k arms h)

-- ---- and each value of its shape

took_layer : (y : Name) (v : Val) (o : Option renv.Env) → Took o → Took (layer y v o)
took_layer y v None h = h
took_layer y v (Some b) h = tt

took_both : (o p : Option renv.Env) → Took o → Took p → Took (both o p)
took_both None p h k = absurd h
took_both (Some a) None h k = k
took_both (Some a) (Some b) h k = tt

pub tup_shape : (w : World) (v : Val) (us : run.Tys) → Shaped w v (TTup us) → (vs : Vals) × (v ≡ Tup vs) × AllShaped w vs us
tup_shape w (Tup vs) us h = (vs, refl, h)
tup_shape w (Datum n) us h = absurd (datum_tup n us h)
tup_shape w _ us h = absurd h

abbrev Takes : List Val → tree.Pat → Val → Type 0
Takes m p v = Took (matched m p v)

more_took : (w : World) (k : Known) (g : Env) (f b : ℕ → run.Ty) (m : List Val) (p : tree.Pat) (ps : tree.Pats) (u : Ty) (us : Tys) (vs : Vals)
    → ((v : Val) → Shaped w v (meant f b u) → Takes m p v) → ((rest : Vals) → AllShaped w rest (all_meant f b us) → Took (matched_all m ps rest))
    → AllShaped w vs (ConsT (meant f b u) (all_meant f b us)) → Took (matched_all m (tree.PMore p ps) vs)
more_took w k g f b m p ps u us (Item v vs) i j s = took_both (matched m p v) (matched_all m ps vs) (i v s.0) (j vs s.1)
more_took w k g f b m p ps u us NoVals i j s = absurd s

mutual
  apat_took : (w : World) (k : Known) (g : Env) (f b : ℕ → run.Ty) (m : List Val) (p : PAPat) (t : Ty) (bs : Vars) (v : Val) → TakesAll false p → APatTypes g p t bs → Shaped w v (meant f b t) → Takes m (apat_tree k p) v
  apat_took w k g f b m Any t bs v h r s = tt
  apat_took w k g f b m (PVar y) t bs v h r s = tt
  apat_took w k g f b m (PConst l) t bs v h r s = absurd h
  apat_took w k g f b m (PCon q) t bs v h r s = absurd h
  apat_took w k g f b m PUnit t bs v h r s =
      let n = tup_shape w v NilT (subst (Shaped w v) (ap (meant f b) r.0) s) in
      subst (Takes m (tree.PTup tree.PNil)) (sym n.1) (none n.0 n.2)
    where
      none : (vs : Vals) → AllShaped w vs NilT → Took (matched_all m tree.PNil vs)
      none NoVals i = tt
      none (Item u vs) i = absurd i
  apat_took w k g f b m (PParen p) t bs v h r s = pat_took w k g f b m p t bs v h r s
  apat_took w k g f b m (PTuple p ps) t bs v h r s =
      let n = tup_shape w v (all_meant f b (MoreTypes r.0 r.1)) (subst (Shaped w v) (ap (meant f b) r.6) s) in
      subst (Takes m (tree.PTup (tree.PMore (apat_tree k p) (apats_tree k ps)))) (sym n.1)
      (more_took w k g f b m (apat_tree k p) (apats_tree k ps) r.0 r.1 n.0 (λ u i. apat_took w k g f b m p r.0 r.2 u h.0 r.4 i) (λ us i. apats_took w k g f b m ps r.1 r.3 us h.1 r.5 i) n.2)
  apat_took w k g f b m PNil t bs v h r s = absurd h
  apat_took w k g f b m (PCell p) t bs v h r s = absurd (cc h.0)

  apats_took : (w : World) (k : Known) (g : Env) (f b : ℕ → run.Ty) (m : List Val) (ps : PAPats) (ts : Tys) (bs : Vars) (vs : Vals) → EachTakesAll false ps → APatsType g ps ts bs → AllShaped w vs (all_meant f b ts) → Took (matched_all m (apats_tree k ps) vs)
  apats_took w k g f b m NoPats ts bs vs h r s = none vs (subst (AllShaped w vs) (ap (all_meant f b) r.0) s)
    where
      none : (us : Vals) → AllShaped w us NilT → Took (matched_all m tree.PNil us)
      none NoVals i = tt
      none (Item u us) i = absurd i
  apats_took w k g f b m (MorePats p ps) ts bs vs h r s =
      more_took w k g f b m (apat_tree k p) (apats_tree k ps) r.0 r.1 vs (λ u i. apat_took w k g f b m p r.0 r.2 u h.0 r.4 i) (λ us i. apats_took w k g f b m ps r.1 r.3 us h.1 r.5 i) (subst (AllShaped w vs) (ap (all_meant f b) r.6) s)

  pat_took : (w : World) (k : Known) (g : Env) (f b : ℕ → run.Ty) (m : List Val) (p : PPat) (t : Ty) (bs : Vars) (v : Val) → PatTakesAll false p → PatTypes g p t bs → Shaped w v (meant f b t) → Takes m (pat_tree k p) v
  pat_took w k g f b m (PAt p) t bs v h r s = apat_took w k g f b m p t bs v h r s
  pat_took w k g f b m (PBuild q p) t bs v h r s = absurd h
  pat_took w k g f b m (PCons p q) t bs v h r s = absurd h
  pat_took w k g f b m (PAs p y) t bs v h r s = took_layer (var y) v (matched m (apat_tree k p) v) (apat_took w k g f b m p t r.0 v h r.1 s)

-- some arm takes the value
some_takes : (k : Known) (g : Env) (a t : Ty) (P : PPat → Type 0) (m : List Val) (v : Val) → ((p : PPat) (bs : Vars) → P p → PatTypes g p a bs → Takes m (pat_tree k p) v) → (arms : PArms) → SomeArm P arms → ArmsType g arms a t → TakesOne m (arms_tree k arms) v
some_takes k g a t P m v f NoArms h r = absurd h
some_takes k g a t P m v f (MoreArms p b arms) (inl h) r = inl (f p r.0.0 h r.0.1)
some_takes k g a t P m v f (MoreArms p b arms) (inr h) r = inr (some_takes k g a t P m v f arms h r.1)

-- and has a type
some_typed : (g : Env) (a t : Ty) (P : PPat → Type 0) (A : Type 0) → ((p : PPat) (bs : Vars) → P p → PatTypes g p a bs → A) → (arms : PArms) → SomeArm P arms → ArmsType g arms a t → A
some_typed g a t P A f NoArms h r = absurd h
some_typed g a t P A f (MoreArms p b arms) (inl h) r = f p r.0.0 h r.0.1
some_typed g a t P A f (MoreArms p b arms) (inr h) r = some_typed g a t P A f arms h r.1

-- ---- lists

no_parts : (w : World) (vs : Vals) → AllShaped w vs NilT → vs ≡ NoVals
no_parts w NoVals h = refl
no_parts w (Item v vs) h = absurd h

pub two_parts : (w : World) (vs : Vals) (a c : run.Ty) → AllShaped w vs (ConsT a (ConsT c NilT)) → (y : Val) × (z : Val) × (vs ≡ Item y (Item z NoVals)) × Shaped w y a × Shaped w z c
two_parts w (Item y (Item z NoVals)) a c h = (y, z, refl, h.0, h.1.0)
two_parts w (Item y (Item z (Item u vs))) a c h = absurd h.1.1
two_parts w (Item y NoVals) a c h = absurd h.1
two_parts w NoVals a c h = absurd h

abbrev pub ListShape : World → run.Ty → Val → Type 0
ListShape w a v = (v ≡ Con nil_part NoVals) ⊎ ((y : Val) × (z : Val) × (v ≡ Con cons_part (Item y (Item z NoVals))) × Shaped w y a × Shaped w z (list_ty a))

pub list_shape : (w : World) (a : run.Ty) (v : Val) → Basic w → Shaped w v (list_ty a) → ListShape w a v
list_shape w a (Con i vs) q h = by (q.only_lists i h.0 h.1)
  where
    by : ((i ≡ nil_part) × (h.0 ≡ NilT)) ⊎ ((i ≡ cons_part) × (h.0 ≡ ConsT (run.TVar 0) (ConsT (list_ty (run.TVar 0)) NilT))) → ListShape w a (Con i vs)
    by (inl e) = inl (ap₂ (λ j us. Con j us) e.0 (no_parts w vs (subst (λ s. AllShaped w vs (inst_all (ConsT a NilT) s)) e.1 h.2)))
    by (inr e) =
        let n = two_parts w vs a (list_ty a) (subst (λ s. AllShaped w vs (inst_all (ConsT a NilT) s)) e.1 h.2) in
        inr (n.0, n.1, ap₂ (λ j us. Con j us) e.0 n.2, n.3, n.4)
list_shape w a (Datum n) q h = absurd (datum_data n 1 true (ConsT a NilT) h)
list_shape w a _ q h = absurd h

abbrev IsList : Ty → Type 0
IsList a = (u : Ty) × (a ≡ list u)

nil_list : (g : Env) (a : Ty) (p : PPat) (bs : Vars) → TakesNil p → PatTypes g p a bs → IsList a
nil_list g a (PAt PNil) bs h r = (r.0, r.1)
nil_list g a _ bs h r = absurd h

nil_took : (k : Known) (m : List Val) (p : PPat) → TakesNil p → Takes m (pat_tree k p) (Con nil_part NoVals)
nil_took k m (PAt PNil) h = tt
nil_took k m _ h = absurd h

abbrev item_of : Ty → Ty
item_of (Stamped s (MoreTypes t ts)) = t
item_of _ = unit

cons_took : (w : World) (k : Known) (g : Env) (f b : ℕ → run.Ty) (m : List Val) (a u : Ty) (y z : Val) → a ≡ list u → Shaped w y (meant f b u) → Shaped w z (list_ty (meant f b u)) → (p : PPat) (bs : Vars) → TakesCons p → PatTypes g p a bs → Takes m (pat_tree k p) (Con cons_part (Item y (Item z NoVals)))
cons_took w k g f b m a u y z e sy sz (PCons p q) bs h r =
    let l : u ≡ r.0 = ap item_of (sym e ∙ r.3) in
    took_both (matched m (apat_tree k p) y) (both (matched m (apat_tree k q) z) (Some renv.empty)) (apat_took w k g f b m p r.0 r.1 y h.0 r.4 (subst (λ s. Shaped w y (meant f b s)) l sy))
    (took_both (matched m (apat_tree k q) z) (Some renv.empty) (apat_took w k g f b m q (list r.0) r.2 z h.1 r.5 (subst (λ s. Shaped w z (list_ty (meant f b s))) l sz)) tt)
cons_took w k g f b m a u y z e sy sz _ bs h r = absurd h

lists_whole : (w : World) (k : Known) (g : Env) (f b : ℕ → run.Ty) (a t : Ty) (arms : PArms) → Basic w → SomeArm TakesNil arms → SomeArm TakesCons arms → ArmsType g arms a t → Whole w (meant f b a) (arms_tree k arms)
lists_whole w k g f b a t arms q n c r = λ m v h. by m v (list_shape w (meant f b l.0) v q (subst (Shaped w v) (ap (meant f b) l.1) h))
  where
    l : IsList a
    l = some_typed g a t TakesNil (IsList a) (nil_list g a) arms n r

    by : (m : List Val) (v : Val) → ListShape w (meant f b l.0) v → TakesOne m (arms_tree k arms) v
    by m v (inl e) = subst (TakesOne m (arms_tree k arms)) (sym e) (some_takes k g a t TakesNil m (Con nil_part NoVals) (λ p bs h s. nil_took k m p h) arms n r)
    by m v (inr e) =
        subst (TakesOne m (arms_tree k arms)) (sym e.2)
        (some_takes k g a t TakesCons m (Con cons_part (Item e.0 (Item e.1 NoVals))) (cons_took w k g f b m a l.0 e.0 e.1 l.1 e.3 e.4) arms c r)

-- ---- truth values

abbrev made_of : ConTy → Ty
made_of c = c.made

-- a constructor without a capital letter is a truth value
truth_is : (w : World) (k : Known) (g : Env) (f : ℕ → run.Ty) (x : Ctx) → Place w k g f x → (n : Bytes) (a : Ty) → capital n ≡ false → ConHas (con_at (n ∷ []) g) None a → (a ≡ bool) × (is_exception (n ∷ []) k ≡ false)
truth_is w k g f x pl n a c h = by (con_of n g) refl h
  where
    two : (d : ConTy) → con_of n g ≡ Some d → ConHas (Some d) None a → (capital n ≡ true) ⊎ (d ≡ constant bool) → KnownCon w n (led raised_of (n ∷ []) k) d → (a ≡ bool) × (is_exception (n ∷ []) k ≡ false)
    two d e i (inl j) m = absurd (true_false (capital n) j c)
    two d e i (inr j) (inl m) = absurd (not_truth m.1.0 (sym m.1.1 ∙ j))
    two d e i (inr j) (inr m) = (i.1.2 ∙ ap (λ (s : ConTy). inst i.1.0 s.made) j, m.0)

    by : (o : Option ConTy) → con_of n g ≡ o → ConHas o None a → (a ≡ bool) × (is_exception (n ∷ []) k ≡ false)
    by None e i = absurd i
    by (Some d) e i = two d e i (pl.serves.large (n ∷ []) d e) (con_is w (n ∷ []) k g d pl.fits e)

name_bool : (w : World) (k : Known) (g : Env) (f : ℕ → run.Ty) (x : Ctx) → Place w k g f x → (c : Bytes) (a : Ty) → capital c ≡ false → (p : PPat) (bs : Vars) → IsName c p → PatTypes g p a bs → a ≡ bool
name_bool w k g f x pl c a l (PAt (PCon (n ∷ []))) bs h r = (truth_is w k g f x pl n a (subst (λ z. capital z ≡ false) (sym h) l) r.0).0
name_bool w k g f x pl c a l _ bs h r = absurd h

name_took : (w : World) (k : Known) (g : Env) (f : ℕ → run.Ty) (x : Ctx) → Place w k g f x → (c : Bytes) (a : Ty) (m : List Val) → capital c ≡ false → Takes m (tree.PCon c tree.PNil) (Con c NoVals) → (p : PPat) (bs : Vars) → IsName c p → PatTypes g p a bs → Takes m (pat_tree k p) (Con c NoVals)
name_took w k g f x pl c a m l i (PAt (PCon (n ∷ []))) bs h r =
    subst (λ e. Takes m (con_pat e (n ∷ []) tree.PNil) (Con c NoVals)) (sym (truth_is w k g f x pl n a (subst (λ z. capital z ≡ false) (sym h) l) r.0).1)
    (subst (λ z. Takes m (tree.PCon z tree.PNil) (Con c NoVals)) (sym h) i)
name_took w k g f x pl c a m l i _ bs h r = absurd h

truths_whole : (w : World) (k : Known) (g : Env) (f : ℕ → run.Ty) (x : Ctx) (b : ℕ → run.Ty) (a t : Ty) (arms : PArms) → Place w k g f x → SomeArm (IsName (codes "true")) arms → SomeArm (IsName (codes "false")) arms → ArmsType g arms a t → Whole w (meant f b a) (arms_tree k arms)
truths_whole w k g f x b a t arms pl n c r = λ m v h. by m v (truth_shape w v pl.basic (subst (Shaped w v) (ap (meant f b) l) h))
  where
    l : a ≡ bool
    l = some_typed g a t (IsName (codes "true")) (a ≡ bool) (name_bool w k g f x pl (codes "true") a refl) arms n r

    by : (m : List Val) (v : Val) → (v ≡ Con true_part NoVals) ⊎ (v ≡ Con false_part NoVals) → TakesOne m (arms_tree k arms) v
    by m v (inl e) = subst (TakesOne m (arms_tree k arms)) (sym e) (some_takes k g a t (IsName (codes "true")) m (Con true_part NoVals) (name_took w k g f x pl (codes "true") a m refl tt) arms n r)
    by m v (inr e) = subst (TakesOne m (arms_tree k arms)) (sym e) (some_takes k g a t (IsName (codes "false")) m (Con false_part NoVals) (name_took w k g f x pl (codes "false") a m refl tt) arms c r)

-- ---- variants

abbrev data_of : run.Ty → ℕ
data_of (run.TData d b us) = d
data_of _ = 0

abbrev args_of : run.Ty → run.Tys
args_of (run.TData d b us) = us
args_of _ = NilT

con_shape : (w : World) (v : Val) (d : ℕ) (us : run.Tys) → Shaped w v (run.TData d true us) → (i : Part) × (vs : Vals) × (args : run.Tys) × (v ≡ Con i vs) × (w.datas d true i ≡ Some args) × AllShaped w vs (inst_all us args)
con_shape w (Con i vs) d us h = (i, vs, h.0, refl, h.1, h.2)
con_shape w (Datum n) d us h = absurd (datum_data n d true us h)
con_shape w _ d us h = absurd h

-- the arguments of a constructor have the shape of those of its pattern
con_args : (w : World) (x : Ctx) (q : Long) (e : Bool) (ts : run.Tys) (t : run.Ty) (d : ℕ) (us args : run.Tys) (vs : Vals) → ConMeans w x q e ts t → t ≡ run.TData d true us → w.datas d true (last_part q) ≡ Some args → AllShaped w vs (inst_all us args) → (e ≡ false) × AllShaped w vs ts
con_args w x q e ts t d us args vs (inl m) h a s = absurd (clash (sym m.2 ∙ h))
  where
    clash : run.TExn ≡ run.TData d true us → ⊥
    clash r = absurd (cc r)
con_args w x q e ts t d us args vs (inr m) h a s =
    let r : run.TData d true us ≡ run.TData m.1 true m.2 = sym h ∙ m.6 in
    let k : args ≡ m.3 = some_is args m.3 (sym a ∙ (ap (λ c. w.datas c true (last_part q)) (ap data_of r) ∙ m.4)) in
    (m.0, subst (AllShaped w vs) (ap₂ (λ y z. inst_all y z) (ap args_of r) k ∙ sym m.5) s)

took_same : (c : Part) (o : Option renv.Env) → Took o → Took (if same_part c c then o else no_match)
took_same c o h = subst (λ b. Took (if b then o else no_match)) (sym (part_self c)) h

abbrev TakesCon : List Val → Bool → Long → tree.Pats → Part → Vals → Type 0
TakesCon m e q ps i vs = Takes m (con_pat e q ps) (Con i vs)

con_took : (m : List Val) (e : Bool) (q : Long) (ps : tree.Pats) (i : Part) (vs : Vals) → e ≡ false → last_part q ≡ i → Took (matched_all m ps vs) → TakesCon m e q ps i vs
con_took m e q ps i vs h l t =
    subst (λ c. TakesCon m c q ps i vs) (sym h) (subst (λ c. Took (if same_part c i then matched_all m ps vs else no_match)) (sym l) (took_same i (matched_all m ps vs) t))

each_took : (w : World) (k : Known) (g : Env) (f : ℕ → run.Ty) (x : Ctx) (b : ℕ → run.Ty) → Place w k g f x → (a : Ty) (m : List Val) (d : ℕ) (us args : run.Tys) (i : Part) (vs : Vals)
    → meant f b a ≡ run.TData d true us → w.datas d true i ≡ Some args → AllShaped w vs (inst_all us args) → (p : PPat) (bs : Vars) → TakesEach i p → PatTypes g p a bs → Takes m (pat_tree k p) (Con i vs)
each_took w k g f x b pl a m d us args i vs e h s (PAt (PCon q)) bs t r =
    let c = con_args w x q (is_exception q k) NilT (meant f b a) d us args vs (con_means w k g f x b pl q None a r.0) e (ap (w.datas d true) t ∙ h) s in
    con_took m (is_exception q k) q tree.PNil i vs c.0 t (none vs c.1)
  where
    none : (us : Vals) → AllShaped w us NilT → Took (matched_all m tree.PNil us)
    none NoVals n = tt
    none (Item u us) n = absurd n
each_took w k g f x b pl a m d us args i vs e h s (PBuild q p) bs t r =
    let c = con_args w x q (is_exception q k) (ConsT (meant f b r.0) NilT) (meant f b a) d us args vs (con_means w k g f x b pl q (Some r.0) a r.1) e (ap (w.datas d true) t.0 ∙ h) s in
    con_took m (is_exception q k) q (tree.PMore (apat_tree k p) tree.PNil) i vs c.0 t.0
    (one vs c.1 (λ v n. apat_took w k g f b m p r.0 bs v t.1 r.2 n))
  where
    one : (us : Vals) → AllShaped w us (ConsT (meant f b r.0) NilT) → ((v : Val) → Shaped w v (meant f b r.0) → Takes m (apat_tree k p) v) → Took (matched_all m (tree.PMore (apat_tree k p) tree.PNil) us)
    one (Item v NoVals) n j = took_both (matched m (apat_tree k p) v) (Some renv.empty) (j v n.0) tt
    one (Item v (Item u us)) n j = absurd n.1
    one NoVals n j = absurd n
each_took w k g f x b pl a m d us args i vs e h s _ bs t r = absurd t

-- the type of which the constructor is
abbrev OfType : World → (ℕ → run.Ty) → (ℕ → run.Ty) → Ty → Bytes → Type 0
OfType w f b a n = (d : ℕ) × (us : run.Tys) × (args : run.Tys) × (w.datas d true n ≡ Some args) × (meant f b a ≡ run.TData d true us)

con_type : (vs : Variants) (w : World) (k : Known) (x : Ctx) (f b : ℕ → run.Ty) (a : Ty) (q : Long) (n : Bytes) (ts : run.Tys) → Apart vs k → Listed n vs → last_part q ≡ n → ConMeans w x q (is_exception q k) ts (meant f b a) → OfType w f b a n
con_type vs w k x f b a q n ts aw l e (inl m) = absurd (exn_unlisted vs q k aw m.0 (subst (λ z. Listed z vs) (sym e) l))
con_type vs w k x f b a q n ts aw l e (inr m) = (m.1, m.2, m.3, ap (w.datas m.1 true) (sym e) ∙ m.4, m.6)

arm_type : (vs : Variants) (w : World) (k : Known) (g : Env) (f : ℕ → run.Ty) (x : Ctx) (b : ℕ → run.Ty) → Place w k g f x → Apart vs k → (a : Ty) (n : Bytes) → Listed n vs → (p : PPat) (bs : Vars) → IsOf n p → PatTypes g p a bs → OfType w f b a n
arm_type vs w k g f x b pl aw a n l (PAt (PCon q)) bs e r = con_type vs w k x f b a q n NilT aw l e (con_means w k g f x b pl q None a r.0)
arm_type vs w k g f x b pl aw a n l (PBuild q p) bs e r = con_type vs w k x f b a q n (ConsT (meant f b r.0) NilT) aw l e (con_means w k g f x b pl q (Some r.0) a r.1)
arm_type vs w k g f x b pl aw a n l _ bs e r = absurd e

variants_whole : (vs : Variants) (w : World) (k : Known) (g : Env) (f : ℕ → run.Ty) (x : Ctx) (b : ℕ → run.Ty) (a t : Ty) (arms : PArms) → Closed vs w → Apart vs k → Place w k g f x → TakeVariant vs arms → ArmsType g arms a t → Whole w (meant f b a) (arms_tree k arms)
variants_whole vs w k g f x b a t arms cl aw pl h r = λ m v s.
    let c = con_shape w v o.0 o.1 (subst (Shaped w v) o.4 s) in
    subst (TakesOne m (arms_tree k arms)) (sym c.3)
    (some_takes k g a t (TakesEach c.0) m (Con c.0 c.1) (each_took w k g f x b pl a m o.0 o.1 c.2 c.0 c.1 o.4 c.4 c.5) arms (h.4 y.0 y.1 y.2 c.0 (y.3 c.0 c.2 c.4)) r)
  where
    o : OfType w f b a h.0
    o = some_typed g a t (IsOf h.0) (OfType w f b a h.0) (arm_type vs w k g f x b pl aw a h.0 h.2) arms h.3 r

    y : (v : List Bytes) × Among v vs × Among h.0 v × ((m : Bytes) (us : run.Tys) → w.datas o.0 true m ≡ Some us → Among m v)
    y = cl o.0 h.0 o.2 o.3 h.1

-- ---- a match

pub match_has : (vs : Variants) (w : World) (k : Known) (g : Env) (f : ℕ → run.Ty) (x : Ctx) (b : ℕ → run.Ty) (e : tree.Exp) (a t : Ty) (u : run.Ty) (arms : PArms) → Closed vs w → Apart vs k → Place w k g f x → LeaveNoneOut vs arms → ArmsType g arms a t → Has w x e (meant f b a) → HasRules w x (λ v. v ≡ meant f b a) (arms_tree k arms) u → Has w x (Case Stuck e (arms_tree k arms)) u
match_has vs w k g f x b e a t u arms cl aw pl (inl l) r he hr = inl (arms_cover k arms l, meant f b a, he, inl hr)
match_has vs w k g f x b e a t u arms cl aw pl (inr (inl l)) r he hr = inr (meant f b a, lists_whole w k g f b a t arms pl.basic l.0 l.1 r, he, hr)
match_has vs w k g f x b e a t u arms cl aw pl (inr (inr (inl l))) r he hr = inr (meant f b a, truths_whole w k g f x b a t arms pl l.0 l.1 r, he, hr)
match_has vs w k g f x b e a t u arms cl aw pl (inr (inr (inr (inl l)))) r he hr = inr (meant f b a, variants_whole vs w k g f x b a t arms cl aw pl l r, he, hr)
match_has vs w k g f x b e a t u arms cl aw pl (inr (inr (inr (inr l)))) r he hr = inr (meant f b a, l w k g f b x a t cl aw pl r, he, hr)
