-- The constructors that one `type` item declares.
use Rattle.std.proofs.Common.{◌≡◌, ◌⊎◌, ℕ, zero, suc, ◌<◌, ◌≤◌, inl, inr, List, [], ◌∷◌, ◌++◌, length, Option, Some, None, Bool, true, false, if◌then◌else◌, nat_eq, refl, sym, ap, ◌∙◌, subst, arith}
use Rattle.std.specs.Str.{bytes_eq}
use Rattle.std.proofs.lemmas.Bool.{eqb-true}
use Rattle.std.proofs.lemmas.Slice.Eq.{bytes_eq-Decides}
use Rattle.oc_ast.specs.Plain.{Bytes, Cons, Long, PTDef, Alias, Variant, TAt, TCon}
use Rattle.oc_typing.specs.Ty.{Ty, Stamped, first_stamp, stamped, variables}
use Rattle.oc_typing.specs.Env as env
use Rattle.oc_typing.specs.Env.{ConTy, Env, TyEntry, Empty, AddCon, AddType, AddVal, AddMod, at, in_module, mod_of, type_at, type_of}
use Rattle.oc_typing.specs.Written.{Distinct, NotAmong, Reads}
use Rattle.oc_typing.specs.Definitions.{AreBelow, ConsRead, DefsAre, EachBelow, as_arguments, has_equation, is_equation, name_of, names_of_equation, put_cons, put_defs}
use Rattle.oc_typing.specs.OcTypes.{raises}
use Rattle.oc_steps.specs.Known.{Builds, Known, with_cons}
use Rattle.run_types.specs.Types as run
use Rattle.run_types.specs.Types.{ConsT, NilT, TData, TExn, World}
use Rattle.oc_sound.proofs.Fitting.{NoneItselfAt, args_first}
use Rattle.oc_sound.proofs.Names.{some_is, true_false}
use Rattle.oc_sound.proofs.Serving.{TypesAlone}
use Rattle.oc_sound.specs.Rows.{Table}
use Rattle.oc_sound.specs.Meant.{all_meant, meant, stamp_ty}
use Rattle.oc_sound.specs.Secure.{AllCapital, names_defined, names_of}
use Rattle.oc_sound.specs.Served.{ArgHasFirst, ConIn, Fits, IsCon, NoneThemselves, row_of, written_tys}

-- ---- a new stamp

pub not_eq : (s i : ℕ) → i < s → nat_eq s i ≡ false
not_eq s i l = by (nat_eq s i) refl
  where
    clash : (m n : ℕ) → m ≡ n → n < m → ⊥
    clash m n e h = omega (arith, e, h)

    by : (b : Bool) → nat_eq s i ≡ b → b ≡ false
    by false e = refl
    by true e = absurd (clash s i (eqb-true s i e) l)

pub new_stamp : (s : ℕ) (ts : run.Tys) → first_stamp ≤ s → stamp_ty s ts ≡ TData s true ts
new_stamp s ts l =
    skip _ _ _ (not_eq s 0 (omega (arith, l))) ∙ (skip _ _ _ (not_eq s 2 (omega (arith, l))) ∙ (skip _ _ _ (not_eq s 3 (omega (arith, l)))
    ∙ (skip _ _ _ (not_eq s 4 (omega (arith, l))) ∙ (skip _ _ _ (not_eq s 5 (omega (arith, l))) ∙ (skip _ _ _ (not_eq s 6 (omega (arith, l)))
    ∙ (skip _ _ _ (not_eq s 7 (omega (arith, l))) ∙ skip _ _ _ (not_eq s 10 (omega (arith, l)))))))))
  where
    skip : (b : Bool) (t u : run.Ty) → b ≡ false → (if b then t else u) ≡ u
    skip b t u e = ap (λ c. if c then t else u) e

pub row_meant : (n i : ℕ) (f b : ℕ → run.Ty) → all_meant f b (variables n i) ≡ row_of n i b
row_meant zero i f b = refl
row_meant (suc n) i f b = ap (ConsT (b i)) (row_meant n (suc i) f b)

pub stamped_meant : (s n : ℕ) → first_stamp ≤ s → (f b : ℕ → run.Ty) → meant f b (stamped s n) ≡ TData s true (row_of n 0 b)
stamped_meant s n l f b = new_stamp s (all_meant f b (variables n 0)) l ∙ ap (TData s true) (row_meant n 0 f b)

pub row_none : (n i : ℕ) → NoneThemselves (variables n i)
row_none zero i = tt
row_none (suc n) i = (tt, row_none n (suc i))

-- ---- a table of entries

abbrev pub ConList : Type 0
ConList = List (Bytes × Option Ty)

abbrev pub con_look : ConList → Bytes → Option run.Tys
con_look [] n = None
con_look (c ∷ cs) n = if bytes_eq n c.0 then Some (written_tys c.1) else con_look cs n

abbrev pub stamp_of : Ty → ℕ
stamp_of (Stamped s ts) = s
stamp_of _ = 0

-- by the stamps of new variants
abbrev pub entry_table : List PTDef → List TyEntry → Table
entry_table [] ts s n = None
entry_table (d ∷ ds) [] s n = None
entry_table (Alias vs x w ∷ ds) (t ∷ ts) s n = entry_table ds ts s n
entry_table (Variant vs x None cs ∷ ds) (t ∷ ts) s n = if nat_eq (stamp_of t.body) s then con_look t.cons n else entry_table ds ts s n
entry_table (Variant vs x (Some w) cs ∷ ds) (t ∷ ts) s n = entry_table ds ts s n

abbrev pub con_names : ConList → List Bytes
con_names [] = []
con_names (c ∷ cs) = c.0 ∷ con_names cs

pub among : (n x : Bytes) (a : Option Ty) (cs : ConList) → NotAmong x (con_names cs) → ConIn n a cs → bytes_eq n x ≡ true → ⊥
among n x a [] m h e = h
among n x a (c ∷ cs) m (inl h) e = true_false (bytes_eq x c.0) ((bytes_eq-Decides x c.0).1 (sym ((bytes_eq-Decides n x).0 e) ∙ h.0)) m.0
among n x a (c ∷ cs) m (inr h) e = among n x a cs m.1 h e

pub look_in : (n : Bytes) (a : Option Ty) (cs : ConList) → Distinct (con_names cs) → ConIn n a cs → con_look cs n ≡ Some (written_tys a)
look_in n a [] d h = absurd h
look_in n a (c ∷ cs) d (inl h) =
    ap (λ b. if b then Some (written_tys c.1) else con_look cs n) ((bytes_eq-Decides n c.0).1 h.0) ∙ ap (λ b. Some (written_tys b)) (sym h.1)
look_in n a (c ∷ cs) d (inr h) = by (bytes_eq n c.0) refl (look_in n a cs d.1 h)
  where
    by : (b : Bool) → bytes_eq n c.0 ≡ b → con_look cs n ≡ Some (written_tys a) → (if b then Some (written_tys c.1) else con_look cs n) ≡ Some (written_tys a)
    by true e k = absurd (among n c.0 a cs d.0 h e)
    by false e k = k

-- ---- what a definition binds

-- the entry of a new variant
pub record Made (g : Env) (vs : List Bytes) (cs : Cons) (s : ℕ) (t : TyEntry) : Type 0 where
  pub body : t.body ≡ stamped s (length vs)
  pub read : ConsRead vs g cs t.cons

pub names_read : (vs : List Bytes) (g : Env) (cs : Cons) (ks : ConList) → ConsRead vs g cs ks → con_names ks ≡ names_of cs
names_read vs g [] ks r = ap con_names r
names_read vs g (c ∷ cs) ks r = ap con_names r.4 ∙ ap (λ ns. c.0 ∷ ns) (names_read vs g cs r.1 r.3)

pub cons_first : (vs : List Bytes) (g : Env) → NoneItselfAt g → (cs : Cons) (ks : ConList) → ConsRead vs g cs ks → (n : Bytes) (a : Option Ty) → ConIn n a ks → ArgHasFirst (length vs) a
cons_first vs g o [] ks r n a h = absurd (subst (ConIn n a) r h)
cons_first vs g o (c ∷ cs) ks r n a h = by (subst (ConIn n a) r.4 h) (cons_first vs g o cs r.1 r.3 n a)
  where
    by : ConIn n a ((c.0, r.0) ∷ r.1) → (ConIn n a r.1 → ArgHasFirst (length vs) a) → ArgHasFirst (length vs) a
    by (inl e) k = subst (ArgHasFirst (length vs)) (sym e.1) (args_first vs g o c.1 r.0 r.2)
    by (inr e) k = k e

-- ---- constructors put over an environment

pub con_no_exn : (w : World) (n : Bytes) (b : Ty) (c : Option Ty) → IsCon w n (record { arg = c; made = b }) → (a : Option Ty) → record { arg = c; made = b } ≡ raises a → ⊥
con_no_exn w n b c i a e = clash (sym (ap (λ (r : ConTy). meant run.TVar run.TVar r.made) e) ∙ i.2 run.TVar run.TVar)
  where
    clash : TExn ≡ TData i.1 true (row_of i.0 0 run.TVar) → ⊥
    clash q = absurd (cc q)

pub alone_cons : (w : World) (b : Ty) (ks : ConList) (e : Env) → AllCapital (con_names ks) → ((x : Bytes) (a : Option Ty) → ConIn x a ks → IsCon w x (record { arg = a; made = b })) → TypesAlone e → TypesAlone (put_cons b ks e)
alone_cons w b [] e c i h = h
alone_cons w b (k ∷ ks) e c i h = alone_cons w b ks (AddCon k.0 (record { arg = k.1; made = b }) e) c.1 (λ x a j. i x a (inr j)) (c.0, con_no_exn w k.0 b k.1 (i k.0 k.1 (inl (refl, refl))), h)

-- what is known of them
abbrev pub knows : ConList → Known → Known
knows [] k = k
knows (c ∷ cs) k = knows cs (Builds c.0 k)

pub knows_same : (ks : ConList) (cs : Cons) (k : Known) → con_names ks ≡ names_of cs → knows ks k ≡ with_cons cs k
knows_same [] [] k e = refl
knows_same (c ∷ ks) (d ∷ cs) k e = ap (λ n. knows ks (Builds n k)) (ap (head c.0) e) ∙ knows_same ks cs (Builds d.0 k) (ap tail e)
  where
    head : Bytes → List Bytes → Bytes
    head n [] = n
    head n (m ∷ ms) = m

    tail : List Bytes → List Bytes
    tail [] = []
    tail (m ∷ ms) = ms
knows_same [] (d ∷ cs) k e = absurd (cc e)
knows_same (c ∷ ks) [] k e = absurd (cc e)

pub fits_cons : (w : World) (b : Ty) (ks : ConList) (k : Known) (e : Env) → ((x : Bytes) (a : Option Ty) → ConIn x a ks → IsCon w x (record { arg = a; made = b })) → Fits w k e → Fits w (knows ks k) (put_cons b ks e)
fits_cons w b [] k e h m = m
fits_cons w b (c ∷ ks) k e h m =
    fits_cons w b ks (Builds c.0 k) (AddCon c.0 (record { arg = c.1; made = b }) e) (λ x a i. h x a (inr i)) (k, m, inr (refl, h c.0 c.1 (inl (refl, refl))))

-- ---- all definitions of the item

-- an alias, a new variant, and a copy
abbrev pub AllMade : Env → List PTDef → List ℕ → List TyEntry → Type 0
AllMade g [] ss ts = (ss ≡ []) × (ts ≡ [])
AllMade g (Alias vs n w ∷ ds) ss ts = (t : TyEntry) × (us : List TyEntry) × Reads vs g w t.body × (t.cons ≡ []) × AllMade g ds ss us × (ts ≡ t ∷ us)
AllMade g (Variant vs n None cs ∷ ds) ss ts =
    (s : ℕ) × (others : List ℕ) × (t : TyEntry) × (us : List TyEntry) × Made g vs cs s t × AllMade g ds others us × (ss ≡ s ∷ others) × (ts ≡ t ∷ us)
AllMade g (Variant vs n (Some w) cs ∷ ds) ss ts =
    (t : TyEntry) × (us : List TyEntry) × (q : Long) × (w ≡ TAt (TCon (as_arguments vs) q)) × (type_at q g ≡ Some t) × ConsRead vs g cs t.cons
    × AllMade g ds ss us × (ts ≡ t ∷ us)

pub all_made : (g : Env) (ds : List PTDef) (ss : List ℕ) (ts : List TyEntry) → DefsAre g ds ss ts → AllMade g ds ss ts
all_made g [] ss ts r = r
all_made g (Alias vs n w ∷ ds) ss ts r =
    let d = r.4.2 in (
      r.2,
      r.3,
      subst (Reads vs g w) (sym (ap (λ (t : TyEntry). t.body) d.2)) d.1,
      ap (λ (t : TyEntry). t.cons) d.2,
      subst (λ os. AllMade g ds os r.3) (sym (r.6 ∙ ap (λ own. own ++ r.1) r.4.1)) (all_made g ds r.1 r.3 r.5),
      r.7,
    )
all_made g (Variant vs n None cs ∷ ds) ss ts r =
    let d = r.4.1 in (
      d.0,
      r.1,
      r.2,
      r.3,
      record { body = ap (λ (t : TyEntry). t.body) d.4; read = subst (λ (t : TyEntry). ConsRead vs g cs t.cons) (sym d.4) d.3 },
      all_made g ds r.1 r.3 r.5,
      r.6 ∙ ap (λ own. own ++ r.1) d.2,
      r.7,
    )
all_made g (Variant vs n (Some w) cs ∷ ds) ss ts r =
    let d = r.4.2 in (
      r.2,
      r.3,
      d.0,
      d.1,
      d.2,
      d.4,
      subst (λ os. AllMade g ds os r.3) (sym (r.6 ∙ ap (λ own. own ++ r.1) r.4.1)) (all_made g ds r.1 r.3 r.5),
      r.7,
    )

-- ---- a definition and its entry

abbrev pub InGroup : PTDef → TyEntry → List PTDef → List TyEntry → Type 0
InGroup d t [] ts = ⊥
InGroup d t (e ∷ ds) [] = ⊥
InGroup d t (e ∷ ds) (u ∷ ts) = ((d ≡ e) × (t ≡ u)) ⊎ InGroup d t ds ts

-- what it is
abbrev pub DefOf : Env → PTDef → TyEntry → Type 0
DefOf g (Alias vs n w) t = Reads vs g w t.body × (t.cons ≡ [])
DefOf g (Variant vs n None cs) t = (s : ℕ) × Made g vs cs s t
DefOf g (Variant vs n (Some w) cs) t = (q : Long) × (w ≡ TAt (TCon (as_arguments vs) q)) × (type_at q g ≡ Some t) × ConsRead vs g cs t.cons

pub head_of : (g : Env) (d e : PTDef) (t u : TyEntry) → d ≡ e → t ≡ u → DefOf g e u → DefOf g d t
head_of g d e t u p q h = subst (λ x. DefOf g x t) (sym p) (subst (DefOf g e) (sym q) h)

pub def_of : (g : Env) (ds : List PTDef) (ss : List ℕ) (ts : List TyEntry) → AllMade g ds ss ts → (d : PTDef) (t : TyEntry) → InGroup d t ds ts → DefOf g d t
def_of g [] ss ts m d t i = absurd i
def_of g (Alias vs n w ∷ ds) ss ts m d t i = by (subst (InGroup d t (Alias vs n w ∷ ds)) m.5 i) (def_of g ds ss m.1 m.4 d t)
  where
    by : InGroup d t (Alias vs n w ∷ ds) (m.0 ∷ m.1) → (InGroup d t ds m.1 → DefOf g d t) → DefOf g d t
    by (inl h) f = head_of g d (Alias vs n w) t m.0 h.0 h.1 (m.2, m.3)
    by (inr h) f = f h
def_of g (Variant vs n None cs ∷ ds) ss ts m d t i = by (subst (InGroup d t (Variant vs n None cs ∷ ds)) m.7 i) (def_of g ds m.1 m.3 m.5 d t)
  where
    by : InGroup d t (Variant vs n None cs ∷ ds) (m.2 ∷ m.3) → (InGroup d t ds m.3 → DefOf g d t) → DefOf g d t
    by (inl h) f = head_of g d (Variant vs n None cs) t m.2 h.0 h.1 (m.0, m.4)
    by (inr h) f = f h
def_of g (Variant vs n (Some w) cs ∷ ds) ss ts m d t i = by (subst (InGroup d t (Variant vs n (Some w) cs ∷ ds)) m.7 i) (def_of g ds ss m.1 m.6 d t)
  where
    by : InGroup d t (Variant vs n (Some w) cs ∷ ds) (m.0 ∷ m.1) → (InGroup d t ds m.1 → DefOf g d t) → DefOf g d t
    by (inl h) f = head_of g d (Variant vs n (Some w) cs) t m.0 h.0 h.1 (m.2, m.3, m.4, m.5)
    by (inr h) f = f h

-- ---- look-ups over the group

pub type_cons : (y : Bytes) (b : Ty) (ks : ConList) (e g : Env) → type_of y (env.over (put_cons b ks e) g) ≡ type_of y (env.over e g)
type_cons y b [] e g = refl
type_cons y b (c ∷ ks) e g = type_cons y b ks (AddCon c.0 (record { arg = c.1; made = b }) e) g

pub mod_cons : (y : Bytes) (b : Ty) (ks : ConList) (e g : Env) → mod_of y (env.over (put_cons b ks e) g) ≡ mod_of y (env.over e g)
mod_cons y b [] e g = refl
mod_cons y b (c ∷ ks) e g = mod_cons y b ks (AddCon c.0 (record { arg = c.1; made = b }) e) g

pub mod_defs : (y : Bytes) (ds : List PTDef) (ts : List TyEntry) (e g : Env) → mod_of y (env.over (put_defs ds ts e) g) ≡ mod_of y (env.over e g)
mod_defs y [] ts e g = refl
mod_defs y (d ∷ ds) [] e g = refl
mod_defs y (d ∷ ds) (t ∷ ts) e g = mod_defs y ds ts (put_cons t.body t.cons (AddType (name_of d) t e)) g ∙ mod_cons y t.body t.cons (AddType (name_of d) t e) g

abbrev pub FoundIn : List PTDef → List TyEntry → Bytes → TyEntry → Type 0
FoundIn ds ts y e = (d : PTDef) × InGroup d e ds ts × (name_of d ≡ y)

pub type_defs : (y : Bytes) (ds : List PTDef) (ts : List TyEntry) (o g : Env) (e : TyEntry) → type_of y (env.over (put_defs ds ts o) g) ≡ Some e → FoundIn ds ts y e ⊎ (type_of y (env.over o g) ≡ Some e)
type_defs y [] ts o g e q = inr q
type_defs y (d ∷ ds) [] o g e q = inr q
type_defs y (d ∷ ds) (t ∷ ts) o g e q = by (type_defs y ds ts (put_cons t.body t.cons (AddType (name_of d) t o)) g e q)
  where
    here : (b : Bool) → bytes_eq y (name_of d) ≡ b → (if b then Some t else type_of y (env.over o g)) ≡ Some e → FoundIn (d ∷ ds) (t ∷ ts) y e ⊎ (type_of y (env.over o g) ≡ Some e)
    here true p r = inl (d, inl (refl, sym (some_is t e r)), sym ((bytes_eq-Decides y (name_of d)).0 p))
    here false p r = inr r

    by : FoundIn ds ts y e ⊎ (type_of y (env.over (put_cons t.body t.cons (AddType (name_of d) t o)) g) ≡ Some e) → FoundIn (d ∷ ds) (t ∷ ts) y e ⊎ (type_of y (env.over o g) ≡ Some e)
    by (inl h) = inl (h.0, inr h.1, h.2)
    by (inr h) = here (bytes_eq y (name_of d)) refl (sym (type_cons y t.body t.cons (AddType (name_of d) t o) g) ∙ h)

-- ---- names of a group

pub not_other : (x : Bytes) (d : PTDef) (t : TyEntry) (ds : List PTDef) (ts : List TyEntry) → NotAmong x (names_defined ds) → InGroup d t ds ts → bytes_eq (name_of d) x ≡ true → ⊥
not_other x d t [] ts n i e = i
not_other x d t (c ∷ ds) [] n i e = i
not_other x d t (c ∷ ds) (u ∷ ts) n (inl h) e = true_false (bytes_eq x (name_of c)) ((bytes_eq-Decides x (name_of c)).1 (sym ((bytes_eq-Decides (name_of d) x).0 e) ∙ ap name_of h.0)) n.0
not_other x d t (c ∷ ds) (u ∷ ts) n (inr h) e = not_other x d t ds ts n.1 h e

pub equation_in : (d : PTDef) (t : TyEntry) (ds : List PTDef) (ts : List TyEntry) → Distinct (names_defined ds) → InGroup d t ds ts → has_equation (name_of d) ds ≡ is_equation d
equation_in d t [] ts n i = absurd i
equation_in d t (c ∷ ds) [] n i = absurd i
equation_in d t (c ∷ ds) (u ∷ ts) n (inl h) =
    ap (λ b. if b then is_equation c else has_equation (name_of d) ds) ((bytes_eq-Decides (name_of d) (name_of c)).1 (ap name_of h.0)) ∙ ap is_equation (sym h.0)
equation_in d t (c ∷ ds) (u ∷ ts) n (inr h) = by (bytes_eq (name_of d) (name_of c)) refl (equation_in d t ds ts n.1 h)
  where
    by : (b : Bool) → bytes_eq (name_of d) (name_of c) ≡ b → has_equation (name_of d) ds ≡ is_equation d → (if b then is_equation c else has_equation (name_of d) ds) ≡ is_equation d
    by true e k = absurd (not_other (name_of c) d t ds ts n.0 h e)
    by false e k = k

pub below_in : (rank : Bytes → ℕ) (group : List PTDef) (d : PTDef) (t : TyEntry) (ds : List PTDef) (ts : List TyEntry) → EachBelow rank group ds → InGroup d t ds ts → AreBelow rank group (rank (name_of d)) (names_of_equation d)
below_in rank group d t [] ts b i = absurd i
below_in rank group d t (c ∷ ds) [] b i = absurd i
below_in rank group d t (c ∷ ds) (u ∷ ts) b (inl h) = subst (λ x. AreBelow rank group (rank (name_of x)) (names_of_equation x)) (sym h.0) b.0
below_in rank group d t (c ∷ ds) (u ∷ ts) b (inr h) = below_in rank group d t ds ts b.1 h
