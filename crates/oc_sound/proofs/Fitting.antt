-- What is known of a constructor is what the environment and the world have.
use Rattle.std.proofs.Common.{◌≡◌, ◌⊎◌, ℕ, zero, suc, ◌<◌, inl, inr, List, [], ◌∷◌, ◌++◌, length, Option, Some, None, Bool, true, false, if◌then◌else◌, refl, sym, ap, ◌∙◌, subst, arith}
use Rattle.std.specs.Str.{bytes_eq}
use Rattle.std.proofs.lemmas.Slice.Eq.{bytes_eq-Decides}
use Rattle.oc_ast.specs.Plain.{Bytes, Long, PATy, PATys, NoATys, MoreATys, POTy, POTys, NoTys, MoreTys, TVar, TCon, TParen, TAt, TArrow, TTuple}
use Rattle.oc_typing.specs.Ty.{Ty, Tys, NoTypes, MoreTypes, nth}
use Rattle.oc_typing.specs.Env as env
use Rattle.oc_typing.specs.Env.{ConTy, Env, TyEntry, Empty, AddVal, AddCon, AddType, AddMod, con_of, con_at, in_module, mod_at, mod_of, type_at, type_of}
use Rattle.oc_typing.specs.Variables.{Vars, NoVars, OneVar, put_vars}
use Rattle.oc_typing.specs.Patterns.{ConHas}
use Rattle.oc_typing.specs.Written.{AllPartsRead, AllRead, ArgReads, PartReads, Reads, TypeHas, one_more, place_of}
use Rattle.oc_typing.specs.Definitions.{names_in, names_in_all, names_in_part, names_in_parts}
use Rattle.oc_typing.specs.OcTypes.{raises}
use Rattle.oc_steps.specs.Known.{Known, Builds, Raises, held_of, in_held, is_exception, is_raised, led, over, raised_of}
use Rattle.run_types.specs.Types as run
use Rattle.run_types.specs.Types.{ConsT, Ctx, NilT, TData, TExn, TNam, UseAt, World, inst_all}
use Rattle.runs.specs.Names.{last_part}
use Rattle.oc_sound.proofs.Meanings.{arg_at, arg_first, first_row, inst_first, meant_inst}
use Rattle.oc_sound.proofs.Names.{some_is}
use Rattle.oc_sound.specs.Meant.{meant}
use Rattle.oc_sound.specs.Served.{AllHaveFirst, ArgHasFirst, EntryFits, Fits, HasFirst, IsCon, IsExn, NoneItself, Place, arg_tys, row_of, written_tys}

-- ---- one environment over another

pub fits_vars : (w : World) (k : Known) (bs : Vars) (g : Env) → Fits w k g → Fits w k (put_vars bs g)
fits_vars w k NoVars g h = h
fits_vars w k (OneVar x t bs) g h = fits_vars w k bs (AddVal x t g) h

con_over : (w : World) (i k j : Known) (x : Bytes) (c : ConTy) → ((i ≡ Raises x j) × IsExn c) ⊎ ((i ≡ Builds x j) × IsCon w x c) → ((over i k ≡ Raises x (over j k)) × IsExn c) ⊎ ((over i k ≡ Builds x (over j k)) × IsCon w x c)
con_over w i k j x c (inl h) = inl (ap (λ l. over l k) h.0, h.1)
con_over w i k j x c (inr h) = inr (ap (λ l. over l k) h.0, h.1)

pub fits_over : (w : World) (i k : Known) (d g : Env) → Fits w i d → Fits w k g → Fits w (over i k) (env.over d g)
fits_over w i k Empty g h m = subst (λ l. Fits w (over l k) g) (sym h) m
fits_over w i k (AddVal x u d) g h m = fits_over w i k d g h m
fits_over w i k (AddCon x c d) g h m = (over h.0 k, fits_over w h.0 k d g h.1 m, con_over w i k h.0 x c h.2)
fits_over w i k (AddType x t d) g h m = (h.0, fits_over w i k d g h.1 m)
fits_over w i k (AddMod x b d) g h m = (h.0, over h.1 k, h.2, fits_over w h.1 k d g h.3 m, ap (λ l. over l k) h.4)

-- ---- look-ups

abbrev pub KnownCon : World → Bytes → Option Bool → ConTy → Type 0
KnownCon w x r c = ((is_raised r ≡ true) × IsExn c) ⊎ ((is_raised r ≡ false) × IsCon w x c)

con_if : (w : World) (x y : Bytes) (s : Bool) (b : Bool) (o : Option Bool) (c e : ConTy) (p : Option ConTy) → (b ≡ true → KnownCon w x (Some s) e) → (p ≡ Some c → KnownCon w x o c) → (if b then Some e else p) ≡ Some c → KnownCon w x (if b then Some s else o) c
con_if w x y s true o c e p f g h = subst (KnownCon w x (Some s)) (some_is e c h) (f refl)
con_if w x y s false o c e p f g h = g h

same_name : (x y : Bytes) (w : World) (c : ConTy) → x ≡ y → IsCon w y c → IsCon w x c
same_name x y w c e h = subst (λ z. IsCon w z c) (sym e) h

con_in : (w : World) (x : Bytes) (k : Known) (g : Env) (c : ConTy) → Fits w k g → con_of x g ≡ Some c → KnownCon w x (raised_of x k) c
con_in w x k Empty c h e = absurd (cc e)
con_in w x k (AddVal y u g) c h e = con_in w x k g c h e
con_in w x k (AddType y d g) c h e = con_in w x k g c h.1 e
con_in w x k (AddMod y b g) c h e = subst (λ l. KnownCon w x (raised_of x l) c) (sym h.4) (con_in w x h.1 g c h.3 e)
con_in w x k (AddCon y d g) c h e = by h.2 (con_in w x h.0 g c h.1)
  where
    by : ((k ≡ Raises y h.0) × IsExn d) ⊎ ((k ≡ Builds y h.0) × IsCon w y d) → (con_of x g ≡ Some c → KnownCon w x (raised_of x h.0) c) → KnownCon w x (raised_of x k) c
    by (inl m) rest = subst (λ l. KnownCon w x (raised_of x l) c) (sym m.0) (con_if w x y true (bytes_eq x y) (raised_of x h.0) c d (con_of x g) (λ q. inl (refl, m.1)) rest e)
    by (inr m) rest = subst (λ l. KnownCon w x (raised_of x l) c) (sym m.0) (con_if w x y false (bytes_eq x y) (raised_of x h.0) c d (con_of x g) (λ q. inr (refl, same_name x y w d ((bytes_eq-Decides x y).0 q) m.1)) rest e)

abbrev pub KnownMod : World → Option Known → Env → Type 0
KnownMod w o b = (i : Known) × (o ≡ Some i) × Fits w i b

mod_if : (w : World) (s : Bool) (o : Option Known) (b c : Env) (i : Known) (p : Option Env) → Fits w i c → (p ≡ Some b → KnownMod w o b) → (if s then Some c else p) ≡ Some b → KnownMod w (if s then Some i else o) b
mod_if w true o b c i p f g h = (i, refl, subst (Fits w i) (some_is c b h) f)
mod_if w false o b c i p f g h = g h

pub mod_in : (w : World) (x : Bytes) (k : Known) (g b : Env) → Fits w k g → mod_of x g ≡ Some b → KnownMod w (held_of x k) b
mod_in w x k Empty b h e = absurd (cc e)
mod_in w x k (AddVal y u g) b h e = mod_in w x k g b h e
mod_in w x k (AddType y d g) b h e = mod_in w x k g b h.1 e
mod_in w x k (AddCon y d g) b h e = by h.2 (mod_in w x h.0 g b h.1 e)
  where
    by : ((k ≡ Raises y h.0) × IsExn d) ⊎ ((k ≡ Builds y h.0) × IsCon w y d) → KnownMod w (held_of x h.0) b → KnownMod w (held_of x k) b
    by (inl m) r = subst (λ l. KnownMod w (held_of x l) b) (sym m.0) r
    by (inr m) r = subst (λ l. KnownMod w (held_of x l) b) (sym m.0) r
mod_in w x k (AddMod y c g) b h e = subst (λ l. KnownMod w (held_of x l) b) (sym h.4) (mod_if w (bytes_eq x y) (held_of x h.1) b c h.0 (mod_of x g) h.2 (mod_in w x h.1 g b h.3) e)

type_if : (w : World) (s : Bool) (t d : TyEntry) (p : Option TyEntry) → EntryFits w d → (p ≡ Some t → EntryFits w t) → (if s then Some d else p) ≡ Some t → EntryFits w t
type_if w true t d p f g h = subst (EntryFits w) (some_is d t h) f
type_if w false t d p f g h = g h

type_in : (w : World) (x : Bytes) (k : Known) (g : Env) (t : TyEntry) → Fits w k g → type_of x g ≡ Some t → EntryFits w t
type_in w x k Empty t h e = absurd (cc e)
type_in w x k (AddVal y u g) t h e = type_in w x k g t h e
type_in w x k (AddCon y c g) t h e = type_in w x h.0 g t h.1 e
type_in w x k (AddType y d g) t h e = type_if w (bytes_eq x y) t d (type_of x g) h.0 (type_in w x k g t h.1) e
type_in w x k (AddMod y b g) t h e = type_in w x h.1 g t h.3 e

-- what a module on the way is
module_at : {A : Type 0} (look : Env → Option A) (o : Option Env) (a : A) → in_module look o ≡ Some a → (b : Env) × (o ≡ Some b) × (look b ≡ Some a)
module_at look None a e = absurd (cc e)
module_at look (Some b) a e = (b, refl, e)

pub con_is : (w : World) (q : Long) (k : Known) (g : Env) (c : ConTy) → Fits w k g → con_at q g ≡ Some c → KnownCon w (last_part q) (led raised_of q k) c
con_is w [] k g c h e = absurd (cc e)
con_is w (x ∷ []) k g c h e = con_in w x k g c h e
con_is w (m ∷ x ∷ q) k g c h e =
    let b = module_at (λ d. con_at (x ∷ q) d) (mod_of m g) c e in
    let i = mod_in w m k g b.0 h b.1 in
    subst (λ o. KnownCon w (last_part (x ∷ q)) (in_held (λ l. led raised_of (x ∷ q) l) o) c) (sym i.1) (con_is w (x ∷ q) i.0 b.0 c i.2 b.2)

pub mod_is : (w : World) (q : Long) (k : Known) (g b : Env) → Fits w k g → mod_at q g ≡ Some b → KnownMod w (led held_of q k) b
mod_is w [] k g b h e = absurd (cc e)
mod_is w (x ∷ []) k g b h e = mod_in w x k g b h e
mod_is w (m ∷ x ∷ q) k g b h e =
    let d = module_at (λ d. mod_at (x ∷ q) d) (mod_of m g) b e in
    let i = mod_in w m k g d.0 h d.1 in
    subst (λ o. KnownMod w (in_held (λ l. led held_of (x ∷ q) l) o) b) (sym i.1) (mod_is w (x ∷ q) i.0 d.0 b i.2 d.2)

pub type_is : (w : World) (q : Long) (k : Known) (g : Env) (t : TyEntry) → Fits w k g → type_at q g ≡ Some t → EntryFits w t
type_is w [] k g t h e = absurd (cc e)
type_is w (x ∷ []) k g t h e = type_in w x k g t h e
type_is w (m ∷ x ∷ q) k g t h e =
    let d = module_at (λ d. type_at (x ∷ q) d) (mod_of m g) t e in
    let i = mod_in w m k g d.0 h d.1 in type_is w (x ∷ q) i.0 d.0 t i.2 d.2

-- ---- a written type has no variable but those that are bound where it stands

abbrev pub NoneItselfAt : Env → Type 0
NoneItselfAt g = (q : Long) (t : TyEntry) → type_at q g ≡ Some t → NoneItself t.body

place_below : (v : Bytes) (vs : List Bytes) (i : ℕ) → place_of v vs ≡ Some i → i < length vs
place_below v [] i e = absurd (cc e)
place_below v (x ∷ vs) i e = by (bytes_eq v x) (place_of v vs) (place_below v vs) e
  where
    by : (b : Bool) (o : Option ℕ) → ((j : ℕ) → o ≡ Some j → j < length vs) → (if b then Some 0 else one_more o) ≡ Some i → i < suc (length vs)
    by true o f h = omega (arith, some_is 0 i h)
    by false None f h = absurd (cc h)
    by false (Some j) f h = omega (arith, some_is (suc j) i h, f j refl)

nth_first : (n : ℕ) (ts : Tys) → AllHaveFirst n ts → (i : ℕ) → HasFirst n (nth ts i)
nth_first n NoTypes h i = tt
nth_first n (MoreTypes t ts) h zero = h.0
nth_first n (MoreTypes t ts) h (suc i) = nth_first n ts h.1 i

type_has : (n : ℕ) (o : Option TyEntry) (ts : Tys) (t : Ty) → ((d : TyEntry) → o ≡ Some d → NoneItself d.body) → AllHaveFirst n ts → TypeHas o ts t → HasFirst n t
type_has n None ts t f a h = absurd h
type_has n (Some d) ts t f a h = subst (HasFirst n) (sym h.1) (inst_first n (nth ts) (nth_first n ts a) d.body (f d refl))

abbrev pub Each : {A : Type 0} → (A → Type 0) → List A → Type 0
Each P [] = Unit {0}
Each P (x ∷ xs) = P x × Each P xs

each_left : {A : Type 0} (P : A → Type 0) (xs ys : List A) → Each P (xs ++ ys) → Each P xs
each_left P [] ys h = tt
each_left P (x ∷ xs) ys h = (h.0, each_left P xs ys h.1)

each_right : {A : Type 0} (P : A → Type 0) (xs ys : List A) → Each P (xs ++ ys) → Each P ys
each_right P [] ys h = h
each_right P (x ∷ xs) ys h = each_right P xs ys h.1

each_all : {A : Type 0} (P : A → Type 0) → ((x : A) → P x) → (xs : List A) → Each P xs
each_all P f [] = tt
each_all P f (x ∷ xs) = (f x, each_all P f xs)

-- what the bare name leads to, and a path through modules
abbrev pub NameOk : Env → Bytes → Type 0
NameOk g x = (t : TyEntry) → type_of x g ≡ Some t → NoneItself t.body

abbrev pub PathsOk : Env → Type 0
PathsOk g = (m x : Bytes) (q : Long) (t : TyEntry) → type_at (m ∷ x ∷ q) g ≡ Some t → NoneItself t.body

mutual
  part_first : (vs : List Bytes) (g : Env) → PathsOk g → (p : PATy) (t : Ty) → Each (NameOk g) (names_in_part p) → PartReads vs g p t → HasFirst (length vs) t
  part_first vs g l (TVar v) t n r = subst (HasFirst (length vs)) (sym r.2) (place_below v vs r.0 r.1)
  part_first vs g l (TCon ws []) t n r = absurd r.2
  part_first vs g l (TCon ws (x ∷ [])) t n r = type_has (length vs) (type_of x g) r.0 t n.0 (all_first vs g l ws r.0 n.1 r.1) r.2
  part_first vs g l (TCon ws (m ∷ x ∷ q)) t n r = type_has (length vs) (type_at (m ∷ x ∷ q) g) r.0 t (l m x q) (all_first vs g l ws r.0 n r.1) r.2
  part_first vs g l (TParen p) t n r = reads_first vs g l p t n r

  pub reads_first : (vs : List Bytes) (g : Env) → PathsOk g → (p : POTy) (t : Ty) → Each (NameOk g) (names_in p) → Reads vs g p t → HasFirst (length vs) t
  reads_first vs g l (TAt p) t n r = part_first vs g l p t n r
  reads_first vs g l (TArrow a b) t n r =
      subst (HasFirst (length vs)) (sym r.4)
      (part_first vs g l a r.0 (each_left (NameOk g) (names_in_part a) (names_in b) n) r.2, reads_first vs g l b r.1 (each_right (NameOk g) (names_in_part a) (names_in b) n) r.3)
  reads_first vs g l (TTuple p ps) t n r =
      subst (HasFirst (length vs)) (sym r.4)
      (part_first vs g l p r.0 (each_left (NameOk g) (names_in_part p) (names_in_parts ps) n) r.2, parts_first vs g l ps r.1 (each_right (NameOk g) (names_in_part p) (names_in_parts ps) n) r.3)

  parts_first : (vs : List Bytes) (g : Env) → PathsOk g → (ps : PATys) (ts : Tys) → Each (NameOk g) (names_in_parts ps) → AllPartsRead vs g ps ts → AllHaveFirst (length vs) ts
  parts_first vs g l NoATys ts n r = subst (AllHaveFirst (length vs)) (sym r) tt
  parts_first vs g l (MoreATys p ps) ts n r =
      subst (AllHaveFirst (length vs)) (sym r.4)
      (part_first vs g l p r.0 (each_left (NameOk g) (names_in_part p) (names_in_parts ps) n) r.2, parts_first vs g l ps r.1 (each_right (NameOk g) (names_in_part p) (names_in_parts ps) n) r.3)

  all_first : (vs : List Bytes) (g : Env) → PathsOk g → (ps : POTys) (ts : Tys) → Each (NameOk g) (names_in_all ps) → AllRead vs g ps ts → AllHaveFirst (length vs) ts
  all_first vs g l NoTys ts n r = subst (AllHaveFirst (length vs)) (sym r) tt
  all_first vs g l (MoreTys p ps) ts n r =
      subst (AllHaveFirst (length vs)) (sym r.4)
      (reads_first vs g l p r.0 (each_left (NameOk g) (names_in p) (names_in_all ps) n) r.2, all_first vs g l ps r.1 (each_right (NameOk g) (names_in p) (names_in_all ps) n) r.3)

pub args_first : (vs : List Bytes) (g : Env) → NoneItselfAt g → (p : Option PATy) (a : Option Ty) → ArgReads vs g p a → ArgHasFirst (length vs) a
args_first vs g n None a r = subst (ArgHasFirst (length vs)) (sym r) tt
args_first vs g n (Some p) a r = subst (ArgHasFirst (length vs)) (sym r.2) (part_first vs g (λ m x q. n (m ∷ x ∷ q)) p r.0 (each_all (NameOk g) (λ x. n (x ∷ [])) (names_in_part p)) r.1)

-- ---- a constructor at a type

-- the choice of types at which it has the argument and makes the type
abbrev AtChoice : (ℕ → run.Ty) → (ℕ → run.Ty) → ConTy → Option Ty → Ty → Type 0
AtChoice f b c a t = (d : ℕ → run.Ty) × (arg_tys f b a ≡ arg_tys f d c.arg) × (meant f b t ≡ meant f d c.made)

choice_of : (f b : ℕ → run.Ty) (c : ConTy) (a : Option Ty) (t : Ty) → ConHas (Some c) a t → AtChoice f b c a t
choice_of f b c None t h = ((λ i. meant f b (h.1.0 i)), ap (arg_tys f (λ i. meant f b (h.1.0 i))) (sym h.0), ap (meant f b) h.1.2 ∙ meant_inst f b h.1.0 c.made)
choice_of f b c (Some u) t h =
    let d : ℕ → run.Ty = λ i. meant f b (h.1 i) in
    (d, ap (λ x. ConsT x NilT) (ap (meant f b) h.4 ∙ meant_inst f b h.1 h.0) ∙ ap (arg_tys f d) (sym h.3), ap (meant f b) h.5 ∙ meant_inst f b h.1 c.made)

-- an exception, or a constructor of the world
abbrev pub ConMeans : World → Ctx → Long → Bool → run.Tys → run.Ty → Type 0
ConMeans w x q e ts t =
    ((e ≡ true) × UseAt (x q) (TNam ts) × (t ≡ TExn))
    ⊎ ((e ≡ false) × (d : ℕ) × (us : run.Tys) × (args : run.Tys) × (w.datas d true (last_part q) ≡ Some args) × (ts ≡ inst_all us args) × (t ≡ TData d true us))

arg_none : (f d : ℕ → run.Ty) (a : Option Ty) → ArgHasFirst 0 a → arg_tys f d a ≡ written_tys a
arg_none f d a h = arg_first 0 f run.TVar d run.TVar (λ i l. absurd (omega (arith, l))) a h

con_found : (w : World) (k : Known) (g : Env) (f : ℕ → run.Ty) (x : Ctx) (b : ℕ → run.Ty) → Place w k g f x → (q : Long) (a : Option Ty) (t : Ty) (o : Option ConTy) → con_at q g ≡ o → ConHas o a t → ConMeans w x q (is_exception q k) (arg_tys f b a) (meant f b t)
con_found w k g f x b p q a t None e h = absurd h
con_found w k g f x b p q a t (Some c) e h = by (con_is w q k g c p.fits e) (choice_of f b c a t h)
  where
    raised : IsExn c → AtChoice f b c a t → UseAt (x q) (TNam (arg_tys f b a)) × (meant f b t ≡ TExn)
    raised m s =
        let n : arg_tys f b a ≡ written_tys m.0 = s.1 ∙ (ap (λ (r : ConTy). arg_tys f s.0 r.arg) m.1 ∙ arg_none f s.0 m.0 m.2) in
        (subst (λ ts. UseAt (x q) (TNam ts)) (sym n) (p.serves.exns q m.0 (e ∙ ap Some m.1)), s.2 ∙ ap (λ (r : ConTy). meant f s.0 r.made) m.1)

    by : KnownCon w (last_part q) (led raised_of q k) c → AtChoice f b c a t → ConMeans w x q (is_exception q k) (arg_tys f b a) (meant f b t)
    by (inl m) s = let r = raised m.1 s in inl (m.0, r.0, r.1)
    by (inr m) s =
        let us = row_of m.1.0 0 s.0 in
        let h1 : ℕ → run.Ty = λ i. run.nth i us in
        inr (
          m.0,
          m.1.1,
          us,
          written_tys c.arg,
          m.1.4,
          s.1 ∙ (arg_first m.1.0 f h1 s.0 h1 (first_row m.1.0 s.0) c.arg m.1.3 ∙ sym (arg_at us c.arg)),
          s.2 ∙ m.1.2 f s.0,
        )

pub con_means : (w : World) (k : Known) (g : Env) (f : ℕ → run.Ty) (x : Ctx) (b : ℕ → run.Ty) → Place w k g f x → (q : Long) (a : Option Ty) (t : Ty) → ConHas (con_at q g) a t → ConMeans w x q (is_exception q k) (arg_tys f b a) (meant f b t)
con_means w k g f x b p q a t h = con_found w k g f x b p q a t (con_at q g) refl h

-- the argument of an exception has no variables
pub exn_first : (w : World) (q : Long) (k : Known) (g : Env) (a : Option Ty) → Fits w k g → con_at q g ≡ Some (raises a) → ArgHasFirst 0 a
exn_first w q k g a h e = by (con_is w q k g (raises a) h e)
  where
    clash : (d : ℕ) (us : run.Tys) → TExn ≡ TData d true us → ⊥
    clash d us i = absurd (cc i)

    by : KnownCon w (last_part q) (led raised_of q k) (raises a) → ArgHasFirst 0 a
    by (inl m) = subst (ArgHasFirst 0) (sym (ap (λ (r : ConTy). r.arg) m.1.1)) m.1.2
    by (inr m) = absurd (clash m.1.1 (row_of m.1.0 0 run.TVar) (m.1.2 run.TVar run.TVar))
