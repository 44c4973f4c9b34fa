-- The schemes of a place after a binding.
use Rattle.std.proofs.Common.{◌≡◌, ◌⊎◌, ℕ, ◌+◌, ◌≤◌, inl, inr, [], ◌∷◌, ◌++◌, Option, Some, None, Bool, true, false, if◌then◌else◌, refl, sym, ap, ◌∙◌, subst, arith}
use Rattle.std.specs.Str.{bytes_eq}
use Rattle.std.proofs.lemmas.Slice.Eq.{bytes_eq-Decides}
use Rattle.oc_ast.specs.Plain.{Bytes, Long}
use Rattle.oc_typing.specs.Ty.{Ty, bool}
use Rattle.oc_typing.specs.Env as env
use Rattle.oc_typing.specs.Env.{ConTy, Env, TyEntry, Empty, AddVal, AddCon, AddType, AddMod, at, con_of, con_at, in_module, mod_at, mod_of, val_at, val_of}
use Rattle.oc_typing.specs.Variables.{NoVars, OneVar, Vars, put_vars}
use Rattle.oc_typing.specs.OcTypes.{raises}
use Rattle.oc_typing.specs.OcText.{constant}
use Rattle.oc_steps.specs.Known.{Holds, Known, Raises}
use Rattle.run_types.specs.Types as run
use Rattle.run_types.specs.Types.{Ctx, Mono, Scheme, TNam, UseAt, World, exn_ctx, join, no_ctx, under_ty}
use Rattle.runs.specs.Forms.{var}
use Rattle.runs.specs.Names.{Name, last_or, last_part, same, same_part}
use Rattle.oc_sound.proofs.Fitting.{fits_vars}
use Rattle.oc_sound.proofs.Meanings.{SameBelow, meant_same, own_bound}
use Rattle.oc_sound.proofs.Names.{AllSmall, BoundOr, IsBound, bound_in, con_put, large_unbound, long_other, long_unbound, mod_put, part_bytes, small_bound, small_other, some_is, val_put, var_same}
use Rattle.oc_sound.specs.Meant.{meant}
use Rattle.oc_sound.specs.Words.{capital}
use Rattle.oc_sound.specs.Served.{ArgHasFirst, Fits, NoneItself, Place, Serves, written_tys}

use_then : (c : Bool) (a b : Option Scheme) (t : run.Ty) → c ≡ true → UseAt a t → UseAt (if c then a else b) t
use_then c a b t e h = subst (λ d. UseAt (if d then a else b) t) (sym e) h

use_else : (c : Bool) (a b : Option Scheme) (t : run.Ty) → c ≡ false → UseAt b t → UseAt (if c then a else b) t
use_else c a b t e h = subst (λ d. UseAt (if d then a else b) t) (sym e) h

abbrev made_of : ConTy → run.Ty
made_of c = meant run.TVar run.TVar c.made

-- an exception is no truth value
pub not_truth : (a : Option Ty) → raises a ≡ constant bool → ⊥
not_truth a e = clash (ap made_of e)
  where
    clash : run.TExn ≡ run.bool_ty → ⊥
    clash q = absurd (cc q)

pub exn_large : (f : ℕ → run.Ty) (g : Env) (x : Ctx) (q : Long) (a : Option Ty) → Serves f g x → con_at q g ≡ Some (raises a) → capital (last_part q) ≡ true
exn_large f g x q a s e = by (s.large q (raises a) e)
  where
    by : (capital (last_part q) ≡ true) ⊎ (raises a ≡ constant bool) → capital (last_part q) ≡ true
    by (inl h) = h
    by (inr h) = absurd (not_truth a h)

-- ---- variables

-- each variable has each instance of its scheme
abbrev pub VarsServe : (ℕ → run.Ty) → Vars → Ctx → Type 0
VarsServe f bs h = (y : Bytes) (t : Ty) → IsBound y t bs → (b : ℕ → run.Ty) → UseAt (h (var y)) (meant f b t)

bound_true : (bs : Vars) (y : Bytes) (t : Ty) → IsBound y t bs → bound_in bs (var y) ≡ true
bound_true NoVars y t h = absurd h
bound_true (OneVar x u bs) y t (inl h) = ap (λ b. if b then true else bound_in bs (var y)) (var_same x y true h.0)
bound_true (OneVar x u bs) y t (inr h) = ap (λ b. if same (var x) (var y) then true else b) (bound_true bs y t h) ∙ both (same (var x) (var y))
  where
    both : (b : Bool) → (if b then true else true) ≡ true
    both true = refl
    both false = refl

long_put : {A : Type 0} (look : Bytes → Env → Option A) (bs : Vars) (g : Env) (m y : Bytes) (q : Long) → at look (m ∷ y ∷ q) (put_vars bs g) ≡ at look (m ∷ y ∷ q) g
long_put look bs g m y q = ap (λ o. in_module (λ b. at look (y ∷ q) b) o) (mod_put bs m g)

pub serves_put : (f : ℕ → run.Ty) (g : Env) (x h : Ctx) (bs : Vars) (bd : Name → Bool) → Serves f g x → ((q : Name) → bd q ≡ bound_in bs q) → AllSmall bs → VarsServe f bs h → Serves f (put_vars bs g) (join bd h x)
serves_put f g x h bs bd s d n v = record { vals = vals; exns = exns; small = small; large = large }
  where
    one : (y : Bytes) (u : Ty) (b : ℕ → run.Ty) → BoundOr y bs g u → UseAt (join bd h x (var y)) (meant f b u)
    one y u b (inl i) = use_then (bd (var y)) (h (var y)) (x (var y)) (meant f b u) (d (var y) ∙ bound_true bs y u i) (v y u i b)
    one y u b (inr i) = use_else (bd (var y)) (h (var y)) (x (var y)) (meant f b u) (d (var y) ∙ i.0) (s.vals (var y) u i.1 b)

    vals : (q : Long) (u : Ty) → val_at q (put_vars bs g) ≡ Some u → (b : ℕ → run.Ty) → UseAt (join bd h x q) (meant f b u)
    vals [] u e b = absurd (cc e)
    vals (y ∷ []) u e b = one y u b (val_put bs y g u e)
    vals (m ∷ y ∷ q) u e b =
        use_else (bd (m ∷ y ∷ q)) (h (m ∷ y ∷ q)) (x (m ∷ y ∷ q)) (meant f b u) (d (m ∷ y ∷ q) ∙ long_unbound bs m y q) (s.vals (m ∷ y ∷ q) u (sym (long_put val_of bs g m y q) ∙ e) b)

    exns : (q : Long) (a : Option Ty) → con_at q (put_vars bs g) ≡ Some (raises a) → UseAt (join bd h x q) (TNam (written_tys a))
    exns [] a e = absurd (cc e)
    exns (y ∷ []) a e =
        let k : con_of y g ≡ Some (raises a) = sym (con_put bs y g) ∙ e in
        use_else (bd (var y)) (h (var y)) (x (var y)) (TNam (written_tys a)) (d (var y) ∙ large_unbound bs y n (exn_large f g x (var y) a s k)) (s.exns (var y) a k)
    exns (m ∷ y ∷ q) a e =
        use_else (bd (m ∷ y ∷ q)) (h (m ∷ y ∷ q)) (x (m ∷ y ∷ q)) (TNam (written_tys a)) (d (m ∷ y ∷ q) ∙ long_unbound bs m y q) (s.exns (m ∷ y ∷ q) a (sym (long_put con_of bs g m y q) ∙ e))

    small_one : (y : Bytes) (u : Ty) → BoundOr y bs g u → capital y ≡ false
    small_one y u (inl i) = small_bound bs y u n i
    small_one y u (inr i) = s.small (var y) u i.1

    small : (q : Long) (u : Ty) → val_at q (put_vars bs g) ≡ Some u → capital (last_part q) ≡ false
    small [] u e = absurd (cc e)
    small (y ∷ []) u e = small_one y u (val_put bs y g u e)
    small (m ∷ y ∷ q) u e = s.small (m ∷ y ∷ q) u (sym (long_put val_of bs g m y q) ∙ e)

    large : (q : Long) (c : ConTy) → con_at q (put_vars bs g) ≡ Some c → (capital (last_part q) ≡ true) ⊎ (c ≡ constant bool)
    large [] c e = absurd (cc e)
    large (y ∷ []) c e = s.large (var y) c (sym (con_put bs y g) ∙ e)
    large (m ∷ y ∷ q) c e = s.large (m ∷ y ∷ q) c (sym (long_put con_of bs g m y q) ∙ e)

-- ---- an exception

pub serves_exn : (f : ℕ → run.Ty) (g : Env) (x : Ctx) (n : Bytes) (a : Option Ty) → Serves f g x → capital n ≡ true → Serves f (AddCon n (raises a) g) (join (same (var n)) (exn_ctx (written_tys a)) x)
serves_exn f g x n a s k = record { vals = vals; exns = exns; small = small; large = large }
  where
    h : Ctx
    h = exn_ctx (written_tys a)

    vals : (q : Long) (u : Ty) → val_at q (AddCon n (raises a) g) ≡ Some u → (b : ℕ → run.Ty) → UseAt (join (same (var n)) h x q) (meant f b u)
    vals [] u e b = absurd (cc e)
    vals (y ∷ []) u e b = use_else (same (var n) (var y)) (h (var y)) (x (var y)) (meant f b u) (small_other n y k (s.small (var y) u e)) (s.vals (var y) u e b)
    vals (m ∷ y ∷ q) u e b = use_else (same (var n) (m ∷ y ∷ q)) (h (m ∷ y ∷ q)) (x (m ∷ y ∷ q)) (meant f b u) (long_other n m y q) (s.vals (m ∷ y ∷ q) u e b)

    one : (y : Bytes) (b : Option Ty) (c : Bool) → bytes_eq y n ≡ c → (if c then Some (raises a) else con_of y g) ≡ Some (raises b) → UseAt (join (same (var n)) h x (var y)) (TNam (written_tys b))
    one y b true p e =
        use_then (same (var n) (var y)) (h (var y)) (x (var y)) (TNam (written_tys b)) (var_same n y true p) (ap (λ (r : ConTy). TNam (written_tys r.arg)) (sym (some_is (raises a) (raises b) e)))
    one y b false p e = use_else (same (var n) (var y)) (h (var y)) (x (var y)) (TNam (written_tys b)) (var_same n y false p) (s.exns (var y) b e)

    exns : (q : Long) (b : Option Ty) → con_at q (AddCon n (raises a) g) ≡ Some (raises b) → UseAt (join (same (var n)) h x q) (TNam (written_tys b))
    exns [] b e = absurd (cc e)
    exns (y ∷ []) b e = one y b (bytes_eq y n) refl e
    exns (m ∷ y ∷ q) b e = use_else (same (var n) (m ∷ y ∷ q)) (h (m ∷ y ∷ q)) (x (m ∷ y ∷ q)) (TNam (written_tys b)) (long_other n m y q) (s.exns (m ∷ y ∷ q) b e)

    small : (q : Long) (u : Ty) → val_at q (AddCon n (raises a) g) ≡ Some u → capital (last_part q) ≡ false
    small [] u e = absurd (cc e)
    small (y ∷ []) u e = s.small (var y) u e
    small (m ∷ y ∷ q) u e = s.small (m ∷ y ∷ q) u e

    large_one : (y : Bytes) (c : ConTy) (i : Bool) → bytes_eq y n ≡ i → (if i then Some (raises a) else con_of y g) ≡ Some c → (capital y ≡ true) ⊎ (c ≡ constant bool)
    large_one y c true p e = inl (subst (λ z. capital z ≡ true) (sym ((bytes_eq-Decides y n).0 p)) k)
    large_one y c false p e = s.large (var y) c e

    large : (q : Long) (c : ConTy) → con_at q (AddCon n (raises a) g) ≡ Some c → (capital (last_part q) ≡ true) ⊎ (c ≡ constant bool)
    large [] c e = absurd (cc e)
    large (y ∷ []) c e = large_one y c (bytes_eq y n) refl e
    large (m ∷ y ∷ q) c e = s.large (m ∷ y ∷ q) c e

-- ---- a module

pub serves_mod : (f : ℕ → run.Ty) (g b : Env) (x o : Ctx) (m : Bytes) → Serves f g x → Serves f b o → Serves f (AddMod m b g) (under_ty m o x)
serves_mod f g b x o m s t = record { vals = vals; exns = exns; small = small; large = large }
  where
    in_val : (n y : Bytes) (q : Long) (u : Ty) (d : ℕ → run.Ty) (c : Bool) → bytes_eq n m ≡ c → in_module (λ e. val_at (y ∷ q) e) (if c then Some b else mod_of n g) ≡ Some u → UseAt (under_ty m o x (n ∷ y ∷ q)) (meant f d u)
    in_val n y q u d true p e = use_then (same_part m n) (o (y ∷ q)) (x (n ∷ y ∷ q)) (meant f d u) (part_bytes m n true p) (t.vals (y ∷ q) u e d)
    in_val n y q u d false p e = use_else (same_part m n) (o (y ∷ q)) (x (n ∷ y ∷ q)) (meant f d u) (part_bytes m n false p) (s.vals (n ∷ y ∷ q) u e d)

    vals : (q : Long) (u : Ty) → val_at q (AddMod m b g) ≡ Some u → (d : ℕ → run.Ty) → UseAt (under_ty m o x q) (meant f d u)
    vals [] u e d = absurd (cc e)
    vals (y ∷ []) u e d = s.vals (var y) u e d
    vals (n ∷ y ∷ q) u e d = in_val n y q u d (bytes_eq n m) refl e

    in_exn : (n y : Bytes) (q : Long) (a : Option Ty) (c : Bool) → bytes_eq n m ≡ c → in_module (λ e. con_at (y ∷ q) e) (if c then Some b else mod_of n g) ≡ Some (raises a) → UseAt (under_ty m o x (n ∷ y ∷ q)) (TNam (written_tys a))
    in_exn n y q a true p e = use_then (same_part m n) (o (y ∷ q)) (x (n ∷ y ∷ q)) (TNam (written_tys a)) (part_bytes m n true p) (t.exns (y ∷ q) a e)
    in_exn n y q a false p e = use_else (same_part m n) (o (y ∷ q)) (x (n ∷ y ∷ q)) (TNam (written_tys a)) (part_bytes m n false p) (s.exns (n ∷ y ∷ q) a e)

    exns : (q : Long) (a : Option Ty) → con_at q (AddMod m b g) ≡ Some (raises a) → UseAt (under_ty m o x q) (TNam (written_tys a))
    exns [] a e = absurd (cc e)
    exns (y ∷ []) a e = s.exns (var y) a e
    exns (n ∷ y ∷ q) a e = in_exn n y q a (bytes_eq n m) refl e

    in_small : (n y : Bytes) (q : Long) (u : Ty) (c : Bool) → bytes_eq n m ≡ c → in_module (λ e. val_at (y ∷ q) e) (if c then Some b else mod_of n g) ≡ Some u → capital (last_or y q) ≡ false
    in_small n y q u true p e = t.small (y ∷ q) u e
    in_small n y q u false p e = s.small (n ∷ y ∷ q) u e

    small : (q : Long) (u : Ty) → val_at q (AddMod m b g) ≡ Some u → capital (last_part q) ≡ false
    small [] u e = absurd (cc e)
    small (y ∷ []) u e = s.small (var y) u e
    small (n ∷ y ∷ q) u e = in_small n y q u (bytes_eq n m) refl e

    in_large : (n y : Bytes) (q : Long) (a : ConTy) (c : Bool) → bytes_eq n m ≡ c → in_module (λ e. con_at (y ∷ q) e) (if c then Some b else mod_of n g) ≡ Some a → (capital (last_or y q) ≡ true) ⊎ (a ≡ constant bool)
    in_large n y q a true p e = t.large (y ∷ q) a e
    in_large n y q a false p e = s.large (n ∷ y ∷ q) a e

    large : (q : Long) (c : ConTy) → con_at q (AddMod m b g) ≡ Some c → (capital (last_part q) ≡ true) ⊎ (c ≡ constant bool)
    large [] c e = absurd (cc e)
    large (y ∷ []) c e = s.large (var y) c e
    large (n ∷ y ∷ q) c e = in_large n y q c (bytes_eq n m) refl e

-- a path through the module at q
through_at : {A : Type 0} (look : Bytes → Env → Option A) (q : Long) (y : Bytes) (r : Long) (g b : Env) → mod_at q g ≡ Some b → at look (q ++ y ∷ r) g ≡ at look (y ∷ r) b
through_at look [] y r g b e = absurd (cc e)
through_at look (m ∷ []) y r g b e = ap (λ o. in_module (λ d. at look (y ∷ r) d) o) e
through_at {A} look (m ∷ n ∷ q) y r g b e = by (mod_of m g) e (λ d. through_at look (n ∷ q) y r d b)
  where
    by : (o : Option Env) → in_module (λ d. mod_at (n ∷ q) d) o ≡ Some b → ((d : Env) → mod_at (n ∷ q) d ≡ Some b → at look (n ∷ q ++ y ∷ r) d ≡ at look (y ∷ r) b) → in_module (λ d. at look (n ∷ q ++ y ∷ r) d) o ≡ at look (y ∷ r) b
    by None h k = absurd (cc h)
    by (Some d) h k = k d h

last_through : (p : Bytes) (q : Long) (y : Bytes) (r : Long) → last_or p (q ++ y ∷ r) ≡ last_or y r
last_through p [] y r = refl
last_through p (m ∷ q) y r = last_through m q y r

pub serves_at : (f : ℕ → run.Ty) (g b : Env) (x : Ctx) (q : Long) → Serves f g x → mod_at q g ≡ Some b → Serves f b (λ r. x (q ++ r))
serves_at f g b x q s e = record { vals = vals; exns = exns; small = small; large = large }
  where
    vals : (r : Long) (u : Ty) → val_at r b ≡ Some u → (d : ℕ → run.Ty) → UseAt (x (q ++ r)) (meant f d u)
    vals [] u h d = absurd (cc h)
    vals (y ∷ r) u h d = s.vals (q ++ y ∷ r) u (through_at val_of q y r g b e ∙ h) d

    exns : (r : Long) (a : Option Ty) → con_at r b ≡ Some (raises a) → UseAt (x (q ++ r)) (TNam (written_tys a))
    exns [] a h = absurd (cc h)
    exns (y ∷ r) a h = s.exns (q ++ y ∷ r) a (through_at con_of q y r g b e ∙ h)

    small : (r : Long) (u : Ty) → val_at r b ≡ Some u → capital (last_part r) ≡ false
    small [] u h = absurd (cc h)
    small (y ∷ r) u h = subst (λ z. capital z ≡ false) (last_through [] q y r) (s.small (q ++ y ∷ r) u (through_at val_of q y r g b e ∙ h))

    large : (r : Long) (c : ConTy) → con_at r b ≡ Some c → (capital (last_part r) ≡ true) ⊎ (c ≡ constant bool)
    large [] c h = absurd (cc h)
    large (y ∷ r) c h = subst (λ z. (capital z ≡ true) ⊎ (c ≡ constant bool)) (last_through [] q y r) (s.large (q ++ y ∷ r) c (through_at con_of q y r g b e ∙ h))

pub serves_empty : (f : ℕ → run.Ty) → Serves f Empty no_ctx
serves_empty f = record { vals = vals; exns = exns; small = small; large = large }
  where
    none : {A : Type 0} (look : Bytes → Env → Option A) → ((y : Bytes) → look y Empty ≡ None) → (q : Long) (a : A) → at look q Empty ≡ Some a → ⊥
    none look k [] a e = absurd (cc e)
    none look k (y ∷ []) a e = clash (sym (k y) ∙ e)
      where
        clash : None ≡ Some a → ⊥
        clash h = absurd (cc h)
    none look k (m ∷ y ∷ q) a e = absurd (cc e)

    vals : (q : Long) (u : Ty) → val_at q Empty ≡ Some u → (b : ℕ → run.Ty) → UseAt (no_ctx q) (meant f b u)
    vals q u e b = none val_of (λ y. refl) q u e

    exns : (q : Long) (a : Option Ty) → con_at q Empty ≡ Some (raises a) → UseAt (no_ctx q) (TNam (written_tys a))
    exns q a e = none con_of (λ y. refl) q (raises a) e

    small : (q : Long) (u : Ty) → val_at q Empty ≡ Some u → capital (last_part q) ≡ false
    small q u e = absurd (none val_of (λ y. refl) q u e)

    large : (q : Long) (c : ConTy) → con_at q Empty ≡ Some c → (capital (last_part q) ≡ true) ⊎ (c ≡ constant bool)
    large q c e = absurd (none con_of (λ y. refl) q c e)

-- ---- types

-- types and constructors alone, none of them an exception
abbrev pub TypesAlone : Env → Type 0
TypesAlone Empty = Unit {0}
TypesAlone (AddVal x u d) = ⊥
TypesAlone (AddCon x c d) = (capital x ≡ true) × ((a : Option Ty) → c ≡ raises a → ⊥) × TypesAlone d
TypesAlone (AddType x t d) = NoneItself t.body × TypesAlone d
TypesAlone (AddMod m b d) = ⊥

val_over : (d g : Env) (y : Bytes) → TypesAlone d → val_of y (env.over d g) ≡ val_of y g
val_over Empty g y h = refl
val_over (AddVal x u d) g y h = absurd h
val_over (AddCon x c d) g y h = val_over d g y h.2
val_over (AddType x t d) g y h = val_over d g y h.1
val_over (AddMod m b d) g y h = absurd h

pub mod_over : (d g : Env) (y : Bytes) → TypesAlone d → mod_of y (env.over d g) ≡ mod_of y g
mod_over Empty g y h = refl
mod_over (AddVal x u d) g y h = absurd h
mod_over (AddCon x c d) g y h = mod_over d g y h.2
mod_over (AddType x t d) g y h = mod_over d g y h.1
mod_over (AddMod m b d) g y h = absurd h

abbrev NewOr : Env → Bytes → ConTy → Type 0
NewOr g y c = ((capital y ≡ true) × ((a : Option Ty) → c ≡ raises a → ⊥)) ⊎ (con_of y g ≡ Some c)

con_over : (d g : Env) (y : Bytes) (c : ConTy) → TypesAlone d → con_of y (env.over d g) ≡ Some c → NewOr g y c
con_over Empty g y c h e = inr e
con_over (AddVal x u d) g y c h e = absurd h
con_over (AddType x t d) g y c h e = con_over d g y c h.1 e
con_over (AddMod m b d) g y c h e = absurd h
con_over (AddCon x k d) g y c h e = by (bytes_eq y x) refl e (con_over d g y c h.2)
  where
    by : (i : Bool) → bytes_eq y x ≡ i → (if i then Some k else con_of y (env.over d g)) ≡ Some c → (con_of y (env.over d g) ≡ Some c → NewOr g y c) → NewOr g y c
    by true p q r = inl (subst (λ z. capital z ≡ true) (sym ((bytes_eq-Decides y x).0 p)) h.0, subst (λ z. (a : Option Ty) → z ≡ raises a → ⊥) (some_is k c q) h.1)
    by false p q r = r q

pub serves_types : (f : ℕ → run.Ty) (d g : Env) (x : Ctx) → TypesAlone d → Serves f g x → Serves f (env.over d g) x
serves_types f d g x t s = record { vals = vals; exns = exns; small = small; large = large }
  where
    long : {A : Type 0} (look : Bytes → Env → Option A) (m y : Bytes) (q : Long) → at look (m ∷ y ∷ q) (env.over d g) ≡ at look (m ∷ y ∷ q) g
    long look m y q = ap (λ o. in_module (λ b. at look (y ∷ q) b) o) (mod_over d g m t)

    vals : (q : Long) (u : Ty) → val_at q (env.over d g) ≡ Some u → (b : ℕ → run.Ty) → UseAt (x q) (meant f b u)
    vals [] u e b = absurd (cc e)
    vals (y ∷ []) u e b = s.vals (var y) u (sym (val_over d g y t) ∙ e) b
    vals (m ∷ y ∷ q) u e b = s.vals (m ∷ y ∷ q) u (sym (long val_of m y q) ∙ e) b

    one : (y : Bytes) (a : Option Ty) → NewOr g y (raises a) → UseAt (x (var y)) (TNam (written_tys a))
    one y a (inl h) = absurd (h.1 a refl)
    one y a (inr h) = s.exns (var y) a h

    exns : (q : Long) (a : Option Ty) → con_at q (env.over d g) ≡ Some (raises a) → UseAt (x q) (TNam (written_tys a))
    exns [] a e = absurd (cc e)
    exns (y ∷ []) a e = one y a (con_over d g y (raises a) t e)
    exns (m ∷ y ∷ q) a e = s.exns (m ∷ y ∷ q) a (sym (long con_of m y q) ∙ e)

    small : (q : Long) (u : Ty) → val_at q (env.over d g) ≡ Some u → capital (last_part q) ≡ false
    small [] u e = absurd (cc e)
    small (y ∷ []) u e = s.small (var y) u (sym (val_over d g y t) ∙ e)
    small (m ∷ y ∷ q) u e = s.small (m ∷ y ∷ q) u (sym (long val_of m y q) ∙ e)

    large_one : (y : Bytes) (c : ConTy) → NewOr g y c → (capital y ≡ true) ⊎ (c ≡ constant bool)
    large_one y c (inl h) = inl h.0
    large_one y c (inr h) = s.large (var y) c h

    large : (q : Long) (c : ConTy) → con_at q (env.over d g) ≡ Some c → (capital (last_part q) ≡ true) ⊎ (c ≡ constant bool)
    large [] c e = absurd (cc e)
    large (y ∷ []) c e = large_one y c (con_over d g y c t e)
    large (m ∷ y ∷ q) c e = s.large (m ∷ y ∷ q) c (sym (long con_of m y q) ∙ e)

-- ---- another choice of types for variables that the environment does not have

abbrev pub env_bound : Env → ℕ
env_bound Empty = 0
env_bound (AddVal x u g) = own_bound u + env_bound g
env_bound (AddCon x c g) = env_bound g
env_bound (AddType x t g) = env_bound g
env_bound (AddMod m b g) = env_bound b + env_bound g

val_below : (y : Bytes) (g : Env) (u : Ty) → val_of y g ≡ Some u → own_bound u ≤ env_bound g
val_below y Empty u e = absurd (cc e)
val_below y (AddCon x c g) u e = val_below y g u e
val_below y (AddType x t g) u e = val_below y g u e
val_below y (AddMod m b g) u e = more (own_bound u) (env_bound b) (env_bound g) (val_below y g u e)
  where
    more : (k m n : ℕ) → k ≤ n → k ≤ m + n
    more k m n h = omega (arith, h)
val_below y (AddVal x v g) u e = by (bytes_eq y x) (val_below y g u) e
  where
    more : (k m n : ℕ) → k ≤ n → k ≤ m + n
    more k m n h = omega (arith, h)

    first : (m n : ℕ) → m ≤ m + n
    first m n = omega arith

    by : (c : Bool) → (val_of y g ≡ Some u → own_bound u ≤ env_bound g) → (if c then Some v else val_of y g) ≡ Some u → own_bound u ≤ own_bound v + env_bound g
    by true k h = subst (λ t. own_bound t ≤ own_bound v + env_bound g) (some_is v u h) (first (own_bound v) (env_bound g))
    by false k h = more (own_bound u) (own_bound v) (env_bound g) (k h)

mod_below : (y : Bytes) (g b : Env) → mod_of y g ≡ Some b → env_bound b ≤ env_bound g
mod_below y Empty b e = absurd (cc e)
mod_below y (AddCon x c g) b e = mod_below y g b e
mod_below y (AddType x t g) b e = mod_below y g b e
mod_below y (AddVal x v g) b e = more (env_bound b) (own_bound v) (env_bound g) (mod_below y g b e)
  where
    more : (k m n : ℕ) → k ≤ n → k ≤ m + n
    more k m n h = omega (arith, h)
mod_below y (AddMod x d g) b e = by (bytes_eq y x) (mod_below y g b) e
  where
    more : (k m n : ℕ) → k ≤ n → k ≤ m + n
    more k m n h = omega (arith, h)

    first : (m n : ℕ) → m ≤ m + n
    first m n = omega arith

    by : (c : Bool) → (mod_of y g ≡ Some b → env_bound b ≤ env_bound g) → (if c then Some d else mod_of y g) ≡ Some b → env_bound b ≤ env_bound d + env_bound g
    by true k h = subst (λ t. env_bound t ≤ env_bound d + env_bound g) (some_is d b h) (first (env_bound d) (env_bound g))
    by false k h = more (env_bound b) (env_bound d) (env_bound g) (k h)

path_below : (q : Long) (g : Env) (u : Ty) → val_at q g ≡ Some u → own_bound u ≤ env_bound g
path_below [] g u e = absurd (cc e)
path_below (y ∷ []) g u e = val_below y g u e
path_below (m ∷ y ∷ q) g u e = by (mod_of m g) refl e (λ b h. path_below (y ∷ q) b u h)
  where
    trans : (a b c : ℕ) → a ≤ b → b ≤ c → a ≤ c
    trans a b c h k = omega (arith, h, k)

    by : (o : Option Env) → mod_of m g ≡ o → in_module (λ b. val_at (y ∷ q) b) o ≡ Some u → ((b : Env) → val_at (y ∷ q) b ≡ Some u → own_bound u ≤ env_bound b) → own_bound u ≤ env_bound g
    by None p h k = absurd (cc h)
    by (Some b) p h k = trans (own_bound u) (env_bound b) (env_bound g) (k b h) (mod_below m g b p)

pub serves_change : (f h : ℕ → run.Ty) (g : Env) (x : Ctx) → SameBelow (env_bound g) f h → Serves f g x → Serves h g x
serves_change f h g x p s =
    record {
      vals = λ q u e b. subst (UseAt (x q)) (meant_same f h b b u (below (own_bound u) (env_bound g) (path_below q g u e) p) (λ i l. refl)) (s.vals q u e b);
      exns = s.exns;
      small = s.small;
      large = s.large;
    }
  where
    below : (m n : ℕ) → m ≤ n → SameBelow n f h → SameBelow m f h
    below m n le k = λ i l. k i (omega (arith, l, le))

-- ---- places

pub place_put : (w : World) (k : Known) (g : Env) (f : ℕ → run.Ty) (x h : Ctx) (bs : Vars) (bd : Name → Bool) → Place w k g f x → ((q : Name) → bd q ≡ bound_in bs q) → AllSmall bs → VarsServe f bs h → Place w k (put_vars bs g) f (join bd h x)
place_put w k g f x h bs bd p d n v = record { basic = p.basic; fits = fits_vars w k bs g p.fits; serves = serves_put f g x h bs bd p.serves d n v }

pub place_exn : (w : World) (k : Known) (g : Env) (f : ℕ → run.Ty) (x : Ctx) (n : Bytes) (a : Option Ty) → Place w k g f x → capital n ≡ true → ArgHasFirst 0 a → Place w (Raises n k) (AddCon n (raises a) g) f (join (same (var n)) (exn_ctx (written_tys a)) x)
place_exn w k g f x n a p c h = record { basic = p.basic; fits = (k, p.fits, inl (refl, (a, refl, h))); serves = serves_exn f g x n a p.serves c }

pub place_mod : (w : World) (k i : Known) (g b : Env) (f : ℕ → run.Ty) (x o : Ctx) (m : Bytes) → Place w k g f x → Fits w i b → Serves f b o → Place w (Holds m i k) (AddMod m b g) f (under_ty m o x)
place_mod w k i g b f x o m p h s = record { basic = p.basic; fits = (i, k, h, p.fits, refl); serves = serves_mod f g b x o m p.serves s }

pub place_change : (w : World) (k : Known) (g : Env) (f h : ℕ → run.Ty) (x : Ctx) → SameBelow (env_bound g) f h → Place w k g f x → Place w k g h x
place_change w k g f h x c p = record { basic = p.basic; fits = p.fits; serves = serves_change f h g x c p.serves }
