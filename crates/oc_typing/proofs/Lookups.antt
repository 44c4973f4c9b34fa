-- Look-ups where more is bound.
use Rattle.std.proofs.Common.{◌≡◌, [], ◌∷◌, Option, Some, None, Bool, true, false, if◌then◌else◌, refl, sym, ap, subst}
use Rattle.std.specs.Str.{bytes_eq}
use Rattle.oc_ast.specs.Plain.{Bytes, Long}
use Rattle.oc_typing.specs.Ty.{Ty}
use Rattle.oc_typing.specs.Env.{ConTy, Env, TyEntry, Empty, AddVal, AddCon, AddType, AddMod, val_of, con_of, type_of, mod_of, in_module, at, over}
use Rattle.oc_typing.specs.Variables.{Vars, NoVars, OneVar, put_vars}
use Rattle.oc_typing.specs.More.{More}

if_more : {A : Type 0} (b : Bool) (q o p : Option A) (a : A) → (o ≡ Some a → p ≡ Some a) → (if b then q else o) ≡ Some a → (if b then q else p) ≡ Some a
if_more true q o p a k e = e
if_more false q o p a k e = k e

pub more_val : (x : Bytes) (u : Ty) (g h : Env) → More g h → More (AddVal x u g) (AddVal x u h)
more_val x u g h m =
    record {
      vals = λ y a. if_more (bytes_eq y x) (Some u) (val_of y g) (val_of y h) a (m.vals y a);
      cons = m.cons;
      types = m.types;
      mods = m.mods;
    }

pub more_con : (x : Bytes) (c : ConTy) (g h : Env) → More g h → More (AddCon x c g) (AddCon x c h)
more_con x c g h m =
    record {
      vals = m.vals;
      cons = λ y a. if_more (bytes_eq y x) (Some c) (con_of y g) (con_of y h) a (m.cons y a);
      types = m.types;
      mods = m.mods;
    }

pub more_type : (x : Bytes) (d : TyEntry) (g h : Env) → More g h → More (AddType x d g) (AddType x d h)
more_type x d g h m =
    record {
      vals = m.vals;
      cons = m.cons;
      types = λ y a. if_more (bytes_eq y x) (Some d) (type_of y g) (type_of y h) a (m.types y a);
      mods = m.mods;
    }

pub more_mod : (x : Bytes) (b g h : Env) → More g h → More (AddMod x b g) (AddMod x b h)
more_mod x b g h m =
    record {
      vals = m.vals;
      cons = m.cons;
      types = m.types;
      mods = λ y a. if_more (bytes_eq y x) (Some b) (mod_of y g) (mod_of y h) a (m.mods y a);
    }

pub more_vars : (bs : Vars) (g h : Env) → More g h → More (put_vars bs g) (put_vars bs h)
more_vars NoVars g h m = m
more_vars (OneVar x t bs) g h m = more_vars bs (AddVal x t g) (AddVal x t h) (more_val x t g h m)

pub more_over : (d g h : Env) → More g h → More (over d g) (over d h)
more_over Empty g h m = m
more_over (AddVal x u d) g h m = more_val x u (over d g) (over d h) (more_over d g h m)
more_over (AddCon x c d) g h m = more_con x c (over d g) (over d h) (more_over d g h m)
more_over (AddType x t d) g h m = more_type x t (over d g) (over d h) (more_over d g h m)
more_over (AddMod x b d) g h m = more_mod x b (over d g) (over d h) (more_over d g h m)

-- what is bound stays bound where more stands behind it
pub over_more : (g h : Env) → More g (over g h)
over_more Empty h = record { vals = λ x u e. absurd (cc e); cons = λ x c e. absurd (cc e); types = λ x d e. absurd (cc e); mods = λ x b e. absurd (cc e) }
over_more (AddVal x u g) h = more_val x u g (over g h) (over_more g h)
over_more (AddCon x c g) h = more_con x c g (over g h) (over_more g h)
over_more (AddType x d g) h = more_type x d g (over g h) (over_more g h)
over_more (AddMod x b g) h = more_mod x b g (over g h) (over_more g h)

through : {A : Type 0} (look : Env → Option A) (o p : Option Env) (a : A) → ((b : Env) → o ≡ Some b → p ≡ Some b) → in_module look o ≡ Some a → in_module look p ≡ Some a
through look None p a k e = absurd (cc e)
through look (Some b) p a k e = subst (λ r. in_module look r ≡ Some a) (sym (k b refl)) e

-- so a path leads where it led
pub path_more : {A : Type 0} (look : Bytes → Env → Option A) (q : Long) (g h : Env) (a : A) → ((x : Bytes) (c : A) → look x g ≡ Some c → look x h ≡ Some c) → More g h → at look q g ≡ Some a → at look q h ≡ Some a
path_more look [] g h a k m e = absurd (cc e)
path_more look (x ∷ []) g h a k m e = k x a e
path_more look (n ∷ x ∷ q) g h a k m e = through (λ b. at look (x ∷ q) b) (mod_of n g) (mod_of n h) a (m.mods n) e

pub val_more : (q : Long) (g h : Env) (u : Ty) → More g h → at val_of q g ≡ Some u → at val_of q h ≡ Some u
val_more q g h u m e = path_more val_of q g h u m.vals m e

pub con_more : (q : Long) (g h : Env) (c : ConTy) → More g h → at con_of q g ≡ Some c → at con_of q h ≡ Some c
con_more q g h c m e = path_more con_of q g h c m.cons m e

pub type_more : (q : Long) (g h : Env) (d : TyEntry) → More g h → at type_of q g ≡ Some d → at type_of q h ≡ Some d
type_more q g h d m e = path_more type_of q g h d m.types m e

pub mod_more : (q : Long) (g h : Env) (b : Env) → More g h → at mod_of q g ≡ Some b → at mod_of q h ≡ Some b
mod_more q g h b m e = path_more mod_of q g h b m.mods m e

-- one environment put over others
pub over-empty : (d : Env) → over d Empty ≡ d
over-empty Empty = refl
over-empty (AddVal x u d) = ap (AddVal x u) (over-empty d)
over-empty (AddCon x c d) = ap (AddCon x c) (over-empty d)
over-empty (AddType x t d) = ap (AddType x t) (over-empty d)
over-empty (AddMod x b d) = ap (AddMod x b) (over-empty d)

pub over-over : (d e g : Env) → over (over d e) g ≡ over d (over e g)
over-over Empty e g = refl
over-over (AddVal x u d) e g = ap (AddVal x u) (over-over d e g)
over-over (AddCon x c d) e g = ap (AddCon x c) (over-over d e g)
over-over (AddType x t d) e g = ap (AddType x t) (over-over d e g)
over-over (AddMod x b d) e g = ap (AddMod x b) (over-over d e g)
