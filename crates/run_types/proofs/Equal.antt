-- Equality has an answer on the values of each type that admits it.
use Rattle.std.proofs.Common.{◌≡◌, ℕ, List, Option, Some, None, Bool, true, false, nat_eq, if◌then◌else◌, refl, sym, ap, ◌∙◌, subst}
use Rattle.run_types.proofs.Acts.{const_is, same_kind}
use Rattle.run_types.proofs.Put.{datum_data}
use Rattle.run_types.proofs.Taken.{datum_ref, datum_tup, some_tys}
use Rattle.run_types.specs.Equality.{Dictionary, EqualNames, GivesDict, IsDict, also, same_val, same_vals}
use Rattle.run_types.specs.Types.{ConsT, HasVal, HasVals, Kind, NilT, TArr, TData, TExn, TNam, TRef, TTup, TVar, Ty, Tys, World, const_ty, equal, equal_all, inst_all}
use Rattle.run_types.specs.Written.{admits}
use Rattle.runs.proofs.Paths.{part_same}
use Rattle.runs.specs.Examples.{name}
use Rattle.runs.specs.Meaning.{Done, known}
use Rattle.runs.specs.Names.{Name, same_part}
use Rattle.runs.specs.Patterns.{same_const}
use Rattle.runs.specs.Primitives.{St, of_kind}
use Rattle.runs.specs.Tree.{Clo, Con, Const, Datum, Exn, Item, Loc, Nam, NoVals, Prim, Rec, Tup, Val, Vals, Var}

abbrev Answers : Option Bool → Type 0
Answers o = (b : Bool) × (o ≡ Some b)

also_answers : (o q : Option Bool) → Answers o → Answers q → Answers (also o q)
also_answers o q h k = (if h.0 then k.0 else false, ap (λ x. also x q) h.1 ∙ ap (also (Some h.0)) k.1)

if_answers : (b : Bool) (o : Option Bool) → (b ≡ true → Answers o) → Answers (if b then o else Some false)
if_answers true o h = h refl
if_answers false o h = (false, refl)

left_true : (b c : Bool) → (if b then c else false) ≡ true → b ≡ true
left_true true c h = refl
left_true false c h = absurd (cc h)

right_true : (b c : Bool) → (if b then c else false) ≡ true → c ≡ true
right_true true c h = h
right_true false c h = absurd (cc h)

kind_answers : (b c : Bool) → b ≡ true → Answers (if b then Some c else None)
kind_answers true c h = (c, refl)
kind_answers false c h = absurd (cc h)

datum_answers : (w : World) (a : Const) (u : Val) → HasVal w u (const_ty a) → Answers (same_val (Datum a) u)
datum_answers w a u k = const_is (λ y. Answers (same_val (Datum a) y)) w a (λ d e. kind_answers (of_kind a d) (same_const a d) (same_kind a d a refl e)) u k

mutual
  -- at a type that admits equality, a value and any other of the type
  pub answers : (w : World) → EqualNames w → (v : Val) (t : Ty) (u : Val) → equal t ≡ true → HasVal w v t → HasVal w u t → Answers (same_val v u)
  answers w q (Datum a) t u e h k = datum_answers w a u (subst (HasVal w u) h k)
  answers w q (Tup vs) (TTup ts) (Tup us) e h k = all_answers w q vs ts us e h k
  answers w q (Con i vs) (TData d true ts) (Con j us) e h k =
      if_answers (same_part i j) (same_vals vs us)
      (λ m. all_answers w q vs (inst_all ts h.0) us (q d i ts h.0 h.1 e) h.2 (subst (λ x. HasVals w us (inst_all ts x)) (some_tys k.0 h.0 (sym k.1 ∙ ap (w.datas d true) (sym (part_same i j m)) ∙ h.1)) k.2))
  answers w q (Con i vs) (TData d false ts) u e h k = absurd (cc e)
  answers w q (Loc l) (TRef t) (Loc m) e h k = (nat_eq l m, refl)
  answers w q (Clo f rs) (TArr a r) u e h k = absurd (cc e)
  answers w q (Rec fs f) (TArr a r) u e h k = absurd (cc e)
  answers w q (Nam i) (TNam ts) u e h k = absurd (cc e)
  answers w q (Exn i vs) TExn u e h k = absurd (cc e)
  answers w q (Prim p vs) (TArr a r) u e h k = absurd (cc e)
  answers w q (Tup vs) (TTup ts) (Datum n) e h k = absurd (datum_tup n ts k)
  answers w q (Tup vs) (TTup ts) _ e h k = absurd k
  answers w q (Con i vs) (TData d true ts) (Datum n) e h k = absurd (datum_data n d true ts k)
  answers w q (Con i vs) (TData d true ts) _ e h k = absurd k
  answers w q (Loc l) (TRef t) (Datum n) e h k = absurd (datum_ref n t k)
  answers w q (Loc l) (TRef t) _ e h k = absurd k
  answers w q _ _ u e h k = absurd h

  all_answers : (w : World) → EqualNames w → (vs : Vals) (ts : Tys) (us : Vals) → equal_all ts ≡ true → HasVals w vs ts → HasVals w us ts → Answers (same_vals vs us)
  all_answers w q NoVals NilT NoVals e h k = (true, refl)
  all_answers w q (Item v vs) (ConsT t ts) (Item u us) e h k =
      also_answers (same_val v u) (same_vals vs us) (answers w q v t u (left_true (equal t) (equal_all ts) e) h.0 k.0) (all_answers w q vs ts us (right_true (equal t) (equal_all ts) e) h.1 k.1)
  all_answers w q NoVals NilT (Item u us) e h k = absurd k
  all_answers w q (Item v vs) (ConsT t ts) NoVals e h k = absurd k
  all_answers w q _ _ us e h k = absurd h

pub equal_answers : (w : World) (v : Val) (t : Ty) (u : Val) → EqualNames w → equal t ≡ true → HasVal w v t → HasVal w u t → (b : Bool) × (same_val v u ≡ Some b)
equal_answers w v t u q e h k = answers w q v t u e h k

-- the dictionary of a type variable is its variable
var_case : (w : World) (t : Ty) (o : Option Val) → GivesDict w t o → (d : Val) × IsDict w t d × ((s : St) → known o s ≡ Done d s)
var_case w t None h = absurd h
var_case w t (Some d) h = (d, h, λ s. refl)

pub var_dictionary : (w : World) (ds : List Kind) (name : ℕ → Name) (i : ℕ) → admits ds i ≡ true → Dictionary w ds name (Var (name i)) (TVar i)
var_dictionary w ds name i a f env c h = let m = var_case w (f i) (env (name i)) (h i a) in (m.0, m.1, λ go s. m.2 s)
