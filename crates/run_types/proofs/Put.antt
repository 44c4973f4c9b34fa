-- What has a type keeps it when values are put in.
use Rattle.std.proofs.Common.{◌≡◌, ℕ, inl, inr, [], ◌∷◌, Option, Some, None, Bool, true, false, if◌then◌else◌, sym, ◌∙◌, subst}
use Rattle.run_types.specs.Types.{AllAlways, Always, At, Binds, ConsT, Covers, Ctx, Has, HasAll, HasFall, HasFound, HasFuns, HasPat, HasPats, HasRules, HasTag, HasVal, Mono, NilT, Puts, Scheme, TArr, TData, TExn, TNam, Ty, Types, Tys, UseAt, World, const_ty, inst_all, join, monos, under_ty}
use Rattle.run_types.proofs.Shapes.{whole_close}
use Rattle.runs.proofs.Close.{binds_close, is_some, names_close}
use Rattle.runs.proofs.Still.{still_close}
use Rattle.runs.specs.Env.{Env, binds, close, close_all, close_funs, close_pat, close_pats, close_rules, close_tag, first, found_or, hide, kept, names, over, tag_or, through, var_or}
use Rattle.runs.specs.Names.{Name, Part, same, same_part}
use Rattle.runs.specs.Tree.{Absent, Broken, Case, Char, Cons, Const, Datum, Drawn, Exp, Exps, Fail, Fall, Fn, Found, Fun, Funs, Group, InMod, InStruct, Int, Is, LetMod, Lit, Nam, Named, NewExn, Nil, NoFuns, Node, PAny, PCell, PCon, PExn, PLayer, PLit, PMore, PNil, PTup, PVar, Pat, Pats, Raises, Rule, Rules, Stop, Str, StructOf, Stuck, Tag, There, Try, Val, Var}
use mathlib.Core.Path.{fun_ext}

under_case : (w : World) (b : Bool) (h g d : Option Scheme) (t : Ty) (o : Option Val) → (UseAt g t → At w d t o) → UseAt (if b then h else g) t → At w (if b then h else d) t (if b then None else o)
under_case w true h g d t o k u = u
under_case w false h g d t o k u = k u

-- under a binder
pub under_bound : (w : World) (bound : Name → Bool) (h g d : Ctx) (env : Env) → Puts w g d env → Puts w (join bound h g) (join bound h d) (hide bound env)
under_bound w bound h g d env p = λ x t u. under_case w (bound x) (h x) (g x) (d x) t (env x) (p x t) u

-- a value of the type, if there is one
abbrev pub OptHas : World → Ty → Option Val → Type 0
OptHas w t None = Unit {0}
OptHas w t (Some v) = HasVal w v t

over_case : (w : World) (o : Option Val) (b : Bool) (h g d : Option Scheme) (p : Option Val) (t : Ty) → is_some o ≡ b → (b ≡ true → UseAt h t → OptHas w t o) → (UseAt g t → At w d t p) → UseAt (if b then h else g) t → At w d t (first o p)
over_case w None true h g d p t q f k u = absurd (cc q)
over_case w None false h g d p t q f k u = k u
over_case w (Some v) true h g d p t q f k u = f q u
over_case w (Some v) false h g d p t q f k u = absurd (cc q)

-- with values for what is bound
pub puts_over : (w : World) (bound : Name → Bool) (h g d : Ctx) (bs env : Env) → ((y : Name) → is_some (bs y) ≡ bound y) → ((y : Name) (t : Ty) → bound y ≡ true → UseAt (h y) t → OptHas w t (bs y)) → Puts w g d env → Puts w (join bound h g) d (over bs env)
puts_over w bound h g d bs env dom f p = λ x t u. over_case w (bs x) (bound x) (h x) (g x) (d x) (env x) t (dom x) (f x t) (p x t) u

pub put_case : (w : World) (b : Bool) (a : Scheme) (g d : Option Scheme) (o : Option Val) (v : Val) (t : Ty) → (UseAt (Some a) t → HasVal w v t) → (UseAt g t → At w d t o) → UseAt (if b then Some a else g) t → At w d t (if b then Some v else o)
put_case w true a g d o v t f k u = f u
put_case w false a g d o v t f k u = k u

pub binds_same : (env : Env) (p : Pat) → binds (close_pat env p) ≡ binds p
binds_same env p = fun_ext (binds_close env p)

pub names_same : (env : Env) (fs : Funs) → names (close_funs env fs) ≡ names fs
names_same env fs = fun_ext (names_close env fs)

-- constants have types of their own
pub datum_data : (n : Const) (d : ℕ) (b : Bool) (us : Tys) → TData d b us ≡ const_ty n → ⊥
datum_data (Int i) d b us q = cc q
datum_data (Char i) d b us q = cc q
datum_data (Str i) d b us q = cc q

pub datum_exn : (n : Const) → TExn ≡ const_ty n → ⊥
datum_exn (Int i) q = cc q
datum_exn (Char i) q = cc q
datum_exn (Str i) q = cc q

pub datum_arr : (n : Const) (a r : Ty) → TArr a r ≡ const_ty n → ⊥
datum_arr (Int i) a r q = cc q
datum_arr (Char i) a r q = cc q
datum_arr (Str i) a r q = cc q

pub datum_nam : (n : Const) (ts : Tys) → TNam ts ≡ const_ty n → ⊥
datum_nam (Int i) ts q = cc q
datum_nam (Char i) ts q = cc q
datum_nam (Str i) ts q = cc q

tag_put : (w : World) (d : Ctx) (x : Name) (ts : Tys) (o : Option Val) → At w (d x) (TNam ts) o → HasTag w d (tag_or x o) ts
tag_put w d x ts None h = h
tag_put w d x ts (Some (Nam k)) h = h
tag_put w d x ts (Some (Datum n)) h = absurd (datum_nam n ts h)
tag_put w d x ts (Some _) h = absurd h

tag_close : (w : World) (g d : Ctx) (env : Env) (t : Tag) (ts : Tys) → Puts w g d env → HasTag w g t ts → HasTag w d (close_tag env t) ts
tag_close w g d env (Named x) ts p h = tag_put w d x ts (env x) (p x (TNam ts) h)
tag_close w g d env (Drawn k) ts p h = h
tag_close w g d env Broken ts p h = h

mutual
  pub pat_close : (w : World) (g d : Ctx) (env : Env) (q : Pat) (u : Ty) (c : Types) → Puts w g d env → HasPat w g q u c → HasPat w d (close_pat env q) u c
  pat_close w g d env PAny u c p h = h
  pat_close w g d env (PVar x) u c p h = h
  pat_close w g d env (PLit n) u c p h = h
  pat_close w g d env (PTup qs) u c p h = (h.0, h.1, pats_close w g d env qs h.0 c p h.2)
  pat_close w g d env (PCon i qs) u c p h = (h.0, h.1, h.2, h.3, h.4, h.5, pats_close w g d env qs (inst_all h.2 h.3) c p h.6)
  pat_close w g d env (PExn t qs) u c p h = (h.0, tag_close w g d env t h.0 p h.1, h.2, pats_close w g d env qs h.0 c p h.3)
  pat_close w g d env (PCell q) u c p h = (h.0, h.1, pat_close w g d env q h.0 c p h.2)
  pat_close w g d env (PLayer x q) u c p h = (h.0, pat_close w g d env q u c p h.1)

  pats_close : (w : World) (g d : Ctx) (env : Env) (qs : Pats) (us : Tys) (c : Types) → Puts w g d env → HasPats w g qs us c → HasPats w d (close_pats env qs) us c
  pats_close w g d env PNil NilT c p h = tt
  pats_close w g d env (PMore q qs) (ConsT u us) c p h = (pat_close w g d env q u c p h.0, pats_close w g d env qs us c p h.1)
  pats_close w g d env _ _ c p h = absurd h

pub binds_put : (w : World) (g d : Ctx) (env : Env) (A B : Ty → Type 0) → ((a : Ty) → A a → B a) → (q : Pat) (h : Ctx) → Puts w g d env → Binds w g A q h → Binds w d B (close_pat env q) h
binds_put w g d env A B f q h p b = ((b.0.0, b.0.1, f b.0.0 b.0.2, pat_close w g d env q b.0.0 b.0.1 p b.0.3), λ x u i o. let m = b.1 x u (sym (binds_close env q x) ∙ i) o in (m.0, m.1, f m.0 m.2, pat_close w g d env q m.0 m.1 p m.3, m.4))

var_has : (w : World) (d : Ctx) (x : Name) (t : Ty) (o : Option Val) → At w (d x) t o → Has w d (var_or x o) t
var_has w d x t None h = h
var_has w d x t (Some v) h = h

-- a pattern that always takes its value still does
mutual
  pub always_close : (env : Env) (q : Pat) → Always q → Always (close_pat env q)
  always_close env PAny h = tt
  always_close env (PVar x) h = tt
  always_close env (PTup qs) h = all_always env qs h
  always_close env (PCell q) h = always_close env q h
  always_close env (PLayer x q) h = always_close env q h
  always_close env _ h = absurd h

  all_always : (env : Env) (qs : Pats) → AllAlways qs → AllAlways (close_pats env qs)
  all_always env PNil h = tt
  all_always env (PMore q qs) h = (always_close env q h.0, all_always env qs h.1)

pub covers_close : (env : Env) (rs : Rules) → Covers rs → Covers (close_rules env rs)
covers_close env Stop h = h
covers_close env (Rule q b rs) (inl h) = inl (always_close env q h)
covers_close env (Rule q b rs) (inr h) = inr (covers_close env rs h)

pub fall_close : (w : World) (env : Env) (f : Fall) (rs : Rules) → HasFall w f rs → HasFall w f (close_rules env rs)
fall_close w env Stuck rs h = covers_close env rs h
fall_close w env (Raises v) rs h = h

-- values that were put into a tree
kept_has : (w : World) (d : Option Scheme) (u : Ty) (o : Option Val) → At w d u o → HasFound w (UseAt d u) u (kept o)
kept_has w d u None h = h
kept_has w d u (Some v) h = h

found_put_has : (w : World) (g d : Option Scheme) (u : Ty) (f : Found) (o : Option Val) → (UseAt g u → At w d u o) → HasFound w (UseAt g u) u f → HasFound w (UseAt d u) u (found_or f o)
found_put_has w g d u Absent o p h = kept_has w d u o (p h)
found_put_has w g d u (There v) o p h = h

under_if : (w : World) (b : Bool) (k g d : Option Scheme) (u : Ty) (o : Option Val) → (UseAt g u → At w d u o) → UseAt (if b then k else g) u → At w (if b then k else d) u (if b then None else o)
under_if w true k g d u o p i = i
under_if w false k g d u o p i = p i

under_at : (w : World) (q : Part) (k g d : Ctx) (env : Env) (x : Name) (u : Ty) → (UseAt (g x) u → At w (d x) u (env x)) → UseAt (under_ty q k g x) u → At w (under_ty q k d x) u (hide (through q) env x)
under_at w q k g d env [] u p i = p i
under_at w q k g d env (y ∷ []) u p i = p i
under_at w q k g d env (y ∷ r ∷ z) u p i = under_if w (same_part q y) (k (r ∷ z)) (g (y ∷ r ∷ z)) (d (y ∷ r ∷ z)) u (env (y ∷ r ∷ z)) p i

-- under the paths of a structure
pub under_puts : (w : World) (q : Part) (k g d : Ctx) (env : Env) → Puts w g d env → Puts w (under_ty q k g) (under_ty q k d) (hide (through q) env)
under_puts w q k g d env p = λ x u i. under_at w q k g d env x u (p x u) i

-- Z only puts all functions of the block into one universe
mutual
  has_put : (Z : Type 0) (w : World) (e : Exp) (g d : Ctx) (env : Env) (t : Ty) → Puts w g d env → Has w g e t → Has w d (close env e) t
  has_put Z w (Is v) g d env t p h = h
  has_put Z w (Fail v) g d env t p h = h
  has_put Z w (Lit n) g d env t p h = h
  has_put Z w (Var x) g d env t p h = var_has w d x t (env x) (p x t h)
  has_put Z w (Fn f rs) g d env t p h = (h.0, h.1, h.2, fall_close w env f rs h.3, rules_put Z w rs g d env (λ u. u ≡ h.0) (λ u. u ≡ h.0) (λ u q. q) h.1 p h.4)
  has_put Z w (Group fs b) g d env t p h =
      let s = sym (names_same (hide (names fs) env) fs) in (
        h.0,
        (λ f u i o.
            let m = h.1 f u (sym (names_close (hide (names fs) env) fs f) ∙ i) o in
            (m.0, m.1, subst (λ n. HasFuns w (join n (monos m.0) d) (close_funs (hide (names fs) env) fs) m.0) s (funs_put Z w fs (join (names fs) (monos m.0) g) (join (names fs) (monos m.0) d) (hide (names fs) env) m.0 (under_bound w (names fs) (monos m.0) g d env p) m.2))),
        subst (λ n. Has w (join n h.0 d) (close (hide (names fs) env) b) t) s (has_put Z w b (join (names fs) h.0 g) (join (names fs) h.0 d) (hide (names fs) env) t (under_bound w (names fs) h.0 g d env p) h.2),
      )
  has_put Z w (Node op es) g d env t p h = (h.0, all_put Z w es g d env h.0 p h.1, h.2)
  has_put Z w (Case f a rs) g d env t p (inr h) = inr (h.0, whole_close w env h.0 rs h.1, has_put Z w a g d env h.0 p h.2, rules_put Z w rs g d env (λ a1. a1 ≡ h.0) (λ a1. a1 ≡ h.0) (λ a1 q. q) t p h.3)
  has_put Z w (Case f a rs) g d env t p (inl (hf, u, ha, inl h)) = inl (fall_close w env f rs hf, u, has_put Z w a g d env u p ha, inl (rules_put Z w rs g d env (λ a1. a1 ≡ u) (λ a1. a1 ≡ u) (λ a1 q. q) t p h))
  has_put Z w (Case f a rs) g d env t p (inl (hf, u, ha, inr h)) =
      inl (fall_close w env f rs hf, u, has_put Z w a g d env u p ha, inr (still_close env a h.0, rules_put Z w rs g d env (λ a1. Has w g a a1) (λ a1. Has w d (close env a) a1) (λ a1 q. has_put Z w a g d env a1 p q) t p h.1))
  has_put Z w (NewExn x b) g d env t p h =
      let c : Ctx = λ y. Some (Mono (TNam h.0)) in
      (h.0, has_put Z w b (join (same x) c g) (join (same x) c d) (hide (same x) env) t (under_bound w (same x) c g d env p) h.1)
  has_put Z w (LetMod e q is b) g d env t p h =
      (h.0, (λ x u i. found_put_has w (g x) (d x) u (e x) (env x) (p x u) (h.1 x u i)), h.2, h.3, has_put Z w b (under_ty q (h.2).own g) (under_ty q (h.2).own d) (hide (through q) env) t (under_puts w q (h.2).own g d env p) h.4)
  has_put Z w (InMod q v b) g d env t p h = absurd h
  has_put Z w (StructOf e is) g d env t p h = absurd h
  has_put Z w (InStruct v) g d env t p h = absurd h
  has_put Z w (Try a rs) g d env t p h = (has_put Z w a g d env t p h.0, rules_put Z w rs g d env (λ u. u ≡ TExn) (λ u. u ≡ TExn) (λ u q. q) t p h.1)

  all_put : (Z : Type 0) (w : World) (es : Exps) (g d : Ctx) (env : Env) (ts : Tys) → Puts w g d env → HasAll w g es ts → HasAll w d (close_all env es) ts
  all_put Z w Nil g d env NilT p h = tt
  all_put Z w (Cons e es) g d env (ConsT t ts) p h = (has_put Z w e g d env t p h.0, all_put Z w es g d env ts p h.1)
  all_put Z w _ g d env _ p h = absurd h

  rules_put : (Z : Type 0) (w : World) (rs : Rules) (g d : Ctx) (env : Env) (A B : Ty → Type 0) → ((a : Ty) → A a → B a) → (t : Ty) → Puts w g d env → HasRules w g A rs t → HasRules w d B (close_rules env rs) t
  rules_put Z w Stop g d env A B f t p h = tt
  rules_put Z w (Rule q b rs) g d env A B f t p h = (
    h.0,
    binds_put w g d env A B f q h.0 p h.1,
    subst (λ n. Has w (join n h.0 d) (close (hide (binds q) env) b) t) (sym (binds_same env q)) (has_put Z w b (join (binds q) h.0 g) (join (binds q) h.0 d) (hide (binds q) env) t (under_bound w (binds q) h.0 g d env p) h.2),
    rules_put Z w rs g d env A B f t p h.3,
  )

  funs_put : (Z : Type 0) (w : World) (fs : Funs) (g d : Ctx) (env : Env) (c : Types) → Puts w g d env → HasFuns w g fs c → HasFuns w d (close_funs env fs) c
  funs_put Z w NoFuns g d env c p h = tt
  funs_put Z w (Fun k f rs fs) g d env c p h = (h.0, h.1, h.2, fall_close w env f rs h.3, rules_put Z w rs g d env (λ u. u ≡ h.0) (λ u. u ≡ h.0) (λ u q. q) h.1 p h.4, funs_put Z w fs g d env c p h.5)

pub has_close : (w : World) (e : Exp) (g d : Ctx) (env : Env) (t : Ty) → Puts w g d env → Has w g e t → Has w d (close env e) t
has_close w e g d env t p h = has_put (Unit {0}) w e g d env t p h

pub rules_closed : (w : World) (rs : Rules) (g d : Ctx) (env : Env) (A B : Ty → Type 0) → ((a : Ty) → A a → B a) → (t : Ty) → Puts w g d env → HasRules w g A rs t → HasRules w d B (close_rules env rs) t
rules_closed w rs g d env A B f t p h = rules_put (Unit {0}) w rs g d env A B f t p h

pub funs_closed : (w : World) (fs : Funs) (g d : Ctx) (env : Env) (c : Types) → Puts w g d env → HasFuns w g fs c → HasFuns w d (close_funs env fs) c
funs_closed w fs g d env c p h = funs_put (Unit {0}) w fs g d env c p h
