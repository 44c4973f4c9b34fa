-- Typed scopes.
use Rattle.std.proofs.Common.{◌≡◌, ◌⊎◌, inl, inr, [], ◌∷◌, Option, Some, None, Bool, true, false, if◌then◌else◌, ◌∙◌}
use Rattle.run_types.proofs.Acts.{BoundOk, FallOk, exn_puts, exn_world, group_have}
use Rattle.run_types.proofs.Grown.{puts_more}
use Rattle.run_types.proofs.Put.{OptHas, puts_over}
use Rattle.run_types.proofs.Taken.{Takes}
use Rattle.run_types.specs.Safe.{Ok, Sub}
use Rattle.run_types.specs.TypedItems.{scope_has}
use Rattle.run_types.specs.Types.{Always, At, Ctx, HasFuns, Holds, Puts, Scheme, ScopeTy, Ty, Types, Tys, UseAt, Weaker, World, exn_ctx, join, joined, monos, no_ctx, reached_ty, under_ty, with_struct_ty}
use Rattle.runs.proofs.Close.{Dom, binds_close, group_dom, is_some}
use Rattle.runs.specs.Env.{Env, binds, close_funs, close_pat, group, hide, names, reached, under}
use Rattle.runs.specs.Examples.{no_rule}
use Rattle.runs.specs.Meaning.{Res, or_next}
use Rattle.runs.specs.Names.{Name, Part, same, same_part}
use Rattle.runs.specs.Primitives.{St}
use Rattle.runs.specs.Scope.{Scope, with_exn, with_funs, with_struct, with_vars}
use Rattle.runs.specs.Tree.{Exp, Funs, Pat, Rule, Stop, Val}

pub weaker : (w : World) (g h : Ctx) (env : Env) → Weaker h g → Puts w g no_ctx env → Puts w h no_ctx env
weaker w g h env f p = λ x t u. p x t (f x t u)

pub scope_more : (w k : World) → Sub w k → (c : ScopeTy) (e : Scope) → scope_has c w e → scope_has c k e
scope_more w k s c e h = (puts_more w k s c.env no_ctx e.env h.0, puts_more w k s c.own no_ctx e.own h.1)

reached_puts : (w : World) (p : Part) (b : Ctx) (bs : Env) (y : Name) (g : Option Scheme) (o : Option Val) (t : Ty) → Puts w b no_ctx bs → (UseAt g t → At w None t o) → UseAt (reached_ty p b y g) t → At w None t (reached p bs y o)
reached_puts w p b bs [] g o t h k u = k u
reached_puts w p b bs (q ∷ []) g o t h k u = k u
reached_puts w p b bs (q ∷ r ∷ x) g o t h k u = if_puts (same_part p q) (b (r ∷ x)) g (bs (r ∷ x)) o (h (r ∷ x) t) k u
  where
    if_puts : (c : Bool) (d e : Option Scheme) (m n : Option Val) → (UseAt d t → At w None t m) → (UseAt e t → At w None t n) → UseAt (if c then d else e) t → At w None t (if c then m else n)
    if_puts true d e m n f i v = f v
    if_puts false d e m n f i v = i v

pub reached_all : (w : World) (p : Part) (b : Ctx) (bs : Env) (g : Ctx) (env : Env) → Puts w b no_ctx bs → Puts w g no_ctx env → Puts w (under_ty p b g) no_ctx (under p bs env)
reached_all w p b bs g env h k = λ y t u. reached_puts w p b bs y (g y) (env y) t h (k y t) u

-- the values of a structure under its part
pub struct_puts : (w : World) (p : Part) (b : Ctx) (bs : Env) (c : ScopeTy) (e : Scope) → Puts w b no_ctx bs → scope_has c w e → scope_has (with_struct_ty p b c) w (with_struct p bs e)
struct_puts w p b bs c e h k =
    ((λ y t u. reached_puts w p b bs y (c.env y) (e.env y) t h (k.0 y t) u), (λ y t u. reached_puts w p b bs y (c.own y) (e.own y) t h (k.1 y t) u))

pub exn_scope : (w : World) (ts : Tys) (x : Name) (c : ScopeTy) (e : Scope) (s : St) → Holds w s → scope_has c w e → scope_has (joined (same x) (exn_ctx ts) c) (exn_world w ts) (with_exn x s e)
exn_scope w ts x c e s hm h = (exn_puts w ts x c.env e.env s hm h.0, exn_puts w ts x c.own e.own s hm h.1)

-- what a pattern took, or a group, stands over both
pub vars_scope : (w : World) (bound : Name → Bool) (h : Ctx) (bs : Env) (c : ScopeTy) (e : Scope) → ((y : Name) → is_some (bs y) ≡ bound y) → ((y : Name) (t : Ty) → bound y ≡ true → UseAt (h y) t → OptHas w t (bs y)) → scope_has c w e → scope_has (joined bound h c) w (with_vars bs e)
vars_scope w bound h bs c e dom f k = (puts_over w bound h c.env no_ctx bs e.env dom f k.0, puts_over w bound h c.own no_ctx bs e.own dom f k.1)

pub took_ok : (P : World → Scope → Type 0) (w : World) (h : Ctx) (c : ScopeTy) (e : Scope) (q : Pat) (o : Option Env) (f : Env → Res Scope) (r : Res Scope) → scope_has c w e → Dom o (binds (close_pat e.env q)) → BoundOk w (binds q) h o → ((bs : Env) → scope_has (joined (binds q) h c) w (with_vars bs e) → Ok P w (f bs)) → (Takes o ⊎ Ok P w r) → Ok P w (or_next o f r)
took_ok P w h c e q None f r p d b go (inl t) = absurd t
took_ok P w h c e q None f r p d b go (inr k) = k
took_ok P w h c e q (Some bs) f r p d b go k = go bs (vars_scope w (binds q) h bs c e (λ y. d y ∙ binds_close e.env q y) b p)

-- of one rule whose pattern is the item's
pub one_rule : (P : World → Scope → Type 0) (w : World) (o : Option Env) (p : Pat) (b : Exp) (r : Res Scope) → (Always p → Takes o) → FallOk P w (Rule p b Stop) r → Takes o ⊎ Ok P w r
one_rule P w o p b r f (inl (inl al)) = inl (f al)
one_rule P w o p b r f (inl (inr no_rule)) = absurd no_rule
one_rule P w o p b r f (inr k) = inr k

pub funs_scope : (w : World) (h : Ctx) (c : ScopeTy) (e : Scope) (fs : Funs) → scope_has c w e → ((f : Name) (u : Ty) → names fs f ≡ true → UseAt (h f) u → (m : Types) × (m f ≡ Some u) × HasFuns w (join (names fs) (monos m) c.env) fs m) → scope_has (joined (names fs) h c) w (with_funs fs e)
funs_scope w h c e fs p k =
    let gs = close_funs (hide (names fs) e.env) fs in
    vars_scope w (names fs) h (group gs) c e (group_dom (hide (names fs) e.env) fs) (group_have w c.env h e.env fs p.0 k) p
