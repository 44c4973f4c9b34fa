-- What is generalised is not expansive, and a use at structure level is an instance.
use Rattle.std.proofs.Common.{◌≡◌, ◌⊎◌, inl, inr, ℕ, List, [], ◌∷◌, Some}
use Rattle.sml_static.specs.declared.ty.Ty.{Ty}
use Rattle.sml_static.specs.declared.ty.VarKind.{VarKind}
use Rattle.mid_ast.specs.Tree.{Dicts, Exp, Const, Local, Home, Con, Prim, Tuple, Apply, Fun, Raise, Handle, Let, Binds, NoBinds, MoreBinds, Dec, Vals, Funs, Datas, Alias, NewExn, SameExn}
use Rattle.mid_typing.specs.Env.{Env, Variable, General}
use Rattle.mid_typing.specs.Dicts.{Setting}
use Rattle.mid_typing.specs.NonExpansive.{NonExpansive}
use Rattle.mid_typing.specs.MidTypes.{BindsHave, DecBinds, HomeOf, IsFun, Member, MembersHave, UseOf}
use Rattle.mid_typing.specs.More.{EachGeneralIsStill, EachIsStill}

fun_is_still : (e : Exp) → IsFun e → NonExpansive e
fun_is_still (Fun rs a b) f = tt
fun_is_still (Const l) f = absurd f
fun_is_still (Local x t ds) f = absurd f
fun_is_still (Home q t ds) f = absurd f
fun_is_still (Con q t) f = absurd f
fun_is_still (Prim n t ds) f = absurd f
fun_is_still (Tuple es) f = absurd f
fun_is_still (Apply g a) f = absurd f
fun_is_still (Raise a t) f = absurd f
fun_is_still (Handle a rs) f = absurd f
fun_is_still (Let ds a) f = absurd f

not_none : (vars : List VarKind) (P : Type 0) → ((vars ≡ []) ⊎ P) → (vars ≡ [] → ⊥) → P
not_none vars P (inl e) n = absurd (n e)
not_none vars P (inr p) n = p

binds_still : (s : Setting) (c : ℕ) (g : Env) (ks : List VarKind) (bs : Binds) (h : Env) → BindsHave s c g ks bs h → EachIsStill bs
binds_still s c g ks NoBinds h r = tt
binds_still s c g ks (MoreBinds p vars e more) h r = (not_none vars (NonExpansive e) r.5, binds_still s c g ks more r.2 r.7)

members_still : (s : Setting) (c : ℕ) (g : Env) (ks : List VarKind) (group : ℕ → VarKind) (all : List Member) (bs : Binds) (ms : List Member) → MembersHave s c g ks group all bs ms → EachIsStill bs
members_still s c g ks group all NoBinds ms r = tt
members_still s c g ks group all (MoreBinds p vars e more) [] r = absurd r
members_still s c g ks group all (MoreBinds p vars e more) (m ∷ ms) r = (λ n. fun_is_still e r.3, members_still s c g ks group all more ms r.6)

pub general_is_still : (s : Setting) (c : ℕ) (g : Env) (ks : List VarKind) (d : Dec) (c2 : ℕ) (h : Env) → DecBinds s c g ks d c2 h → EachGeneralIsStill d
general_is_still s c g ks (Vals bs) c2 h r = binds_still s c g ks bs h r.0
general_is_still s c g ks (Funs bs) c2 h r = members_still s c g ks r.0 r.1 bs r.1 r.2
general_is_still s c g ks (Datas ds) c2 h r = tt
general_is_still s c g ks (Alias q f) c2 h r = tt
general_is_still s c g ks (NewExn q a) c2 h r = tt
general_is_still s c g ks (SameExn q p) c2 h r = tt

pub by_path : (s : Setting) (c : ℕ) (g : Env) (ks vars : List VarKind) (body t : Ty) (ds : Dicts) → UseOf s c g ks (Some (General 0 vars body)) t ds → HomeOf s c g ks (Some (Variable (record { vars = vars; body = body }))) t ds
by_path s c g ks vars body t ds r = ((r.0, r.1, r.3), r.2, r.4)

pub by_number : (s : Setting) (c : ℕ) (g : Env) (ks vars : List VarKind) (body t : Ty) (ds : Dicts) → HomeOf s c g ks (Some (Variable (record { vars = vars; body = body }))) t ds → UseOf s c g ks (Some (General 0 vars body)) t ds
by_number s c g ks vars body t ds r = (r.0.0, r.0.1, r.1, r.0.2, r.2)
