-- What has a type keeps it in a larger world.
use Rattle.std.proofs.Common.{◌≡◌, inl, inr, List, [], ◌∷◌, ◌++◌, Option, Some, None, true, slice_get, refl, sym, ◌∙◌, subst}
use Rattle.run_types.proofs.Shapes.{whole_up}
use Rattle.run_types.specs.Safe.{Sub}
use Rattle.run_types.specs.Types.{At, Binds, Bools, ConsT, Ctx, Has, HasAll, HasFall, HasFound, HasFuns, HasItems, HasPat, HasPats, HasRules, HasTag, HasVal, HasVals, HoldsAll, IsGiven, Mono, NilT, OpTy, OperTy, PrimTy, Puts, Scheme, ScopeTy, TArr, TData, TExn, TNam, TRef, TTup, Ty, Types, Tys, UseAt, World, exn_ctx, inside_ty, inst_all, join, joined, monos, no_ctx, under_ty, with_struct_ty}
use Rattle.runs.specs.Env.{Env, binds, names}
use Rattle.runs.specs.Names.{same}
use Rattle.runs.specs.Primitives.{body, cons_part, false_part, nil_part, true_part}
use Rattle.runs.specs.Tree.{Absent, Alias, Applied, Apply, Arith, Assign, Broken, Build, Case, CharCode, Clo, Compare, Con, Concat, Cons, Datum, Deref, Drawn, End, Exception, Exn, Exp, Exps, Fail, Fall, Fn, Found, Fun, Functions, FunctorOf, Funs, Group, Identical, InMod, InStruct, Is, Item, Items, LetMod, ListOf, Lit, Loc, Make, Nam, Named, NewExn, Nil, NoFuns, NoVals, Node, Not, Op, Oper, Operator, PAny, PCell, PCon, PExn, PLayer, PLit, PMore, PNil, PTup, PVar, Pair, Pat, Pats, Prim, Primitive, PrintString, Raise, Raises, Rec, Ref, Rule, Rules, Stop, StringOfInt, Struct, StructOf, Stuck, Tag, There, Try, Tup, Val, Vals, Value, Var}

pub same_sub : (w : World) → Sub w w
same_sub w = record { cells = λ l t h. h; exns = λ l t h. h; datas = λ d b c t h. h; same = λ d b c t h. h; givens = refl }

pub sub_trans : (w k j : World) → Sub w k → Sub k j → Sub w j
sub_trans w k j a b = record { cells = λ l t h. b.cells l t (a.cells l t h); exns = λ l t h. b.exns l t (a.exns l t h); datas = λ d e c t h. b.datas d e c t (a.datas d e c t h); same = λ d e c t h. a.same d e c t (b.same d e c t h); givens = b.givens ∙ a.givens }

tag_more : (w k : World) → Sub w k → (g : Ctx) (t : Tag) (ts : Tys) → HasTag w g t ts → HasTag k g t ts
tag_more w k s g (Named x) ts h = h
tag_more w k s g (Drawn i) ts h = s.exns i ts h
tag_more w k s g Broken ts h = h

mutual
  pat_more : (w k : World) → Sub w k → (g : Ctx) (p : Pat) (u : Ty) (c : Types) → HasPat w g p u c → HasPat k g p u c
  pat_more w k s g PAny u c h = h
  pat_more w k s g (PVar x) u c h = h
  pat_more w k s g (PLit n) u c h = h
  pat_more w k s g (PTup ps) u c h = (h.0, h.1, pats_more w k s g ps h.0 c h.2)
  pat_more w k s g (PCon i ps) u c h = (h.0, h.1, h.2, h.3, s.datas h.0 h.1 i h.3 h.4, h.5, pats_more w k s g ps (inst_all h.2 h.3) c h.6)
  pat_more w k s g (PExn t ps) u c h = (h.0, tag_more w k s g t h.0 h.1, h.2, pats_more w k s g ps h.0 c h.3)
  pat_more w k s g (PCell p) u c h = (h.0, h.1, pat_more w k s g p h.0 c h.2)
  pat_more w k s g (PLayer x p) u c h = (h.0, pat_more w k s g p u c h.1)

  pats_more : (w k : World) → Sub w k → (g : Ctx) (ps : Pats) (us : Tys) (c : Types) → HasPats w g ps us c → HasPats k g ps us c
  pats_more w k s g PNil NilT c h = tt
  pats_more w k s g (PMore p ps) (ConsT u us) c h = (pat_more w k s g p u c h.0, pats_more w k s g ps us c h.1)
  pats_more w k s g _ _ c h = absurd h

bools_up : (w k : World) → Sub w k → Bools w → Bools k
bools_up w k s h = (s.datas 0 true true_part NilT h.0, s.datas 0 true false_part NilT h.1)

oper_up : (w k : World) → Sub w k → (o : Operator) (a b t : Ty) → OperTy w o a b t → OperTy k o a b t
oper_up w k s (Arith o) a b t h = h
oper_up w k s (Compare o) a b t h = (h.0, h.1, h.2, h.3, bools_up w k s h.4)
oper_up w k s Concat a b t h = h
oper_up w k s Identical a b t h = (h.0, h.1, h.2, h.3, bools_up w k s h.4)
oper_up w k s Assign a b t h = h

prim_up : (w k : World) → Sub w k → (p : Primitive) (vs : Vals) (a r : Ty) → PrimTy w p vs a r → PrimTy k p vs a r
prim_up w k s Ref NoVals a r h = h
prim_up w k s Deref NoVals a r h = h
prim_up w k s Raise NoVals a r h = h
prim_up w k s Not NoVals a r h = (h.0, h.1, bools_up w k s h.2)
prim_up w k s PrintString NoVals a r h = h
prim_up w k s StringOfInt NoVals a r h = h
prim_up w k s CharCode NoVals a r h = h
prim_up w k s _ vs a r h = absurd h

given_up : (w k : World) → Sub w k → (v : Val) (t : Ty) → IsGiven w v t → IsGiven k v t
given_up w k s v t h = record { place = h.place; type = h.type; types = h.types; there = subst (λ l. slice_get l h.place ≡ Some (record { value = v; type = h.type })) (sym s.givens) h.there; instance_of = h.instance_of }

pub op_up : (w k : World) → Sub w k → (op : Op) (ts : Tys) (t : Ty) → OpTy w op ts t → OpTy k op ts t
op_up w k s (Build i) ts t h = (h.0, h.1, h.2, h.3, s.datas h.0 h.1 i h.3 h.4, h.5, h.6)
op_up w k s Apply ts t h = h
op_up w k s Pair ts t h = h
op_up w k s Make ts t h = h
op_up w k s ListOf ts t h = (h.0, h.1, h.2, (s.datas 1 true nil_part NilT h.3.0, s.datas 1 true cons_part _ h.3.1))
op_up w k s (Oper o) ts t h = (h.0, h.1, h.2, oper_up w k s o h.0 h.1 t h.3)

pub binds_more : (w k : World) → Sub w k → (g : Ctx) (A B : Ty → Type 0) → ((a : Ty) → A a → B a) → (p : Pat) (h : Ctx) → Binds w g A p h → Binds k g B p h
binds_more w k s g A B f p h b = ((b.0.0, b.0.1, f b.0.0 b.0.2, pat_more w k s g p b.0.0 b.0.1 b.0.3), λ x u i o. let m = b.1 x u i o in (m.0, m.1, f m.0 m.2, pat_more w k s g p m.0 m.1 m.3, m.4))

-- Z only puts all functions of the block into one universe
mutual
  has_up : (Z : Type 0) (w k : World) → Sub w k → (e : Exp) (g : Ctx) (t : Ty) → Has w g e t → Has k g e t
  has_up Z w k s (Is v) g t h = val_up Z w k s v t h
  has_up Z w k s (Fail v) g t h = val_up Z w k s v TExn h
  has_up Z w k s (Lit n) g t h = h
  has_up Z w k s (Var x) g t h = h
  has_up Z w k s (Fn f rs) g t h = (h.0, h.1, h.2, fall_up Z w k s f rs h.3, rules_up Z w k s rs g (λ u. u ≡ h.0) (λ u. u ≡ h.0) (λ u q. q) h.1 h.4)
  has_up Z w k s (Group fs b) g t h =
      (h.0, (λ f u i o. let m = h.1 f u i o in (m.0, m.1, funs_up Z w k s fs (join (names fs) (monos m.0) g) m.0 m.2)), has_up Z w k s b (join (names fs) h.0 g) t h.2)
  has_up Z w k s (Node op es) g t h = (h.0, all_up Z w k s es g h.0 h.1, op_up w k s op h.0 t h.2)
  has_up Z w k s (Case f a rs) g t (inr h) = inr (h.0, whole_up w k s h.0 rs h.1, has_up Z w k s a g h.0 h.2, rules_up Z w k s rs g (λ a1. a1 ≡ h.0) (λ a1. a1 ≡ h.0) (λ a1 q. q) t h.3)
  has_up Z w k s (Case f a rs) g t (inl (hf, u, ha, inl h)) = inl (fall_up Z w k s f rs hf, u, has_up Z w k s a g u ha, inl (rules_up Z w k s rs g (λ a1. a1 ≡ u) (λ a1. a1 ≡ u) (λ a1 q. q) t h))
  has_up Z w k s (Case f a rs) g t (inl (hf, u, ha, inr h)) =
      inl (fall_up Z w k s f rs hf, u, has_up Z w k s a g u ha, inr (h.0, rules_up Z w k s rs g (λ a1. Has w g a a1) (λ a1. Has k g a a1) (λ a1 q. has_up Z w k s a g a1 q) t h.1))
  has_up Z w k s (NewExn x b) g t h = (h.0, has_up Z w k s b (join (same x) (λ y. Some (Mono (TNam h.0))) g) t h.1)
  has_up Z w k s (LetMod e p is b) g t h =
      (h.0, (λ x u i. found_up Z w k s (UseAt (g x) u) u (e x) (h.1 x u i)), h.2, items_up Z w k s is (record { env = h.0; own = no_ctx }) h.2 h.3, has_up Z w k s b (under_ty p (h.2).own g) t h.4)
  has_up Z w k s (InMod p v b) g t h = absurd h
  has_up Z w k s (StructOf e is) g t h = absurd h
  has_up Z w k s (InStruct v) g t h = absurd h
  has_up Z w k s (Try a rs) g t h = (has_up Z w k s a g t h.0, rules_up Z w k s rs g (λ u. u ≡ TExn) (λ u. u ≡ TExn) (λ u q. q) t h.1)

  all_up : (Z : Type 0) (w k : World) → Sub w k → (es : Exps) (g : Ctx) (ts : Tys) → HasAll w g es ts → HasAll k g es ts
  all_up Z w k s Nil g NilT h = tt
  all_up Z w k s (Cons e es) g (ConsT t ts) h = (has_up Z w k s e g t h.0, all_up Z w k s es g ts h.1)
  all_up Z w k s _ g _ h = absurd h

  fall_up : (Z : Type 0) (w k : World) → Sub w k → (f : Fall) (rs : Rules) → HasFall w f rs → HasFall k f rs
  fall_up Z w k s Stuck rs h = h
  fall_up Z w k s (Raises v) rs h = val_up Z w k s v TExn h

  rules_up : (Z : Type 0) (w k : World) → Sub w k → (rs : Rules) (g : Ctx) (A B : Ty → Type 0) → ((a : Ty) → A a → B a) → (t : Ty) → HasRules w g A rs t → HasRules k g B rs t
  rules_up Z w k s Stop g A B f t h = tt
  rules_up Z w k s (Rule p b rs) g A B f t h = (h.0, binds_more w k s g A B f p h.0 h.1, has_up Z w k s b (join (binds p) h.0 g) t h.2, rules_up Z w k s rs g A B f t h.3)

  funs_up : (Z : Type 0) (w k : World) → Sub w k → (fs : Funs) (g : Ctx) (c : Types) → HasFuns w g fs c → HasFuns k g fs c
  funs_up Z w k s NoFuns g c h = tt
  funs_up Z w k s (Fun i f rs fs) g c h = (h.0, h.1, h.2, fall_up Z w k s f rs h.3, rules_up Z w k s rs g (λ u. u ≡ h.0) (λ u. u ≡ h.0) (λ u q. q) h.1 h.4, funs_up Z w k s fs g c h.5)

  val_up : (Z : Type 0) (w k : World) → Sub w k → (v : Val) (t : Ty) → HasVal w v t → HasVal k v t
  val_up Z w k s (Datum n) t h = h
  val_up Z w k s (Tup vs) (TTup ts) h = vals_up Z w k s vs ts h
  val_up Z w k s (Con i vs) (TData d b us) h = (h.0, s.datas d b i h.0 h.1, vals_up Z w k s vs (inst_all us h.0) h.2)
  val_up Z w k s (Clo f rs) (TArr a r) (inl h) = inl (fall_up Z w k s f rs h.0, rules_up Z w k s rs no_ctx (λ u. u ≡ a) (λ u. u ≡ a) (λ u q. q) r h.1)
  val_up Z w k s (Clo f rs) (TArr a r) (inr h) = inr (given_up w k s (Clo f rs) (TArr a r) h)
  val_up Z w k s (Rec fs f) (TArr a r) h = (h.0, h.1, h.2, funs_up Z w k s fs (join (names fs) (monos h.1) no_ctx) h.1 h.3)
  val_up Z w k s (Loc l) (TRef t) h = s.cells l t h
  val_up Z w k s (Nam i) (TNam ts) h = s.exns i ts h
  val_up Z w k s (Exn i vs) TExn h = (h.0, s.exns i h.0 h.1, vals_up Z w k s vs h.0 h.2)
  val_up Z w k s (Prim p vs) (TArr a r) h = prim_up w k s p vs a r h
  val_up Z w k s _ _ h = absurd h

  vals_up : (Z : Type 0) (w k : World) → Sub w k → (vs : Vals) (ts : Tys) → HasVals w vs ts → HasVals k vs ts
  vals_up Z w k s NoVals NilT h = tt
  vals_up Z w k s (Item v vs) (ConsT t ts) h = (val_up Z w k s v t h.0, vals_up Z w k s vs ts h.1)
  vals_up Z w k s _ _ h = absurd h

  found_up : (Z : Type 0) (w k : World) → Sub w k → (A : Type 0) (u : Ty) (f : Found) → HasFound w A u f → HasFound k A u f
  found_up Z w k s A u Absent h = h
  found_up Z w k s A u (There v) h = val_up Z w k s v u h

  pub items_up : (Z : Type 0) (w k : World) → Sub w k → (is : Items) (c d : ScopeTy) → HasItems w c is d → HasItems k c is d
  items_up Z w k s End c d t = t
  items_up Z w k s (Value f p a is) c d (hf, u, ha, h, inl b, t) =
      (fall_up Z w k s f _ hf, u, has_up Z w k s a c.env u ha, h, inl (binds_more w k s c.env (λ a1. a1 ≡ u) (λ a1. a1 ≡ u) (λ a1 q. q) p h b), items_up Z w k s is (joined (binds p) h c) d t)
  items_up Z w k s (Value f p a is) c d (hf, u, ha, h, inr b, t) =
      (fall_up Z w k s f _ hf, u, has_up Z w k s a c.env u ha, h, inr (b.0, binds_more w k s c.env (λ a1. Has w c.env a a1) (λ a1. Has k c.env a a1) (λ a1 q. has_up Z w k s a c.env a1 q) p h b.1), items_up Z w k s is (joined (binds p) h c) d t)
  items_up Z w k s (Functions fs is) c d t =
      (t.0, (λ f u i o. let m = t.1 f u i o in (m.0, m.1, funs_up Z w k s fs (join (names fs) (monos m.0) c.env) m.0 m.2)), items_up Z w k s is (joined (names fs) t.0 c) d t.2)
  items_up Z w k s (Exception x is) c d t = (t.0, items_up Z w k s is (joined (same x) (exn_ctx t.0) c) d t.1)
  items_up Z w k s (Alias p x is) c d t = items_up Z w k s is (with_struct_ty p (λ y. c.env (x ++ y)) c) d t
  items_up Z w k s (FunctorOf f x body is) c d t = absurd t
  items_up Z w k s (Applied p f a is) c d t = absurd t
  items_up Z w k s (Struct p body is) c d t = (t.0, items_up Z w k s body (inside_ty c) t.0 t.1, items_up Z w k s is (with_struct_ty p (t.0).own c) d t.2)

pub has_more : (w k : World) → Sub w k → (e : Exp) (g : Ctx) (t : Ty) → Has w g e t → Has k g e t
has_more w k s e g t h = has_up (Unit {0}) w k s e g t h

pub all_more : (w k : World) → Sub w k → (es : Exps) (g : Ctx) (ts : Tys) → HasAll w g es ts → HasAll k g es ts
all_more w k s es g ts h = all_up (Unit {0}) w k s es g ts h

pub fall_more : (w k : World) → Sub w k → (f : Fall) (rs : Rules) → HasFall w f rs → HasFall k f rs
fall_more w k s f rs h = fall_up (Unit {0}) w k s f rs h

pub rules_more : (w k : World) → Sub w k → (rs : Rules) (g : Ctx) (A B : Ty → Type 0) → ((a : Ty) → A a → B a) → (t : Ty) → HasRules w g A rs t → HasRules k g B rs t
rules_more w k s rs g A B f t h = rules_up (Unit {0}) w k s rs g A B f t h

pub val_more : (w k : World) → Sub w k → (v : Val) (t : Ty) → HasVal w v t → HasVal k v t
val_more w k s v t h = val_up (Unit {0}) w k s v t h

pub holds_more : (w k : World) → Sub w k → (ts : List Ty) (vs : List Val) → HoldsAll w ts vs → HoldsAll k ts vs
holds_more w k s [] [] h = tt
holds_more w k s (t ∷ ts) (v ∷ vs) h = (val_more w k s v t h.0, holds_more w k s ts vs h.1)
holds_more w k s _ _ h = absurd h

at_more : (w k : World) → Sub w k → (d : Option Scheme) (t : Ty) (o : Option Val) → At w d t o → At k d t o
at_more w k s d t None h = h
at_more w k s d t (Some v) h = val_more w k s v t h

pub puts_more : (w k : World) → Sub w k → (g d : Ctx) (env : Env) → Puts w g d env → Puts k g d env
puts_more w k s g d env p = λ x t h. at_more w k s (d x) t (env x) (p x t h)

pub items_more : (w k : World) → Sub w k → (is : Items) (c d : ScopeTy) → HasItems w c is d → HasItems k c is d
items_more w k s is c d t = items_up (Unit {0}) w k s is c d t
