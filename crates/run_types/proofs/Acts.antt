-- What operators and patterns do with typed values.
use Rattle.std.proofs.Common.{◌≡◌, ℕ, zero, suc, ◌⊎◌, inl, inr, List, [], ◌∷◌, ◌++◌, length, Option, Some, None, Bool, true, false, not, nat_eq, if◌then◌else◌, slice_get, slice_set, refl, sym, ap, ◌∙◌, subst, ℤ}
use Rattle.run_types.proofs.Grown.{holds_more, puts_more, same_sub, sub_trans, val_more}
use Rattle.run_types.proofs.Put.{OptHas, always_close, datum_arr, datum_data, datum_exn, datum_nam, fall_close, funs_closed, names_same, pat_close, put_case, puts_over, rules_closed, under_bound}
use Rattle.run_types.proofs.Taken.{FoundRules, GivesVal, MatchOk, Takes, always_takes, datum_ref, found_rules, holds_get, match_has, some_ty}
use Rattle.run_types.specs.Safe.{Good, Ok, Sub, exn_has, val_has}
use Rattle.run_types.specs.Types.{AllOf, Always, At, Binds, Bools, ConsT, Covers, Ctx, Given, Has, HasAll, HasFall, HasFuns, HasRules, HasVal, HasVals, Holds, HoldsAll, IsGiven, Lists, Mono, NilT, OpTy, OperTy, PrimTy, Puts, TArr, TChar, TExn, TInt, TNam, TRef, TString, TVar, Ty, Types, Tys, UseAt, World, bool_ty, const_ty, exn_ctx, inst_all, join, list_ty, mono, monos, no_ctx, total, unit_ty}
use Rattle.runs.proofs.Close.{Dom, binds_close, group_dom, names_close}
use Rattle.runs.proofs.Still.{item_of, pure_of, result, results}
use Rattle.runs.specs.Env.{Env, binds, close, close_all, close_funs, close_pat, close_rules, empty, group, hide, names, over, put, var_or}
use Rattle.runs.specs.Ints.{arithmetic}
use Rattle.runs.specs.Meaning.{Done, Go, More, Raised, Res, Wrong, fallen, known, or_next, or_rescue, perform, then_do}
use Rattle.runs.specs.Names.{Name, last_part, same}
use Rattle.runs.specs.Ordered.{AllStill, Still}
use Rattle.runs.specs.Patterns.{matched}
use Rattle.runs.specs.Primitives.{St, act, as_truth, body, calls, drawn, find, gives, holds, int_of, list_of, negated, next_name, of_kind, oper, prim, prim_one, pure, pure_val, truth, truth_of, unit, with_cell, written}
use Rattle.runs.specs.Tree.{Apply, Arith, Arithmetic, Assign, Build, Char, CharCode, Clo, Compare, Comparison, Con, Concat, Cons, Const, Datum, Deref, Divide, Exn, Exp, Exps, Fall, Fn, Funs, Identical, Int, Is, Item, Land, ListOf, Lit, Loc, Lor, Lsl, Lsr, Lxor, Make, Minus, Modulo, Nam, Nil, NoVals, Node, Not, Op, Oper, Operator, Pair, Pat, Plus, Prim, Primitive, PrintString, Raise, Raises, Rec, Ref, Rules, Str, StringOfInt, Stuck, Times, Tup, Val, Vals, Var}

-- the value of a still tree has each type that the tree has
make_has : (w : World) (args : Tys) (vs : Vals) → HasVals w vs (ConsT (TNam args) args) → GivesVal w TExn (pure_val Make vs)
make_has w args NoVals h = absurd h
make_has w args (Item (Nam k) vs) h = (args, h.0, h.1)
make_has w args (Item (Datum n) vs) h = absurd (datum_nam n args h.0)
make_has w args (Item _ vs) h = absurd h.0

list_has : (w : World) (a : Ty) (vs : Vals) (ts : Tys) → Lists w → AllOf a ts → HasVals w vs ts → HasVal w (list_of vs) (list_ty a)
list_has w a NoVals NilT l q h = (NilT, l.0, tt)
list_has w a (Item v vs) (ConsT t ts) l q h = (ConsT (TVar 0) (ConsT (list_ty (TVar 0)) NilT), l.1, (subst (HasVal w v) q.0 h.0, (list_has w a vs ts l q.1 h.1, tt)))
list_has w a NoVals (ConsT t ts) l q h = absurd h
list_has w a (Item v vs) NilT l q h = absurd h

pure_has : (w : World) (op : Op) (vs : Vals) (ts : Tys) (t : Ty) → pure op ≡ true → OpTy w op ts t → HasVals w vs ts → GivesVal w t (pure_val op vs)
pure_has w Pair vs ts t p o h = subst (HasVal w (Tup vs)) (sym o) h
pure_has w (Build k) vs ts t p o h = subst (HasVal w (Con k vs)) (sym o.6) (o.3, o.4, subst (HasVals w vs) o.5 h)
pure_has w Make vs ts t p o h = subst (λ u. GivesVal w u (pure_val Make vs)) (sym o.2) (make_has w o.0 vs (subst (HasVals w vs) o.1 h))
pure_has w ListOf vs ts t p o h = subst (HasVal w (list_of vs)) (sym o.2) (list_has w o.0 vs ts o.3 o.1 h)
pure_has w Apply vs ts t p o h = absurd (cc p)
pure_has w (Oper k) vs ts t p o h = absurd (cc p)

abbrev GivesVals : World → Tys → Option Vals → Type 0
GivesVals w ts None = ⊥
GivesVals w ts (Some vs) = HasVals w vs ts

gives_pure : (w : World) (op : Op) (ts : Tys) (t : Ty) (o : Option Vals) → pure op ≡ true → OpTy w op ts t → GivesVals w ts o → GivesVal w t (pure_of op o)
gives_pure w op ts t None p q h = h
gives_pure w op ts t (Some vs) p q h = pure_has w op vs ts t p q h

gives_item : (w : World) (t : Ty) (ts : Tys) (o : Option Val) (q : Option Vals) → GivesVal w t o → GivesVals w ts q → GivesVals w (ConsT t ts) (item_of o q)
gives_item w t ts None q h k = h
gives_item w t ts (Some v) None h k = k
gives_item w t ts (Some v) (Some vs) h k = (h, k)

var_gives : (w : World) (t : Ty) (x : Name) (o : Option Val) → At w None t o → GivesVal w t (result (var_or x o))
var_gives w t x None h = h
var_gives w t x (Some v) h = h

pub fn_has : (w : World) (g : Ctx) (env : Env) (f : Fall) (rs : Rules) (t a r : Ty) → t ≡ TArr a r → Puts w g no_ctx env → HasFall w f rs → HasRules w g (λ u. u ≡ a) rs r → HasVal w (Clo f (close_rules env rs)) t
fn_has w g env f rs t a r q p hf h = subst (HasVal w (Clo f (close_rules env rs))) (sym q) (inl (fall_close w env f rs hf, rules_closed w rs g no_ctx env (λ u. u ≡ a) (λ u. u ≡ a) (λ u e. e) r p h))

mutual
  pub still_has : (w : World) (e : Exp) (g : Ctx) (env : Env) (t : Ty) → Puts w g no_ctx env → Still e → Has w g e t → GivesVal w t (result (close env e))
  still_has w (Is v) g env t p st h = h
  still_has w (Lit n) g env t p st h = h
  still_has w (Var x) g env t p st h = var_gives w t x (env x) (p x t h)
  still_has w (Fn f rs) g env t p st h = fn_has w g env f rs t h.0 h.1 h.2 p h.3 h.4
  still_has w (Node op es) g env t p st h = gives_pure w op h.0 t (results (close_all env es)) st.0 h.2 (stills_have w es g env h.0 p st.1 h.1)
  still_has w _ g env t p st h = absurd st

  stills_have : (w : World) (es : Exps) (g : Ctx) (env : Env) (ts : Tys) → Puts w g no_ctx env → AllStill es → HasAll w g es ts → GivesVals w ts (results (close_all env es))
  stills_have w Nil g env NilT p st h = tt
  stills_have w (Cons e es) g env (ConsT t ts) p st h = gives_item w t ts (result (close env e)) (results (close_all env es)) (still_has w e g env t p st.0 h.0) (stills_have w es g env ts p st.1 h.1)
  stills_have w Nil g env (ConsT t ts) p st h = absurd h
  stills_have w (Cons e es) g env NilT p st h = absurd h

-- memory
holds_add : (w : World) (ts : List Ty) (vs : List Val) (t : Ty) (v : Val) → HoldsAll w ts vs → HasVal w v t → HoldsAll w (ts ++ t ∷ []) (vs ++ v ∷ [])
holds_add w [] [] t v h hv = (hv, tt)
holds_add w (u ∷ ts) (x ∷ vs) t v h hv = (h.0, holds_add w ts vs t v h.1 hv)
holds_add w [] (x ∷ vs) t v h hv = absurd h
holds_add w (u ∷ ts) [] t v h hv = absurd h

holds_last : (w : World) (ts : List Ty) (vs : List Val) (t : Ty) → HoldsAll w ts vs → slice_get (ts ++ t ∷ []) (length vs) ≡ Some t
holds_last w [] [] t h = refl
holds_last w (u ∷ ts) (x ∷ vs) t h = holds_last w ts vs t h.1
holds_last w [] (x ∷ vs) t h = absurd h
holds_last w (u ∷ ts) [] t h = absurd h

holds_set : (w : World) (ts : List Ty) (vs : List Val) (l : ℕ) (t : Ty) (v : Val) → HoldsAll w ts vs → slice_get ts l ≡ Some t → HasVal w v t → HoldsAll w ts (slice_set vs l v)
holds_set w [] [] l t v h q hv = absurd (cc q)
holds_set w (u ∷ ts) (x ∷ vs) zero t v h q hv = (subst (HasVal w v) (sym (some_ty u t q)) hv, h.1)
holds_set w (u ∷ ts) (x ∷ vs) (suc l) t v h q hv = (h.0, holds_set w ts vs l t v h.1 q hv)
holds_set w [] (x ∷ vs) l t v h q hv = absurd h
holds_set w (u ∷ ts) [] l t v h q hv = absurd h

get_add : {A : Type 0} (ts : List A) (t : A) (l : ℕ) (u : A) → slice_get ts l ≡ Some u → slice_get (ts ++ t ∷ []) l ≡ Some u
get_add [] t l u h = absurd (cc h)
get_add (s ∷ ts) t zero u h = h
get_add (s ∷ ts) t (suc l) u h = get_add ts t l u h

get_last : {A : Type 0} (ts : List A) (t : A) → slice_get (ts ++ t ∷ []) (length ts) ≡ Some t
get_last [] t = refl
get_last (s ∷ ts) t = get_last ts t

length_add : {A : Type 0} (ts : List A) (t : A) → length (ts ++ t ∷ []) ≡ suc (length ts)
length_add [] t = refl
length_add (s ∷ ts) t = ap suc (length_add ts t)

good_from : {A : Type 0} (P : World → A → Type 0) (w k : World) (a : A) (s : St) → Sub w k → Good P k a s → Good P w a s
good_from P w k a s u g = record { k = g.k; sub = sub_trans w k g.k u g.sub; has = g.has; holds = g.holds }

pub ok_from : {A : Type 0} (P : World → A → Type 0) (w k : World) (r : Res A) → Sub w k → Ok P k r → Ok P w r
ok_from P w k (Done a s) u h = good_from P w k a s u h
ok_from P w k (Raised v s) u h = good_from exn_has w k v s u h
ok_from P w k (More s) u h = tt
ok_from P w k (Wrong s) u h = h

pub then_ok : {A B : Type 0} (P : World → A → Type 0) (Q : World → B → Type 0) (w : World) (r : Res A) (f : A → St → Res B) → Ok P w r → ((k : World) (a : A) (s : St) → Sub w k → P k a → Holds k s → Ok Q k (f a s)) → Ok Q w (then_do r f)
then_ok P Q w (Done a s) f h go = ok_from Q w h.k (f a s) h.sub (go h.k a s h.sub h.has h.holds)
then_ok P Q w (Raised v s) f h go = h
then_ok P Q w (More s) f h go = tt
then_ok P Q w (Wrong s) f h go = h

pub made_ok : {A : Type 0} (P : World → A → Type 0) (w : World) (a : A) (s : St) → P w a → Holds w s → Good P w a s
made_ok P w a s h hm = record { k = w; sub = same_sub w; has = h; holds = hm }

abbrev pub vals_has : Tys → World → Vals → Type 0
vals_has ts w vs = HasVals w vs ts

-- bodies of functions are evaluated well, and calls of given functions end well
pub record GoOk (givens : List Given) (go : Go) : Type 0 where
  pub body_ok : (w : World) (g : Ctx) (env : Env) (e : Exp) (t : Ty) (s : St) → w.givens ≡ givens → Puts w g no_ctx env → Has w g e t → Holds w s → Ok (val_has t) w (go env e s)
  pub given_ok : (w : World) (v x : Val) (a r : Ty) (s : St) → w.givens ≡ givens → IsGiven w v (TArr a r) → HasVal w x a → Holds w s → Ok (val_has r) w (perform go (act Apply (Item v (Item x NoVals)) s) s)

-- operators
pub two_of : (w : World) (t u : Ty) (P : Vals → Type 0) → ((v x : Val) → HasVal w v t → HasVal w x u → P (Item v (Item x NoVals))) → (vs : Vals) → HasVals w vs (ConsT t (ConsT u NilT)) → P vs
two_of w t u P f NoVals h = absurd h
two_of w t u P f (Item v NoVals) h = absurd h.1
two_of w t u P f (Item v (Item x NoVals)) h = f v x h.0 h.1.0
two_of w t u P f (Item v (Item x (Item y vs))) h = absurd h.1.1

pub no_env : (w : World) → Puts w no_ctx no_ctx empty
no_env w = λ x t h. h

mono_use : (o : Option Ty) (t : Ty) → UseAt (mono o) t → o ≡ Some t
mono_use None t h = absurd h
mono_use (Some a) t h = ap Some (sym h)

rec_has : (w : World) (fs : Funs) (c : Types) (f : Name) (t : Ty) → HasFuns w (join (names fs) (monos c) no_ctx) fs c → names fs f ≡ true → c f ≡ Some t → HasVal w (Rec fs f) t
rec_has w fs c f t h i q =
    let m = found_rules w (join (names fs) (monos c) no_ctx) c f fs h i in
    subst (HasVal w (Rec fs f)) (some_ty (TArr m.1 m.2) t (sym m.4 ∙ q)) (i, c, m.4, h)

group_case : (w : World) (b : Bool) (o : Option Ty) (v : Val) (t : Ty) → (b ≡ true → o ≡ Some t → HasVal w v t) → UseAt (if b then mono o else None) t → At w None t (if b then Some v else None)
group_case w true o v t f u = f refl (mono_use o t u)
group_case w false o v t f u = u

group_puts : (w : World) (fs : Funs) (c : Types) → HasFuns w (join (names fs) (monos c) no_ctx) fs c → Puts w (join (names fs) (monos c) no_ctx) no_ctx (group fs)
group_puts w fs c h = λ x t u. group_case w (names fs x) (c x) (Rec fs x) t (λ i q. rec_has w fs c x t h i q) u

abbrev pub dom_of : Ty → Ty
dom_of (TArr a r) = a
dom_of t = t

abbrev pub cod_of : Ty → Ty
cod_of (TArr a r) = r
cod_of t = t

calls_ok : (go : Go) (l : List Given) → GoOk l go → (w : World) (fs : Funs) (c : Types) (f : Name) (a t : Ty) (v : Val) (s : St) (o : Option (Fall × Rules)) → w.givens ≡ l → Holds w s → HasVal w v a → c f ≡ Some (TArr a t) → HasFuns w (join (names fs) (monos c) no_ctx) fs c → FoundRules w (join (names fs) (monos c) no_ctx) c f o → Ok (val_has t) w (perform go (calls fs v s o) s)
calls_ok go l gk w fs c f a t v s o wl hm hv q h m =
    let g = join (names fs) (monos c) no_ctx in
    let e : TArr a t ≡ TArr m.1 m.2 = some_ty (TArr a t) (TArr m.1 m.2) (sym q ∙ m.4) in
    subst (λ x. Ok (val_has t) w (perform go (calls fs v s x) s)) (sym m.3)
    (gk.body_ok w g (group fs) (body (m.0).0 (m.0).1 v) t s wl (group_puts w fs c h)
    (inl (m.5, m.1, subst (HasVal w v) (ap dom_of e) hv, inl (subst (λ r. HasRules w g (λ u. u ≡ m.1) (m.0).1 r) (sym (ap cod_of e)) m.6))) hm)

gives_ok : (go : Go) (w : World) (t : Ty) (s : St) (o : Option Val) → Holds w s → GivesVal w t o → Ok (val_has t) w (perform go (gives o s) s)
gives_ok go w t s None hm h = h
gives_ok go w t s (Some v) hm h = made_ok (val_has t) w v s h hm

-- another output
written_ok : (w : World) (s : St) (t : List ℕ) → Holds w s → Holds w (written t s)
written_ok w s t hm = record { cells = hm.cells; exns = hm.exns; bools = hm.bools }

alloc_ok : (w : World) (t : Ty) (s : St) → Holds w s → (v : Val) → HasVal w v t → Good (val_has (TRef t)) w (Loc (length s.mem)) (with_cell v s)
alloc_ok w t s hm v h =
    let k : World = record { cells = w.cells ++ t ∷ []; exns = w.exns; datas = w.datas; givens = w.givens } in
    let u : Sub w k = record { cells = λ l x q. get_add w.cells t l x q; exns = λ l x q. q; datas = λ d b c x q. q; same = λ d b c x q. q; givens = refl } in
    record {
      k = k;
      sub = u;
      has = holds_last w w.cells s.mem t hm.cells;
      holds = record { cells = holds_add k w.cells s.mem t v (holds_more w k u w.cells s.mem hm.cells) (val_more w k u v t h); exns = hm.exns; bools = hm.bools };
    }

write_ok : (go : Go) (w : World) (t : Ty) (s : St) → Holds w s → (v x : Val) → HasVal w v (TRef t) → HasVal w x t → Ok (val_has unit_ty) w (perform go (oper Assign v x s) s)
write_ok go w t s hm (Loc l) x h k = record { k = w; sub = same_sub w; has = tt; holds = record { cells = holds_set w w.cells s.mem l t x hm.cells h k; exns = hm.exns; bools = hm.bools } }
write_ok go w t s hm (Datum n) x h k = absurd (datum_ref n t h)
write_ok go w t s hm _ x h k = absurd h

truth_has : (w : World) (b : Bool) → Bools w → HasVal w (truth b) bool_ty
truth_has w true h = (NilT, h.0, tt)
truth_has w false h = (NilT, h.1, tt)

-- the values of base types
pub int_is : (P : Val → Type 0) (w : World) → ((i : ℤ) → P (Datum (Int i))) → (v : Val) → HasVal w v TInt → P v
int_is P w f (Datum (Int i)) h = f i
int_is P w f (Datum (Char i)) h = absurd (cc h)
int_is P w f (Datum (Str i)) h = absurd (cc h)
int_is P w f _ h = absurd h

text_is : (P : Val → Type 0) (w : World) → ((t : List ℕ) → P (Datum (Str t))) → (v : Val) → HasVal w v TString → P v
text_is P w f (Datum (Int i)) h = absurd (cc h)
text_is P w f (Datum (Char i)) h = absurd (cc h)
text_is P w f (Datum (Str t)) h = f t
text_is P w f _ h = absurd h

char_is : (P : Val → Type 0) (w : World) → ((c : ℕ) → P (Datum (Char c))) → (v : Val) → HasVal w v TChar → P v
char_is P w f (Datum (Int i)) h = absurd (cc h)
char_is P w f (Datum (Char c)) h = f c
char_is P w f (Datum (Str i)) h = absurd (cc h)
char_is P w f _ h = absurd h

cell_is : (P : Val → Type 0) (w : World) (a : Ty) → ((l : ℕ) → slice_get w.cells l ≡ Some a → P (Loc l)) → (v : Val) → HasVal w v (TRef a) → P v
cell_is P w a f (Loc l) h = f l h
cell_is P w a f (Datum n) h = absurd (datum_ref n a h)
cell_is P w a f _ h = absurd h

-- an operator on integers that always has a result
arith_ok : (go : Go) (w : World) (s : St) (o : Arithmetic) (a b : ℤ) → total o ≡ true → Holds w s → Ok (val_has TInt) w (perform go (gives (int_of (arithmetic o a b)) s) s)
arith_ok go w s Plus a b p hm = made_ok (val_has TInt) w _ s refl hm
arith_ok go w s Minus a b p hm = made_ok (val_has TInt) w _ s refl hm
arith_ok go w s Times a b p hm = made_ok (val_has TInt) w _ s refl hm
arith_ok go w s Land a b p hm = made_ok (val_has TInt) w _ s refl hm
arith_ok go w s Lor a b p hm = made_ok (val_has TInt) w _ s refl hm
arith_ok go w s Lxor a b p hm = made_ok (val_has TInt) w _ s refl hm
arith_ok go w s Divide a b p hm = absurd (cc p)
arith_ok go w s Modulo a b p hm = absurd (cc p)
arith_ok go w s Lsl a b p hm = absurd (cc p)
arith_ok go w s Lsr a b p hm = absurd (cc p)

-- a comparison of two constants of one type
kind_case : (go : Go) (w : World) (s : St) (b : Bool) (p : Bool) → b ≡ true → Bools w → Holds w s → Ok (val_has bool_ty) w (perform go (gives (truth_of (if b then Some p else None)) s) s)
kind_case go w s true p q h hm = made_ok (val_has bool_ty) w (truth p) s (truth_has w p h) hm
kind_case go w s false p q h hm = absurd (cc q)

pub same_kind : (a b c : Const) → const_ty a ≡ const_ty c → const_ty b ≡ const_ty c → of_kind a b ≡ true
same_kind (Int a) (Int b) c p q = refl
same_kind (Char a) (Char b) c p q = refl
same_kind (Str a) (Str b) c p q = refl
same_kind (Int a) (Char b) c p q = absurd (cc (p ∙ sym q))
same_kind (Int a) (Str b) c p q = absurd (cc (p ∙ sym q))
same_kind (Char a) (Int b) c p q = absurd (cc (p ∙ sym q))
same_kind (Char a) (Str b) c p q = absurd (cc (p ∙ sym q))
same_kind (Str a) (Int b) c p q = absurd (cc (p ∙ sym q))
same_kind (Str a) (Char b) c p q = absurd (cc (p ∙ sym q))

pub const_is : (P : Val → Type 0) (w : World) (c : Const) → ((d : Const) → const_ty d ≡ const_ty c → P (Datum d)) → (v : Val) → HasVal w v (const_ty c) → P v
const_is P w (Int i) f v h = int_is P w (λ j. f (Int j) refl) v h
const_is P w (Char i) f v h = char_is P w (λ j. f (Char j) refl) v h
const_is P w (Str i) f v h = text_is P w (λ j. f (Str j) refl) v h

compare_ok : (go : Go) (w : World) (s : St) (o : Comparison) (c : Const) (v x : Val) → HasVal w v (const_ty c) → HasVal w x (const_ty c) → Bools w → Holds w s → Ok (val_has bool_ty) w (perform go (oper (Compare o) v x s) s)
compare_ok go w s o c v x h k b hm =
    const_is (λ y. Ok (val_has bool_ty) w (perform go (oper (Compare o) y x s) s)) w c
    (λ d e. const_is (λ y. Ok (val_has bool_ty) w (perform go (oper (Compare o) (Datum d) y s) s)) w c
    (λ j f. kind_case go w s (of_kind d j) (holds o d j) (same_kind d j c e f) b hm) x k) v h

oper_ok : (go : Go) (w : World) (o : Operator) (a b t : Ty) (v x : Val) (s : St) → OperTy w o a b t → HasVal w v a → HasVal w x b → Holds w s → Ok (val_has t) w (perform go (oper o v x s) s)
oper_ok go w (Arith o) a b t v x s q h k hm =
    subst (λ u. Ok (val_has u) w (perform go (oper (Arith o) v x s) s)) (sym q.3)
    (int_is (λ y. Ok (val_has TInt) w (perform go (oper (Arith o) y x s) s)) w (λ i. int_is (λ y. Ok (val_has TInt) w (perform go (oper (Arith o) (Datum (Int i)) y s) s)) w (λ j. arith_ok go w s o i j q.0 hm) x (subst (HasVal w x) q.2 k)) v (subst (HasVal w v) q.1 h))
oper_ok go w (Compare o) a b t v x s q h k hm =
    subst (λ u. Ok (val_has u) w (perform go (oper (Compare o) v x s) s)) (sym q.3) (compare_ok go w s o q.0 v x (subst (HasVal w v) q.1 h) (subst (HasVal w x) q.2 k) q.4 hm)
oper_ok go w Concat a b t v x s q h k hm =
    subst (λ u. Ok (val_has u) w (perform go (oper Concat v x s) s)) (sym q.2)
    (text_is (λ y. Ok (val_has TString) w (perform go (oper Concat y x s) s)) w (λ i. text_is (λ y. Ok (val_has TString) w (perform go (oper Concat (Datum (Str i)) y s) s)) w (λ j. made_ok (val_has TString) w _ s refl hm) x (subst (HasVal w x) q.1 k)) v (subst (HasVal w v) q.0 h))
oper_ok go w Identical a b t v x s q h k hm =
    subst (λ u. Ok (val_has u) w (perform go (oper Identical v x s) s)) (sym q.3)
    (cell_is (λ y. Ok (val_has bool_ty) w (perform go (oper Identical y x s) s)) w q.0 (λ i e. cell_is (λ y. Ok (val_has bool_ty) w (perform go (oper Identical (Loc i) y s) s)) w q.0 (λ j f. made_ok (val_has bool_ty) w (truth (nat_eq i j)) s (truth_has w (nat_eq i j) q.4) hm) x (subst (HasVal w x) q.2 k)) v (subst (HasVal w v) q.1 h))
oper_ok go w Assign a b t v x s q h k hm = subst (λ u. Ok (val_has u) w (perform go (oper Assign v x s) s)) (sym q.1) (write_ok go w b s hm v x (subst (HasVal w v) q.0 h) k)

-- predefined functions
not_case : (go : Go) (w : World) (s : St) (o : Option Bool) (b : Bool) → o ≡ Some b → Bools w → Holds w s → Ok (val_has bool_ty) w (perform go (gives (truth_of (negated o)) s) s)
not_case go w s None b q h hm = absurd (cc q)
not_case go w s (Some c) b q h hm = made_ok (val_has bool_ty) w (truth (not c)) s (truth_has w (not c) h) hm

no_args : (vs : Vals) (P : Vals → Type 0) (w : World) → HasVals w vs NilT → P NoVals → P vs
no_args NoVals P w h p = p
no_args (Item v vs) P w h p = absurd h

not_ok : (go : Go) (w : World) (s : St) (x : Val) → HasVal w x bool_ty → Bools w → Holds w s → Ok (val_has bool_ty) w (perform go (prim_one Not x s) s)
not_ok go w s (Con c vs) h b hm =
    let m = hm.bools c h.0 h.1 in
    no_args vs (λ us. Ok (val_has bool_ty) w (perform go (prim_one Not (Con c us) s) s)) w (subst (λ ts. HasVals w vs (inst_all NilT ts)) m.0 h.2) (not_case go w s (as_truth c) m.1 m.2 b hm)
not_ok go w s (Datum n) h b hm = absurd (datum_data n 0 true NilT h)
not_ok go w s _ h b hm = absurd h

raise_ok : (go : Go) (w : World) (t : Ty) (s : St) (x : Val) → HasVal w x TExn → Holds w s → Ok (val_has t) w (perform go (prim_one Raise x s) s)
raise_ok go w t s (Exn k vs) h hm = made_ok exn_has w (Exn k vs) s h hm
raise_ok go w t s (Datum n) h hm = absurd (datum_exn n h)
raise_ok go w t s _ h hm = absurd h

prim_ok : (go : Go) (w : World) (p : Primitive) (vs : Vals) (x : Val) (a r : Ty) (s : St) → PrimTy w p vs a r → HasVal w x a → Holds w s → Ok (val_has r) w (perform go (prim p vs x s) s)
prim_ok go w Ref NoVals x a r s q h hm = subst (λ u. Ok (val_has u) w (perform go (prim_one Ref x s) s)) (sym q) (alloc_ok w a s hm x h)
prim_ok go w Deref NoVals x a r s q h hm = cell_is (λ y. Ok (val_has r) w (perform go (prim_one Deref y s) s)) w r (λ l e. gives_ok go w r s (slice_get s.mem l) hm (holds_get w w.cells s.mem l r hm.cells e)) x (subst (HasVal w x) q h)
prim_ok go w Raise NoVals x a r s q h hm = raise_ok go w r s x (subst (HasVal w x) q h) hm
prim_ok go w Not NoVals x a r s q h hm = subst (λ u. Ok (val_has u) w (perform go (prim_one Not x s) s)) (sym q.1) (not_ok go w s x (subst (HasVal w x) q.0 h) q.2 hm)
prim_ok go w PrintString NoVals x a r s q h hm =
    subst (λ u. Ok (val_has u) w (perform go (prim_one PrintString x s) s)) (sym q.1)
    (text_is (λ y. Ok (val_has unit_ty) w (perform go (prim_one PrintString y s) s)) w (λ t. made_ok (val_has unit_ty) w unit (written t s) tt (written_ok w s t hm)) x (subst (HasVal w x) q.0 h))
prim_ok go w StringOfInt NoVals x a r s q h hm =
    subst (λ u. Ok (val_has u) w (perform go (prim_one StringOfInt x s) s)) (sym q.1)
    (int_is (λ y. Ok (val_has TString) w (perform go (prim_one StringOfInt y s) s)) w (λ i. made_ok (val_has TString) w _ s refl hm) x (subst (HasVal w x) q.0 h))
prim_ok go w CharCode NoVals x a r s q h hm =
    subst (λ u. Ok (val_has u) w (perform go (prim_one CharCode x s) s)) (sym q.1)
    (char_is (λ y. Ok (val_has TInt) w (perform go (prim_one CharCode y s) s)) w (λ c. made_ok (val_has TInt) w _ s refl hm) x (subst (HasVal w x) q.0 h))
prim_ok go w _ vs x a r s q h hm = absurd q

apply_ok : (go : Go) (l : List Given) → GoOk l go → (w : World) (a t : Ty) (s : St) → w.givens ≡ l → Holds w s → (v x : Val) → HasVal w v (TArr a t) → HasVal w x a → Ok (val_has t) w (perform go (act Apply (Item v (Item x NoVals)) s) s)
apply_ok go l gk w a t s wl hm (Clo f rs) x (inl hv) hx = gk.body_ok w no_ctx empty (body f rs x) t s wl (no_env w) (inl (hv.0, a, hx, inl hv.1)) hm
apply_ok go l gk w a t s wl hm (Clo f rs) x (inr hv) hx = gk.given_ok w (Clo f rs) x a t s wl hv hx hm
apply_ok go l gk w a t s wl hm (Rec fs f) x hv hx = calls_ok go l gk w fs hv.1 f a t x s (find f fs) wl hm hx hv.2 hv.3 (found_rules w (join (names fs) (monos hv.1) no_ctx) hv.1 f fs hv.3 hv.0)
apply_ok go l gk w a t s wl hm (Prim p vs) x hv hx = prim_ok go w p vs x a t s hv hx hm
apply_ok go l gk w a t s wl hm (Datum n) x hv hx = absurd (datum_arr n a t hv)
apply_ok go l gk w a t s wl hm _ x hv hx = absurd hv

pub act_ok : (go : Go) (l : List Given) → GoOk l go → (w : World) (op : Op) (vs : Vals) (ts : Tys) (t : Ty) (s : St) → w.givens ≡ l → OpTy w op ts t → HasVals w vs ts → Holds w s → Ok (val_has t) w (perform go (act op vs s) s)
act_ok go l gk w Apply vs ts t s wl o h hm = two_of w (TArr o.0 t) o.0 (λ xs. Ok (val_has t) w (perform go (act Apply xs s) s)) (apply_ok go l gk w o.0 t s wl hm) vs (subst (HasVals w vs) o.1 h)
act_ok go l gk w Pair vs ts t s wl o h hm = gives_ok go w t s (pure_val Pair vs) hm (pure_has w Pair vs ts t refl o h)
act_ok go l gk w (Build c) vs ts t s wl o h hm = gives_ok go w t s (pure_val (Build c) vs) hm (pure_has w (Build c) vs ts t refl o h)
act_ok go l gk w Make vs ts t s wl o h hm = gives_ok go w t s (pure_val Make vs) hm (pure_has w Make vs ts t refl o h)
act_ok go l gk w ListOf vs ts t s wl o h hm = gives_ok go w t s (pure_val ListOf vs) hm (pure_has w ListOf vs ts t refl o h)
act_ok go l gk w (Oper k) vs ts t s wl o h hm = two_of w o.0 o.1 (λ xs. Ok (val_has t) w (perform go (act (Oper k) xs s) s)) (λ v x hv hx. oper_ok go w k o.0 o.1 t v x s o.3 hv hx hm) vs (subst (HasVals w vs) o.2 h)

pub known_ok : (w : World) (t : Ty) (o : Option Val) (s : St) → At w None t o → Holds w s → Ok (val_has t) w (known o s)
known_ok w t None s h hm = absurd h
known_ok w t (Some v) s h hm = made_ok (val_has t) w v s h hm

pub or_ok : (P : World → Val → Type 0) (w : World) (r : Res Val) (f : Val → St → Res Val) → Ok P w r → ((k : World) (v : Val) (s : St) → Sub w k → HasVal k v TExn → Holds k s → Ok P k (f v s)) → Ok P w (or_rescue r f)
or_ok P w (Done v s) f h go = h
or_ok P w (Raised v s) f h go = ok_from P w h.k (f v s) h.sub (go h.k v s h.sub h.has h.holds)
or_ok P w (More s) f h go = tt
or_ok P w (Wrong s) f h go = h

-- what comes where no rule takes the value: nothing that is wrong, or some rule takes it
abbrev pub FallOk : {A : Type 0} → (World → A → Type 0) → World → Rules → Res A → Type 0
FallOk P w rs r = Covers rs ⊎ Ok P w r

pub fall_ok : {A : Type 0} (P : World → A → Type 0) (w : World) (f : Fall) (rs : Rules) (s : St) → HasFall w f rs → Holds w s → FallOk P w rs (fallen f s)
fall_ok P w Stuck rs s h hm = inl h
fall_ok P w (Raises v) rs s h hm = inr (made_ok exn_has w v s h hm)

-- what a pattern took has each instance of the schemes of its variables
abbrev pub BoundOk : World → (Name → Bool) → Ctx → Option Env → Type 0
BoundOk w f h None = Unit {0}
BoundOk w f h (Some bs) = (y : Name) (t : Ty) → f y ≡ true → UseAt (h y) t → OptHas w t (bs y)

bound_from : (w : World) (f : Name → Bool) (h : Ctx) (o : Option Env) → ((y : Name) (t : Ty) → f y ≡ true → UseAt (h y) t → (c : Types) × MatchOk w c o × (c y ≡ Some t)) → BoundOk w f h o
bound_from w f h None k = tt
bound_from w f h (Some bs) k = λ y t i u. let m = k y t i u in m.1 y t m.2

pub bound_ok : (w : World) (g h : Ctx) (env : Env) (A : Ty → Type 0) (p : Pat) (v : Val) (m : List Val) → Puts w g no_ctx env → Binds w g A p h → ((a : Ty) → A a → HasVal w v a) → HoldsAll w w.cells m → BoundOk w (binds p) h (matched m (close_pat env p) v)
bound_ok w g h env A p v m q b each hm =
    bound_from w (binds p) h (matched m (close_pat env p) v)
    (λ y t i u. let n = b.1 y t i u in (n.1, match_has w m (close_pat env p) v n.0 n.1 hm (pat_close w g no_ctx env p n.0 n.1 q n.3) (each n.0 n.2), n.4))

pub next_ok : {B : Type 0} (P : World → B → Type 0) (w : World) (g h : Ctx) (env : Env) (p : Pat) (o : Option Env) (f : Env → Res B) (r : Res B) → Puts w g no_ctx env → Dom o (binds (close_pat env p)) → BoundOk w (binds p) h o → ((bs : Env) → Puts w (join (binds p) h g) no_ctx (over bs env) → Ok P w (f bs)) → (Takes o ⊎ Ok P w r) → Ok P w (or_next o f r)
next_ok P w g h env p None f r q d b go (inl t) = absurd t
next_ok P w g h env p None f r q d b go (inr hr) = hr
next_ok P w g h env p (Some bs) f r q d b go hr = go bs (puts_over w (binds p) h g no_ctx bs env (λ y. d y ∙ binds_close env p y) b q)

opt_if : (w : World) (t : Ty) (b : Bool) (v : Val) → HasVal w v t → OptHas w t (if b then Some v else None)
opt_if w t true v h = h
opt_if w t false v h = tt

-- the functions of a group have each instance of their schemes
pub group_have : (w : World) (g h : Ctx) (env : Env) (fs : Funs) → Puts w g no_ctx env → ((f : Name) (u : Ty) → names fs f ≡ true → UseAt (h f) u → (c : Types) × (c f ≡ Some u) × HasFuns w (join (names fs) (monos c) g) fs c) → (y : Name) (t : Ty) → names fs y ≡ true → UseAt (h y) t → OptHas w t (group (close_funs (hide (names fs) env) fs) y)
group_have w g h env fs p k f u i o =
    let e = hide (names fs) env in
    let gs = close_funs e fs in
    let m = k f u i o in
    opt_if w u (names gs f) (Rec gs f)
    (rec_has w gs m.0 f u
    (subst (λ n. HasFuns w (join n (monos m.0) no_ctx) gs m.0) (sym (names_same e fs)) (funs_closed w fs (join (names fs) (monos m.0) g) (join (names fs) (monos m.0) no_ctx) e m.0 (under_bound w (names fs) (monos m.0) g no_ctx env p) m.2))
    (names_close e fs f ∙ i) m.1)

pub group_ok : (w : World) (g h : Ctx) (env : Env) (fs : Funs) → Puts w g no_ctx env → ((f : Name) (u : Ty) → names fs f ≡ true → UseAt (h f) u → (c : Types) × (c f ≡ Some u) × HasFuns w (join (names fs) (monos c) g) fs c) → Puts w (join (names fs) h g) no_ctx (over (group (close_funs (hide (names fs) env) fs)) env)
group_ok w g h env fs p k = puts_over w (names fs) h g no_ctx (group (close_funs (hide (names fs) env) fs)) env (group_dom (hide (names fs) env) fs) (group_have w g h env fs p k) p

-- a pattern that always takes its value takes this one
pub pattern_takes : (w : World) (g h : Ctx) (env : Env) (A : Ty → Type 0) (p : Pat) (v : Val) (m : List Val) → Puts w g no_ctx env → Binds w g A p h → ((a : Ty) → A a → HasVal w v a) → HoldsAll w w.cells m → Always p → Takes (matched m (close_pat env p) v)
pattern_takes w g h env A p v m q b each hm al =
    let n = b.0 in
    always_takes w m (close_pat env p) v n.0 n.1 hm (always_close env p al) (pat_close w g no_ctx env p n.0 n.1 q n.3) (each n.0 n.2)

-- with one more exception
abbrev pub exn_world : World → Tys → World
exn_world w ts = record { cells = w.cells; exns = w.exns ++ ts ∷ []; datas = w.datas; givens = w.givens }

pub exn_sub : (w : World) (ts : Tys) → Sub w (exn_world w ts)
exn_sub w ts = record { cells = λ l x q. q; exns = λ l x q. get_add w.exns ts l x q; datas = λ d b c x q. q; same = λ d b c x q. q; givens = refl }

pub exn_holds : (w : World) (ts : Tys) (x : Name) (s : St) → Holds w s → Holds (exn_world w ts) (drawn x s)
exn_holds w ts x s hm =
    record {
      cells = holds_more w (exn_world w ts) (exn_sub w ts) w.cells s.mem hm.cells;
      exns = length_add w.exns ts ∙ ap suc hm.exns ∙ sym (length_add s.exns (last_part x));
      bools = hm.bools;
    }

pub exn_puts : (w : World) (ts : Tys) (x : Name) (g : Ctx) (env : Env) (s : St) → Holds w s → Puts w g no_ctx env → Puts (exn_world w ts) (join (same x) (exn_ctx ts) g) no_ctx (put x (next_name s) env)
exn_puts w ts x g env s hm p =
    let k = exn_world w ts in
    let nam : HasVal k (next_name s) (TNam ts) = subst (λ i. slice_get (w.exns ++ ts ∷ []) i ≡ Some ts) hm.exns (get_last w.exns ts) in
    λ y t u. put_case k (same x y) (Mono (TNam ts)) (g y) None (env y) (next_name s) t (λ e. subst (HasVal k (next_name s)) (sym e) nam) (puts_more w k (exn_sub w ts) g no_ctx env p y t) u

-- the evaluation of a still tree, which has each type of the tree
pub still_case : {B : Type 0} (P : World → B → Type 0) (w : World) (u : Ty) (r : Res Val) (o : Option Val) (s : St) (f : Val → St → Res B) → r ≡ known o s → GivesVal w u o → ((v : Val) → o ≡ Some v → Ok P w (f v s)) → Ok P w (then_do r f)
still_case P w u r None s f q h go = absurd h
still_case P w u r (Some v) s f q h go = subst (λ x. Ok P w (then_do x f)) (sym q) (go v refl)
