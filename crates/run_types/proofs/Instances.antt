-- A tree that is typed with type variables has a type for each choice of types for them.
use Rattle.std.proofs.Common.{◌≡◌, ℕ, zero, suc, ◌+◌, ◌≤◌, inl, inr, List, [], ◌∷◌, ◌++◌, length, Option, Some, None, Bool, true, false, if◌then◌else◌, refl, sym, ap, ap₂, ◌∙◌, subst, arith}
use Rattle.run_types.proofs.Put.{funs_closed, has_close, pat_close}
use Rattle.run_types.specs.Types.{All, AllOf, AnyTy, Binds, ConsT, Ctx, EqTy, Fits, FitsIn, Has, HasAll, HasFuns, HasPat, HasPats, HasRules, Kind, Mono, Names, NilT, OpTy, OperTy, Puts, TArr, TChar, TData, TExn, TInt, TNam, TRef, TString, TTup, TVar, Ty, Types, Tys, UseAt, World, const_ty, equal, equal_all, equal_all_in, equal_in, inst_all, join, mono, monos, no_ctx, no_var, nth, plain, real, real_all, sub, sub_all, vars_by}
use Rattle.run_types.specs.Written.{AllPlain, Chosen, Gen, Keeps, Levels, Plain, Poly, Polys, Realises, Upto, Use, Written, WrittenAll, WrittenFuns, WrittenRules, admits, at, gen, gens, inner, no_polys, seen_at}
use Rattle.runs.proofs.Close.{close_empty, funs_empty, pat_empty}
use Rattle.runs.specs.Env.{binds, empty, names}
use Rattle.runs.specs.Names.{Name, same}
use Rattle.runs.specs.Tree.{Apply, Arith, Assign, Broken, Build, Case, Char, Compare, Concat, Cons, Const, Drawn, Exp, Exps, Fail, Fn, Fun, Funs, Group, Identical, InMod, InStruct, Int, Is, LetMod, ListOf, Lit, Make, Named, NewExn, Nil, NoFuns, Node, Op, Oper, Operator, PAny, PCell, PCon, PExn, PLayer, PLit, PMore, PNil, PTup, PVar, Pair, Pat, Pats, Rule, Rules, Stop, Str, StructOf, Try, Var}
use mathlib.Core.Path.{fun_ext}

-- types put in one after the other
mutual
  pub sub_sub : (r : Names) (f h : ℕ → Ty) (a : Ty) → real r f (sub h a) ≡ real r (λ i. real r f (h i)) a
  sub_sub r f h TInt = refl
  sub_sub r f h TChar = refl
  sub_sub r f h TString = refl
  sub_sub r f h (TTup ts) = ap TTup (sub_sub_all r f h ts)
  sub_sub r f h (TArr a c) = ap₂ (λ x y. TArr x y) (sub_sub r f h a) (sub_sub r f h c)
  sub_sub r f h (TRef t) = ap TRef (sub_sub r f h t)
  sub_sub r f h TExn = refl
  sub_sub r f h (TNam ts) = ap TNam (sub_sub_all r f h ts)
  sub_sub r f h (TData d b ts) = ap (r d b) (sub_sub_all r f h ts)
  sub_sub r f h (TVar i) = refl

  sub_sub_all : (r : Names) (f h : ℕ → Ty) (ts : Tys) → real_all r f (sub_all h ts) ≡ real_all r (λ i. real r f (h i)) ts
  sub_sub_all r f h NilT = refl
  sub_sub_all r f h (ConsT t ts) = ap₂ (λ x y. ConsT x y) (sub_sub r f h t) (sub_sub_all r f h ts)

pub nth_sub : (r : Names) (f : ℕ → Ty) (i : ℕ) (us : Tys) → real r f (nth i us) ≡ nth i (real_all r f us)
nth_sub r f i NilT = refl
nth_sub r f zero (ConsT u us) = refl
nth_sub r f (suc i) (ConsT u us) = nth_sub r f i us

inst_sub : (r : Names) (f : ℕ → Ty) (us ts : Tys) → real_all r f (inst_all us ts) ≡ real_all r (λ i. nth i (real_all r f us)) ts
inst_sub r f us ts = sub_sub_all r f (λ i. nth i us) ts ∙ ap (λ k. real_all r k ts) (fun_ext (λ i. nth_sub r f i us))

own_sub : (r : Names) (f : ℕ → Ty) (n : ℕ) (h : ℕ → Ty) (us : Tys) (i : ℕ) → real r f (vars_by n h us i) ≡ vars_by n (λ j. real r f (h j)) (real_all r f us) i
own_sub r f zero h us i = nth_sub r f i us
own_sub r f (suc n) h us zero = refl
own_sub r f (suc n) h us (suc i) = own_sub r f n (λ j. h (suc j)) us i

-- equality under a choice of types
abbrev EqNames : Names → Type 0
EqNames r = (d : ℕ) (us : Tys) → equal_all us ≡ true → equal (r d true us) ≡ true

left_true : (b c : Bool) → (if b then c else false) ≡ true → b ≡ true
left_true true c h = refl
left_true false c h = absurd (cc h)

right_true : (b c : Bool) → (if b then c else false) ≡ true → c ≡ true
right_true true c h = h
right_true false c h = absurd (cc h)

both_true : (b c : Bool) → b ≡ true → c ≡ true → (if b then c else false) ≡ true
both_true b c h k = ap₂ (λ x y. if x then y else false) h k

mutual
  equal_sub : (r : Names) → EqNames r → (e : ℕ → Bool) (f : ℕ → Ty) → Keeps e f → (t : Ty) → equal_in e t ≡ true → equal (real r f t) ≡ true
  equal_sub r q e f k TInt h = refl
  equal_sub r q e f k TChar h = refl
  equal_sub r q e f k TString h = refl
  equal_sub r q e f k (TTup ts) h = equal_subs r q e f k ts h
  equal_sub r q e f k (TArr a c) h = absurd (cc h)
  equal_sub r q e f k (TRef t) h = refl
  equal_sub r q e f k TExn h = absurd (cc h)
  equal_sub r q e f k (TNam ts) h = absurd (cc h)
  equal_sub r q e f k (TData d true ts) h = q d (real_all r f ts) (equal_subs r q e f k ts h)
  equal_sub r q e f k (TData d false ts) h = absurd (cc h)
  equal_sub r q e f k (TVar i) h = k i h

  equal_subs : (r : Names) → EqNames r → (e : ℕ → Bool) (f : ℕ → Ty) → Keeps e f → (ts : Tys) → equal_all_in e ts ≡ true → equal_all (real_all r f ts) ≡ true
  equal_subs r q e f k NilT h = refl
  equal_subs r q e f k (ConsT t ts) h =
      both_true (equal (real r f t)) (equal_all (real_all r f ts)) (equal_sub r q e f k t (left_true (equal_in e t) (equal_all_in e ts) h)) (equal_subs r q e f k ts (right_true (equal_in e t) (equal_all_in e ts) h))

fits_sub : (r : Names) → EqNames r → (e : ℕ → Bool) (f : ℕ → Ty) → Keeps e f → (ks : List Kind) (us : Tys) → FitsIn e ks us → Fits ks (real_all r f us)
fits_sub r q e f k [] NilT h = tt
fits_sub r q e f k (AnyTy ∷ ks) (ConsT u us) h = fits_sub r q e f k ks us h
fits_sub r q e f k (EqTy ∷ ks) (ConsT u us) h = (equal_sub r q e f k u h.0, fits_sub r q e f k ks us h.1)
fits_sub r q e f k [] (ConsT u us) h = absurd h
fits_sub r q e f k (AnyTy ∷ ks) NilT h = absurd h
fits_sub r q e f k (EqTy ∷ ks) NilT h = absurd h

-- a variable at a type, under a choice of types
use_sub : (r : Names) → EqNames r → (e : ℕ → Bool) (f : ℕ → Ty) → Keeps e f → (n : ℕ) (ks : List Kind) (a t : Ty) (us : Tys) → FitsIn e ks us → t ≡ sub (vars_by n TVar us) a → UseAt (Some (All n r f ks a)) (real r f t)
use_sub r eq e f k n ks a t us h q =
    (real_all r f us, fits_sub r eq e f k ks us h, ap (real r f) q ∙ sub_sub r f (vars_by n TVar us) a ∙ ap (λ x. real r x a) (fun_ext (λ i. own_sub r f n TVar us i)))

use_at : (r : Names) → EqNames r → (ds : List Kind) (f : ℕ → Ty) → Keeps (admits ds) f → (o : Option Poly) (t : Ty) → Use ds o t → UseAt (seen_at r f o) (real r f t)
use_at r eq ds f k None t h = absurd h
use_at r eq ds f k (Some (Gen n ks a)) t h = use_sub r eq (admits ds) f k n ks a t h.0 h.1 h.2

tag_use : (r : Names) → EqNames r → (f : ℕ → Ty) (o : Option Poly) (t : Ty) → UseAt (seen_at plain TVar o) t → UseAt (seen_at r f o) (real r f t)
tag_use r eq f None t h = absurd h
tag_use r eq f (Some (Gen n ks a)) t h = use_sub r eq no_var f (λ i q. absurd (cc q)) n ks a t h.0 h.1 h.2

abbrev pub sub_opt : Names → (ℕ → Ty) → Option Ty → Option Ty
sub_opt r f None = None
sub_opt r f (Some a) = Some (real r f a)

abbrev pub sub_types : Names → (ℕ → Ty) → Types → Types
sub_types r f c = λ y. sub_opt r f (c y)

sub_eq : (r : Names) (f : ℕ → Ty) (c : Types) (x : Name) (u : Ty) → c x ≡ Some u → sub_opt r f (c x) ≡ Some (real r f u)
sub_eq r f c x u h = ap (sub_opt r f) h

-- the types of constants are themselves
real_const : (r : Names) (f : ℕ → Ty) (n : Const) → real r f (const_ty n) ≡ const_ty n
real_const r f (Int i) = refl
real_const r f (Char i) = refl
real_const r f (Str i) = refl

mutual
  pat_sub : (w z : World) (r : Names) (rl : Realises w z r) (f : ℕ → Ty) (g : Polys) (p : Pat) (u : Ty) (c : Types) → Plain p → HasPat w (at plain TVar g) p u c → HasPat z (at r f g) p (real r f u) (sub_types r f c)
  pat_sub w z r rl f g PAny u c o h = tt
  pat_sub w z r rl f g (PVar x) u c o h = sub_eq r f c x u h
  pat_sub w z r rl f g (PLit n) u c o h = ap (real r f) h ∙ real_const r f n
  pat_sub w z r rl f g (PTup ps) u c o h = (real_all r f h.0, ap (real r f) h.1, pats_sub w z r rl f g ps h.0 c o h.2)
  pat_sub w z r rl f g (PCon k ps) u c o h =
      let m = rl.datas h.0 h.1 k h.3 (real_all r f h.2) h.4 in
      (m.0, m.1, m.2, m.3, m.5, ap (real r f) h.5 ∙ m.4, subst (λ x. HasPats z (at r f g) ps x (sub_types r f c)) (inst_sub r f h.2 h.3 ∙ sym m.6) (pats_sub w z r rl f g ps (inst_all h.2 h.3) c o h.6))
  pat_sub w z r rl f g (PExn (Named x) ps) u c o h = (real_all r f h.0, tag_use r rl.equals f (g x) (TNam h.0) h.1, ap (real r f) h.2, pats_sub w z r rl f g ps h.0 c o h.3)
  pat_sub w z r rl f g (PExn (Drawn k) ps) u c o h = absurd o
  pat_sub w z r rl f g (PExn Broken ps) u c o h = absurd o
  pat_sub w z r rl f g (PCell p) u c o h = (real r f h.0, ap (real r f) h.1, pat_sub w z r rl f g p h.0 c o h.2)
  pat_sub w z r rl f g (PLayer x p) u c o h = (sub_eq r f c x u h.0, pat_sub w z r rl f g p u c o h.1)

  pats_sub : (w z : World) (r : Names) (rl : Realises w z r) (f : ℕ → Ty) (g : Polys) (ps : Pats) (us : Tys) (c : Types) → AllPlain ps → HasPats w (at plain TVar g) ps us c → HasPats z (at r f g) ps (real_all r f us) (sub_types r f c)
  pats_sub w z r rl f g PNil NilT c o h = tt
  pats_sub w z r rl f g (PMore p ps) (ConsT u us) c o h = (pat_sub w z r rl f g p u c o.0 h.0, pats_sub w z r rl f g ps us c o.1 h.1)
  pats_sub w z r rl f g PNil (ConsT u us) c o h = absurd h
  pats_sub w z r rl f g (PMore p ps) NilT c o h = absurd h

all_of_sub : (r : Names) (f : ℕ → Ty) (a : Ty) (ts : Tys) → AllOf a ts → AllOf (real r f a) (real_all r f ts)
all_of_sub r f a NilT h = tt
all_of_sub r f a (ConsT t ts) h = (ap (real r f) h.0, all_of_sub r f a ts h.1)

oper_sub : (w z : World) (r : Names) (rl : Realises w z r) (f : ℕ → Ty) (o : Operator) (a b t : Ty) → OperTy w o a b t → OperTy z o (real r f a) (real r f b) (real r f t)
oper_sub w z r rl f (Arith o) a b t h = (h.0, ap (real r f) h.1, ap (real r f) h.2, ap (real r f) h.3)
oper_sub w z r rl f (Compare o) a b t h = (h.0, ap (real r f) h.1 ∙ real_const r f h.0, ap (real r f) h.2 ∙ real_const r f h.0, ap (real r f) h.3 ∙ rl.bool, rl.bools h.4)
oper_sub w z r rl f Concat a b t h = (ap (real r f) h.0, ap (real r f) h.1, ap (real r f) h.2)
oper_sub w z r rl f Identical a b t h = (real r f h.0, ap (real r f) h.1, ap (real r f) h.2, ap (real r f) h.3 ∙ rl.bool, rl.bools h.4)
oper_sub w z r rl f Assign a b t h = (ap (real r f) h.0, ap (real r f) h.1)

op_sub : (w z : World) (r : Names) (rl : Realises w z r) (f : ℕ → Ty) (op : Op) (ts : Tys) (t : Ty) → OpTy w op ts t → OpTy z op (real_all r f ts) (real r f t)
op_sub w z r rl f Apply ts t h = (real r f h.0, ap (real_all r f) h.1)
op_sub w z r rl f Pair ts t h = ap (real r f) h
op_sub w z r rl f (Build k) ts t h = let m = rl.datas h.0 h.1 k h.3 (real_all r f h.2) h.4 in (m.0, m.1, m.2, m.3, m.5, ap (real_all r f) h.5 ∙ inst_sub r f h.2 h.3 ∙ sym m.6, ap (real r f) h.6 ∙ m.4)
op_sub w z r rl f Make ts t h = (real_all r f h.0, ap (real_all r f) h.1, ap (real r f) h.2)
op_sub w z r rl f ListOf ts t h = (real r f h.0, all_of_sub r f h.0 ts h.1, ap (real r f) h.2 ∙ rl.list (real r f h.0), rl.lists h.3)
op_sub w z r rl f (Oper o) ts t h = (real r f h.0, real r f h.1, ap (real_all r f) h.2, oper_sub w z r rl f o h.0 h.1 t h.3)

keeps_first : (ks : List Kind) (us : Tys) → Fits ks us → Keeps (admits ks) (λ i. nth i us)
keeps_first [] NilT h i q = absurd (cc q)
keeps_first (AnyTy ∷ ks) (ConsT u us) h zero q = absurd (cc q)
keeps_first (AnyTy ∷ ks) (ConsT u us) h (suc i) q = keeps_first ks us h i q
keeps_first (EqTy ∷ ks) (ConsT u us) h zero q = h.0
keeps_first (EqTy ∷ ks) (ConsT u us) h (suc i) q = keeps_first ks us h.1 i q
keeps_first [] (ConsT u us) h i q = absurd h
keeps_first (AnyTy ∷ ks) NilT h i q = absurd h
keeps_first (EqTy ∷ ks) NilT h i q = absurd h

keeps_own : (ds ks : List Kind) (f : ℕ → Ty) (us : Tys) → Keeps (admits ds) f → Fits ks us → Keeps (admits (ds ++ ks)) (vars_by (length ds) f us)
keeps_own [] ks f us k h i q = keeps_first ks us h i q
keeps_own (AnyTy ∷ ds) ks f us k h zero q = absurd (cc q)
keeps_own (EqTy ∷ ds) ks f us k h zero q = k zero refl
keeps_own (AnyTy ∷ ds) ks f us k h (suc i) q = keeps_own ds ks (λ j. f (suc j)) us (λ j. k (suc j)) h i q
keeps_own (EqTy ∷ ds) ks f us k h (suc i) q = keeps_own ds ks (λ j. f (suc j)) us (λ j. k (suc j)) h i q

cut_first : (ks : List Kind) (us : Tys) → Fits ks us → (i : ℕ) → vars_by (length ks) (λ j. nth j us) NilT i ≡ nth i us
cut_first [] NilT h i = refl
cut_first (AnyTy ∷ ks) (ConsT u us) h zero = refl
cut_first (AnyTy ∷ ks) (ConsT u us) h (suc i) = cut_first ks us h i
cut_first (EqTy ∷ ks) (ConsT u us) h zero = refl
cut_first (EqTy ∷ ks) (ConsT u us) h (suc i) = cut_first ks us h.1 i
cut_first [] (ConsT u us) h i = absurd h
cut_first (AnyTy ∷ ks) NilT h i = absurd h
cut_first (EqTy ∷ ks) NilT h i = absurd h

cut_own : (ds ks : List Kind) (f : ℕ → Ty) (us : Tys) → Fits ks us → (i : ℕ) → vars_by (length (ds ++ ks)) (vars_by (length ds) f us) NilT i ≡ vars_by (length ds) f us i
cut_own [] ks f us h i = cut_first ks us h i
cut_own (d ∷ ds) ks f us h zero = refl
cut_own (d ∷ ds) ks f us h (suc i) = cut_own ds ks (λ j. f (suc j)) us h i

pub chosen_own : (ds ks : List Kind) (f : ℕ → Ty) (us : Tys) → Chosen ds f → Fits ks us → Chosen (ds ++ ks) (vars_by (length ds) f us)
chosen_own ds ks f us c h = record { keeps = keeps_own ds ks f us c.keeps h; cut = cut_own ds ks f us h }

-- schemes of outer variables do not see the inner choice
own_own : (m n : ℕ) (f : ℕ → Ty) (us vs : Tys) (i : ℕ) → m ≤ n → vars_by m (vars_by n f us) vs i ≡ vars_by m f vs i
own_own zero n f us vs i le = refl
own_own (suc m) zero f us vs i le = absurd (omega arith)
own_own (suc m) (suc n) f us vs zero le = refl
own_own (suc m) (suc n) f us vs (suc i) le = own_own m n (λ j. f (suc j)) us vs i (omega arith)

outer_use : (r : Names) (n : ℕ) (f : ℕ → Ty) (us : Tys) (o : Option Poly) (t : Ty) → Upto n o → UseAt (seen_at r (vars_by n f us) o) t → UseAt (seen_at r f o) t
outer_use r n f us None t l h = h
outer_use r n f us (Some (Gen m ks a)) t l h = (h.0, h.1, h.2 ∙ ap (λ x. real r x a) (fun_ext (λ i. own_own m n f us h.0 i l)))

pub outer_puts : (r : Names) (w : World) (n : ℕ) (f : ℕ → Ty) (us : Tys) (g : Polys) → Levels n g → Puts w (at r (vars_by n f us) g) (at r f g) empty
outer_puts r w n f us g l = λ x t h. outer_use r n f us (g x) t (l x) h

pub weaken : (w : World) (g d : Ctx) (e : Exp) (t : Ty) → Puts w g d empty → Has w g e t → Has w d e t
weaken w g d e t p h = subst (λ x. Has w d x t) (close_empty e) (has_close w e g d empty t p h)

len_app : (ds ks : List Kind) → length (ds ++ ks) ≡ length ds + length ks
len_app [] ks = omega arith
len_app (d ∷ ds) ks = omega (arith, len_app ds ks)

upto_more : (m n : ℕ) (o : Option Poly) → m ≤ n → Upto m o → Upto n o
upto_more m n None le h = tt
upto_more m n (Some (Gen i ks a)) le h = omega (arith, h, le)

upto_gen : (n : ℕ) (ks : List Kind) (o : Option Ty) → Upto n (gen n ks o)
upto_gen n ks None = tt
upto_gen n ks (Some a) = omega arith

pub upto_if : (n : ℕ) (b : Bool) (o q : Option Poly) → Upto n o → Upto n q → Upto n (if b then o else q)
upto_if n true o q h k = h
upto_if n false o q h k = k

pub levels_app : (ds ks : List Kind) (g : Polys) → Levels (length ds) g → Levels (length (ds ++ ks)) g
levels_app ds ks g l = λ x. upto_more (length ds) (length (ds ++ ks)) (g x) (omega (arith, len_app ds ks)) (l x)

pub levels_inner : (n : ℕ) (ks : List Kind) (bound : Name → Bool) (c : Types) (g : Polys) → Levels n g → Levels n (inner bound (gens n ks c) g)
levels_inner n ks bound c g l = λ x. upto_if n (bound x) (gen n ks (c x)) (g x) (upto_gen n ks (c x)) (l x)

seen_if : (r : Names) (f : ℕ → Ty) (b : Bool) (o q : Option Poly) → seen_at r f (if b then o else q) ≡ (if b then seen_at r f o else seen_at r f q)
seen_if r f true o q = refl
seen_if r f false o q = refl

at_inner : (r : Names) (f : ℕ → Ty) (bound : Name → Bool) (h g : Polys) → at r f (inner bound h g) ≡ join bound (at r f h) (at r f g)
at_inner r f bound h g = fun_ext (λ x. seen_if r f (bound x) (h x) (g x))

-- a use of a variable that was bound here
abbrev pub GenUse : Names → ℕ → List Kind → (ℕ → Ty) → Option Ty → Ty → Type 0
GenUse r n ks f o v = (us : Tys) × Fits ks us × (sub_opt r (vars_by n f us) o ≡ Some v)

pub gen_use : (r : Names) (n : ℕ) (ks : List Kind) (f : ℕ → Ty) (o : Option Ty) (v : Ty) → UseAt (seen_at r f (gen n ks o)) v → GenUse r n ks f o v
gen_use r n ks f None v h = absurd h
gen_use r n ks f (Some a) v h = (h.0, h.1, ap Some (sym h.2))

pub fits_nil : (ks : List Kind) (us : Tys) → ks ≡ [] → Fits ks us → us ≡ NilT
fits_nil ks us q h = at_nil us (subst (λ x. Fits x us) q h)
  where
    at_nil : (us : Tys) → Fits [] us → us ≡ NilT
    at_nil NilT h = refl
    at_nil (ConsT u us) h = absurd h

-- some types that fit
abbrev pub ints : List Kind → Tys
ints [] = NilT
ints (k ∷ ks) = ConsT TInt (ints ks)

pub ints_fit : (ks : List Kind) → Fits ks (ints ks)
ints_fit [] = tt
ints_fit (AnyTy ∷ ks) = ints_fit ks
ints_fit (EqTy ∷ ks) = (refl, ints_fit ks)

-- inside a group, and inside a rule's own scope, variables have one type
pub mono_case : (r : Names) (ds ks : List Kind) (f : ℕ → Ty) (us : Tys) (b : Bool) (o : Option Ty) (q : Option Poly) (t : Ty) → Chosen (ds ++ ks) (vars_by (length ds) f us) → Upto (length ds) q → UseAt (seen_at r (vars_by (length ds) f us) (if b then gen (length (ds ++ ks)) [] o else q)) t → UseAt (if b then mono (sub_opt r (vars_by (length ds) f us) o) else seen_at r f q) t
mono_case r ds ks f us true None q t c l h = absurd h
mono_case r ds ks f us true (Some a) q t c l h =
    h.2 ∙ ap (λ vs. real r (vars_by (length (ds ++ ks)) (vars_by (length ds) f us) vs) a) (fits_nil [] h.0 refl h.1) ∙ ap (λ x. real r x a) (fun_ext c.cut)
mono_case r ds ks f us false o q t c l h = outer_use r (length ds) f us q t l h

pub exn_case : (r : Names) (ds : List Kind) (f : ℕ → Ty) (b : Bool) (args : Tys) (q : Option Poly) (t : Ty) → Chosen ds f → UseAt (seen_at r f (if b then Some (Gen (length ds) [] (TNam args)) else q)) t → UseAt (if b then Some (Mono (TNam (real_all r f args))) else seen_at r f q) t
exn_case r ds f true args q t c h =
    h.2 ∙ ap (λ vs. real r (vars_by (length ds) f vs) (TNam args)) (fits_nil [] h.0 refl h.1) ∙ ap (λ x. real r x (TNam args)) (fun_ext c.cut)
exn_case r ds f false args q t c h = h

nil_own : (r : Names) (ds : List Kind) (f : ℕ → Ty) (us : Tys) (a : Ty) → Chosen ds f → Fits [] us → real r (vars_by (length ds) f us) a ≡ real r f a
nil_own r ds f us a c h = ap (λ vs. real r (vars_by (length ds) f vs) a) (fits_nil [] us refl h) ∙ ap (λ x. real r x a) (fun_ext c.cut)

abbrev pub Each : Names → List Kind → List Kind → (ℕ → Ty) → (Ty → Type 0) → Ty → Type 0
Each r ds ks f A u = (us : Tys) → Fits ks us → A (real r (vars_by (length ds) f us) u)

pub rule_binds : (w z : World) (r : Names) (rl : Realises w z r) (ds : List Kind) (g : Polys) (ks : List Kind) (u : Ty) (f : ℕ → Ty) (A : Ty → Type 0) (p : Pat) (d : Types) → Levels (length ds) g → Plain p → HasPat w (at plain TVar g) p u d → Each r ds ks f A u → Binds z (at r f g) A p (at r f (gens (length ds) ks d))
rule_binds w z r rl ds g ks u f A p d l pl hp each =
    let at_types : (us : Tys) → HasPat z (at r f g) p (real r (vars_by (length ds) f us) u) (sub_types r (vars_by (length ds) f us) d) = λ us.
    let f1 = vars_by (length ds) f us in
    subst (λ q. HasPat z (at r f g) q (real r f1 u) (sub_types r f1 d)) (pat_empty p) (pat_close z (at r f1 g) (at r f g) empty p (real r f1 u) (sub_types r f1 d) (outer_puts r z (length ds) f us g l) (pat_sub w z r rl f1 g p u d pl hp)) in
    let us0 = ints ks in (
      (real r (vars_by (length ds) f us0) u, sub_types r (vars_by (length ds) f us0) d, each us0 (ints_fit ks), at_types us0),
      λ x v i o.
          let m = gen_use r (length ds) ks f (d x) v o in
          (real r (vars_by (length ds) f m.0) u, sub_types r (vars_by (length ds) f m.0) d, each m.0 m.1, at_types m.0, m.2),
    )

-- Z only puts all functions of the block into one universe
mutual
  written_at : (Z : Type 0) (e : Exp) (w z : World) (r : Names) (rl : Realises w z r) (ds : List Kind) (g : Polys) (t : Ty) (f : ℕ → Ty) → Chosen ds f → Levels (length ds) g → Written w ds g e t → Has z (at r f g) e (real r f t)
  written_at Z (Is v) w z r rl ds g t f c l h = absurd h
  written_at Z (Fail v) w z r rl ds g t f c l h = absurd h
  written_at Z (Lit n) w z r rl ds g t f c l h = ap (real r f) h ∙ real_const r f n
  written_at Z (Var x) w z r rl ds g t f c l h = use_at r rl.equals ds f c.keeps (g x) t h
  written_at Z (Fn k rs) w z r rl ds g t f c l h = (real r f h.0, real r f h.1, ap (real r f) h.2, rl.falls k rs h.3, rules_written Z rs w z r rl ds g [] h.0 h.1 f (λ u. u ≡ real r f h.0) c l h.4 (λ us i. nil_own r ds f us h.0 c i))
  written_at Z (Group fs b) w z r rl ds g t f c l (ks, d, hf, hb) = (
    at r f (gens (length ds) ks d),
    (λ x v i o.
        let m = gen_use r (length ds) ks f (d x) v o in
        let f1 = vars_by (length ds) f m.0 in
        let c1 = chosen_own ds ks f m.0 c m.1 in
        let g1 = inner (names fs) (gens (length (ds ++ ks)) [] d) g in (
          sub_types r f1 d,
          m.2,
          subst (λ q. HasFuns z (join (names fs) (monos (sub_types r f1 d)) (at r f g)) q (sub_types r f1 d)) (funs_empty fs)
              (funs_closed z fs (at r f1 g1) (join (names fs) (monos (sub_types r f1 d)) (at r f g)) empty (sub_types r f1 d) (λ y u k. mono_case r ds ks f m.0 (names fs y) (d y) (g y) u c1 (l y) k)
              (funs_written Z fs w z r rl (ds ++ ks) g1 d f1 c1 (levels_inner (length (ds ++ ks)) [] (names fs) d g (levels_app ds ks g l)) hf)),
        )),
    subst (λ k. Has z k b (real r f t)) (at_inner r f (names fs) (gens (length ds) ks d) g) (written_at Z b w z r rl ds (inner (names fs) (gens (length ds) ks d) g) t f c (levels_inner (length ds) ks (names fs) d g l) hb),
  )
  written_at Z (Node op es) w z r rl ds g t f c l h = (real_all r f h.0, all_written Z es w z r rl ds g h.0 f c l h.1, op_sub w z r rl f op h.0 t h.2)
  written_at Z (Case fl a rs) w z r rl ds g t f c l (hf, ks, u, ha, inl q, hr) =
      let n = length ds in
      let us0 = ints ks in
      let u0 = real r (vars_by n f us0) u in
      inl (
        rl.falls fl rs hf,
        u0,
        weaken z (at r (vars_by n f us0) g) (at r f g) a u0 (outer_puts r z n f us0 g l) (written_at Z a w z r rl (ds ++ ks) g u (vars_by n f us0) (chosen_own ds ks f us0 c (ints_fit ks)) (levels_app ds ks g l) ha),
        inl (rules_written Z rs w z r rl ds g ks u t f (λ a1. a1 ≡ u0) c l hr (λ us i. ap (λ vs. real r (vars_by n f vs) u) (fits_nil ks us q i ∙ sym (fits_nil ks us0 q (ints_fit ks))))),
      )
  written_at Z (Case fl a rs) w z r rl ds g t f c l (hf, ks, u, ha, inr st, hr) =
      let n = length ds in
      let us0 = ints ks in
      let each : Each r ds ks f (λ a1. Has z (at r f g) a a1) u = λ us i. weaken z (at r (vars_by n f us) g) (at r f g) a (real r (vars_by n f us) u) (outer_puts r z n f us g l) (written_at Z a w z r rl (ds ++ ks) g u (vars_by n f us) (chosen_own ds ks f us c i) (levels_app ds ks g l) ha) in
      inl (rl.falls fl rs hf, real r (vars_by n f us0) u, each us0 (ints_fit ks), inr (st, rules_written Z rs w z r rl ds g ks u t f (λ a1. Has z (at r f g) a a1) c l hr each))
  written_at Z (NewExn x b) w z r rl ds g t f c l h = (
    real_all r f h.0,
    weaken z (at r f (inner (same x) (λ y. Some (Gen (length ds) [] (TNam h.0))) g)) (join (same x) (λ y. Some (Mono (TNam (real_all r f h.0)))) (at r f g)) b (real r f t) (λ y v u. exn_case r ds f (same x y) h.0 (g y) v c u)
        (written_at Z b w z r rl ds (inner (same x) (λ y. Some (Gen (length ds) [] (TNam h.0))) g) t f c (λ y. upto_if (length ds) (same x y) (Some (Gen (length ds) [] (TNam h.0))) (g y) (omega arith) (l y)) h.1),
  )
  written_at Z (LetMod e p is b) w z r rl ds g t f c l h = absurd h
  written_at Z (InMod p v b) w z r rl ds g t f c l h = absurd h
  written_at Z (StructOf e is) w z r rl ds g t f c l h = absurd h
  written_at Z (InStruct v) w z r rl ds g t f c l h = absurd h
  written_at Z (Try a rs) w z r rl ds g t f c l h = (written_at Z a w z r rl ds g t f c l h.0, rules_written Z rs w z r rl ds g [] TExn t f (λ u. u ≡ TExn) c l h.1 (λ us i. refl))

  all_written : (Z : Type 0) (es : Exps) (w z : World) (r : Names) (rl : Realises w z r) (ds : List Kind) (g : Polys) (ts : Tys) (f : ℕ → Ty) → Chosen ds f → Levels (length ds) g → WrittenAll w ds g es ts → HasAll z (at r f g) es (real_all r f ts)
  all_written Z Nil w z r rl ds g NilT f c l h = tt
  all_written Z (Cons e es) w z r rl ds g (ConsT t ts) f c l h = (written_at Z e w z r rl ds g t f c l h.0, all_written Z es w z r rl ds g ts f c l h.1)
  all_written Z Nil w z r rl ds g (ConsT t ts) f c l h = absurd h
  all_written Z (Cons e es) w z r rl ds g NilT f c l h = absurd h

  rules_written : (Z : Type 0) (rs : Rules) (w z : World) (r : Names) (rl : Realises w z r) (ds : List Kind) (g : Polys) (ks : List Kind) (u t : Ty) (f : ℕ → Ty) (A : Ty → Type 0) → Chosen ds f → Levels (length ds) g → WrittenRules w ds g ks u rs t → Each r ds ks f A u → HasRules z (at r f g) A rs (real r f t)
  rules_written Z Stop w z r rl ds g ks u t f A c l h each = tt
  rules_written Z (Rule p b rs) w z r rl ds g ks u t f A c l (d, pl, hp, hb, hr) each = (
    at r f (gens (length ds) ks d),
    rule_binds w z r rl ds g ks u f A p d l pl hp each,
    subst (λ k. Has z k b (real r f t)) (at_inner r f (binds p) (gens (length ds) ks d) g) (written_at Z b w z r rl ds (inner (binds p) (gens (length ds) ks d) g) t f c (levels_inner (length ds) ks (binds p) d g l) hb),
    rules_written Z rs w z r rl ds g ks u t f A c l hr each,
  )

  pub funs_written : (Z : Type 0) (fs : Funs) (w z : World) (r : Names) (rl : Realises w z r) (ds : List Kind) (g : Polys) (d : Types) (f : ℕ → Ty) → Chosen ds f → Levels (length ds) g → WrittenFuns w ds g fs d → HasFuns z (at r f g) fs (sub_types r f d)
  funs_written Z NoFuns w z r rl ds g d f c l h = tt
  funs_written Z (Fun x k rs fs) w z r rl ds g d f c l h =
      (real r f h.0, real r f h.1, ap (sub_opt r f) h.2, rl.falls k rs h.3, rules_written Z rs w z r rl ds g [] h.0 h.1 f (λ u. u ≡ real r f h.0) c l h.4 (λ us i. nil_own r ds f us h.0 c i), funs_written Z fs w z r rl ds g d f c l h.5)

pub instances : (e : Exp) (w z : World) (r : Names) (rl : Realises w z r) (ds : List Kind) (g : Polys) (t : Ty) (f : ℕ → Ty) → Chosen ds f → Levels (length ds) g → Written w ds g e t → Has z (at r f g) e (real r f t)
instances e w z r rl ds g t f c l h = written_at (Unit {0}) e w z r rl ds g t f c l h

-- names that are themselves
pub plain_realises : (w : World) → Realises w w plain
plain_realises w = record { datas = λ d b c args us h. (d, b, us, args, refl, h, refl); equals = λ d us h. h; falls = λ f rs h. h; bool = refl; list = λ a. refl; bools = λ h. h; lists = λ h. h }

-- a tree without free variables and type variables
pub closed_has : (e : Exp) (w : World) (t : Ty) → Written w [] no_polys e t → Has w no_ctx e (sub (λ i. TInt) t)
closed_has e w t h = instances e w w plain (plain_realises w) [] no_polys t (λ i. TInt) (record { keeps = λ i q. absurd (cc q); cut = λ i. refl }) (λ x. tt) h

pub choices : (e : Exp) (w k : World) (r : Names) → Realises w k r → (ds : List Kind) (g : Polys) (t : Ty) (f : ℕ → Ty) → Chosen ds f → Levels (length ds) g → Written w ds g e t → Has k (at r f g) e (real r f t)
choices e w k r rl ds g t f c l h = instances e w k r rl ds g t f c l h
