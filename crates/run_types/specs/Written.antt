-- Typing with type variables, before any type stands for them.
use Rattle.std.specs.Prelude.{◌≡◌, ℕ, zero, suc, ◌≤◌, ◌⊎◌, List, [], ◌∷◌, ◌++◌, length, Option, Some, None, Bool, true, false, if◌then◌else◌}
use Rattle.run_types.specs.Types.{All, AnyTy, Bools, ConsT, Ctx, EqTy, FitsIn, HasFall, HasPat, Kind, Lists, Names, NilT, OpTy, Scheme, ScopeTy, TArr, TData, TExn, TInt, TNam, TVar, Ty, Types, Tys, World, bool_ty, const_ty, equal, equal_all, inst_all, list_ty, nth, plain, real_all, sub, vars_by}
use Rattle.runs.specs.Env.{binds, names}
use Rattle.runs.specs.Names.{Name, Part, same, same_part}
use Rattle.runs.specs.Ordered.{Still}
use Rattle.runs.specs.Primitives.{body, unit}
use Rattle.runs.specs.Tree.{Alias, Applied, Case, Cons, End, Exception, Exp, Exps, Fail, Fall, Fn, Fun, Functions, FunctorOf, Funs, Group, InMod, InStruct, Is, Items, LetMod, Lit, Named, NewExn, Nil, NoFuns, Node, PAny, PCell, PCon, PExn, PLayer, PLit, PMore, PNil, PTup, PVar, Pat, Pats, Rule, Rules, Stop, Struct, StructOf, Try, Value, Var}

-- a scheme with variables of its own from n on, of these kinds
pub data Poly : Type 0 where
  Gen : ℕ → List Kind → Ty → Poly

abbrev pub Polys : Type 0
Polys = Name → Option Poly

abbrev pub no_polys : Polys
no_polys = λ y. None

abbrev pub seen_at : Names → (ℕ → Ty) → Option Poly → Option Scheme
seen_at r f None = None
seen_at r f (Some (Gen n ks a)) = Some (All n r f ks a)

-- the schemes where these types stand for the type names and variables
abbrev pub at : Names → (ℕ → Ty) → Polys → Ctx
at r f g = λ x. seen_at r f (g x)

-- the type variables that admit equality
abbrev pub admits : List Kind → ℕ → Bool
admits [] i = false
admits (AnyTy ∷ ds) zero = false
admits (EqTy ∷ ds) zero = true
admits (d ∷ ds) (suc i) = admits ds i

abbrev pub Use : List Kind → Option Poly → Ty → Type 0
Use ds None t = ⊥
Use ds (Some (Gen n ks a)) t = (us : Tys) × FitsIn (admits ds) ks us × (t ≡ sub (vars_by n TVar us) a)

abbrev pub gen : ℕ → List Kind → Option Ty → Option Poly
gen n ks None = None
gen n ks (Some a) = Some (Gen n ks a)

abbrev pub gens : ℕ → List Kind → Types → Polys
gens n ks c = λ y. gen n ks (c y)

abbrev pub inner : (Name → Bool) → Polys → Polys → Polys
inner bound h g = λ y. if bound y then h y else g y

abbrev mutual
  -- exceptions stand in it by their names
  pub Plain : Pat → Type 0
  Plain PAny = Unit {0}
  Plain (PVar x) = Unit {0}
  Plain (PLit n) = Unit {0}
  Plain (PTup ps) = AllPlain ps
  Plain (PCon k ps) = AllPlain ps
  Plain (PExn (Named x) ps) = AllPlain ps
  Plain (PExn _ ps) = ⊥
  Plain (PCell p) = Plain p
  Plain (PLayer x p) = Plain p

  pub AllPlain : Pats → Type 0
  AllPlain PNil = Unit {0}
  AllPlain (PMore p ps) = Plain p × AllPlain ps

abbrev mutual
  -- ds: the kinds of the type variables
  pub Written : World → List Kind → Polys → Exp → Ty → Type 0
  Written w ds g (Is v) t = ⊥
  Written w ds g (Fail v) t = ⊥
  Written w ds g (Lit n) t = t ≡ const_ty n
  Written w ds g (Var x) t = Use ds (g x) t
  Written w ds g (Fn f rs) t = (a : Ty) × (r : Ty) × (t ≡ TArr a r) × HasFall w f rs × WrittenRules w ds g [] a rs r
  Written w ds g (Group fs b) t =
      (ks : List Kind)
      × (c : Types)
      × WrittenFuns w (ds ++ ks) (inner (names fs) (gens (length (ds ++ ks)) [] c) g) fs c
      × Written w ds (inner (names fs) (gens (length ds) ks c) g) b t
  Written w ds g (Node op es) t = (ts : Tys) × WrittenAll w ds g es ts × OpTy w op ts t
  -- variables of type are bound here only where the value is still
  Written w ds g (Case f a rs) t = HasFall w f rs × (ks : List Kind) × (u : Ty) × Written w (ds ++ ks) g a u × ((ks ≡ []) ⊎ Still a) × WrittenRules w ds g ks u rs t
  Written w ds g (NewExn x b) t = (args : Tys) × Written w ds (inner (same x) (λ y. Some (Gen (length ds) [] (TNam args))) g) b t
  Written w ds g (Try a rs) t = Written w ds g a t × WrittenRules w ds g [] TExn rs t
  -- not written yet
  Written w ds g (LetMod e p is b) t = ⊥
  Written w ds g (InMod p v b) t = ⊥
  Written w ds g (StructOf e is) t = ⊥
  Written w ds g (InStruct v) t = ⊥

  pub WrittenAll : World → List Kind → Polys → Exps → Tys → Type 0
  WrittenAll w ds g Nil NilT = Unit {0}
  WrittenAll w ds g (Cons e es) (ConsT t ts) = Written w ds g e t × WrittenAll w ds g es ts
  WrittenAll w ds g _ _ = ⊥

  -- ks: the kinds of the type variables that the patterns' variables bind
  pub WrittenRules : World → List Kind → Polys → List Kind → Ty → Rules → Ty → Type 0
  WrittenRules w ds g ks u Stop t = Unit {0}
  WrittenRules w ds g ks u (Rule p b rs) t = (c : Types) × Plain p × HasPat w (at plain TVar g) p u c × Written w ds (inner (binds p) (gens (length ds) ks c) g) b t × WrittenRules w ds g ks u rs t

  pub WrittenFuns : World → List Kind → Polys → Funs → Types → Type 0
  WrittenFuns w ds g NoFuns c = Unit {0}
  WrittenFuns w ds g (Fun k f rs fs) c = (a : Ty) × (r : Ty) × (c k ≡ Some (TArr a r)) × HasFall w f rs × WrittenRules w ds g [] a rs r × WrittenFuns w ds g fs c

-- what admits equality stands for what must
abbrev pub Keeps : (ℕ → Bool) → (ℕ → Ty) → Type 0
Keeps e f = (i : ℕ) → e i ≡ true → equal (f i) ≡ true

-- f is a choice of types for variables of these kinds, and makes nothing of other variables
pub record Chosen (ds : List Kind) (f : ℕ → Ty) : Type 0 where
  pub keeps : Keeps (admits ds) f
  pub cut : (i : ℕ) → vars_by (length ds) f NilT i ≡ f i

abbrev pub Upto : ℕ → Option Poly → Type 0
Upto n None = Unit {0}
Upto n (Some (Gen m ks a)) = m ≤ n

-- schemes have their own variables from n on, or before
abbrev pub Levels : ℕ → Polys → Type 0
Levels n g = (x : Name) → Upto n (g x)

-- r makes of each type name of w one of k with the same constructors, or any type where w has no constructors; what admits equality goes to what does
pub record Realises (w k : World) (r : Names) : Type 0 where
  pub datas : (d : ℕ) (b : Bool) (c : Part) (args us : Tys) → w.datas d b c ≡ Some args → (d1 : ℕ) × (b1 : Bool) × (us1 : Tys) × (args1 : Tys) × (r d b us ≡ TData d1 b1 us1) × (k.datas d1 b1 c ≡ Some args1) × (inst_all us1 args1 ≡ real_all r (λ i. nth i us) args)
  pub equals : (d : ℕ) (us : Tys) → equal_all us ≡ true → equal (r d true us) ≡ true
  pub falls : (f : Fall) (rs : Rules) → HasFall w f rs → HasFall k f rs
  -- bool and list are themselves
  pub bool : r 0 true NilT ≡ bool_ty
  pub list : (a : Ty) → r 1 true (ConsT a NilT) ≡ list_ty a
  pub bools : Bools w → Bools k
  pub lists : Lists w → Lists k

-- the schemes of what can be read at a place, and of what the structure there has so far
pub record ScopePoly : Type 0 where
  pub env : Polys
  pub own : Polys

abbrev pub reached_poly : Part → Polys → Name → Option Poly → Option Poly
reached_poly p b [] o = o
reached_poly p b (q ∷ []) o = o
reached_poly p b (q ∷ r ∷ x) o = if same_part p q then b (r ∷ x) else o

abbrev pub under_poly : Part → Polys → Polys → Polys
under_poly p b g = λ y. reached_poly p b y (g y)

abbrev pub joined_poly : (Name → Bool) → Polys → ScopePoly → ScopePoly
joined_poly bound h c = record { env = inner bound h c.env; own = inner bound h c.own }

abbrev pub struct_poly : Part → Polys → ScopePoly → ScopePoly
struct_poly p b c = record { env = under_poly p b c.env; own = under_poly p b c.own }

abbrev pub inside_poly : ScopePoly → ScopePoly
inside_poly c = record { env = c.env; own = no_polys }

abbrev pub exn_poly : Tys → Polys
exn_poly ts = λ y. Some (Gen 0 [] (TNam ts))

-- h has what g has, or less
abbrev pub Fewer : Polys → Polys → Type 0
Fewer h g = (x : Name) → (h x ≡ None) ⊎ (h x ≡ g x)

-- a row of items, typed with type variables; after it the scope has the schemes d
abbrev pub WrittenItems : World → ScopePoly → Items → ScopePoly → Type 0
WrittenItems w c End d = Fewer d.env c.env × Fewer d.own c.own
WrittenItems w c (Value f p a is) d =
    HasFall w f (Rule p (Is unit) Stop)
    × (ks : List Kind)
    × (u : Ty)
    × Written w ks c.env a u
    × ((ks ≡ []) ⊎ Still a)
    × (m : Types)
    × Plain p
    × HasPat w (at plain TVar c.env) p u m
    × WrittenItems w (joined_poly (binds p) (gens 0 ks m) c) is d
WrittenItems w c (Functions fs is) d =
    (ks : List Kind)
    × (m : Types)
    × WrittenFuns w ks (inner (names fs) (gens (length ks) [] m) c.env) fs m
    × WrittenItems w (joined_poly (names fs) (gens 0 ks m) c) is d
WrittenItems w c (Exception x is) d = (args : Tys) × WrittenItems w (joined_poly (same x) (exn_poly args) c) is d
WrittenItems w c (Alias p x is) d = WrittenItems w (struct_poly p (λ y. c.env (x ++ y)) c) is d
WrittenItems w c (FunctorOf f x body is) d = ⊥
WrittenItems w c (Applied p f a is) d = ⊥
WrittenItems w c (Struct p body is) d = (b : ScopePoly) × WrittenItems w (inside_poly c) body b × WrittenItems w (struct_poly p b.own c) is d

-- the schemes with types for the type names and variables
abbrev pub scope_at : ScopePoly → ScopeTy
scope_at c = record { env = at plain (λ i. TInt) c.env; own = at plain (λ i. TInt) c.own }

-- all schemes are closed
abbrev pub ScopeLevels : ScopePoly → Type 0
ScopeLevels c = Levels 0 c.env × Levels 0 c.own
