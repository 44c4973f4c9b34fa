-- The bindings that the profile refuses, by codes 28 to 30, and which binding is none of them.
use Rattle.std.specs.Prelude.{◌≡◌, ◌⊎◌, ◌&&◌, ◌||◌, ◌++◌, ◌≤◌, ℕ, Bool, true, false, not, IsTrue, List, [], ◌∷◌, length, Option, Some, None}
use Rattle.std.specs.List.{list_any}
use Rattle.sml_static.specs.declared.mid.MidPat.TheOpen.{MidPat-F}
use Rattle.sml_static.specs.declared.ty.Ty.{Ty}
use Rattle.sml_static.specs.declared.ty.VarKind.{VarKind}
use Rattle.sml_static.specs.Shapes.{Pattern, Wild, pattern_step}
use Rattle.sml_static.specs.Exhaustive.{IsExhaustive, Splits}
use Rattle.sml_static.specs.Types.{applied}
use Rattle.mid_ast.specs.Tree.{Dicts, NoDicts, MoreDicts, Pat, Any, PLit, PVar, PCon, PConOf, PTuple, PLayer, PCell, PFlex, Pats, NoPats, MorePats, Exp, Const, Local, Home, Con, Prim, Tuple, Apply, Fun, Raise, Handle, Let, Exps, NoExps, MoreExps, Rules, NoRules, MoreRules, Dec, Vals, Funs, Datas, Alias, NewExn, SameExn, Decs, NoDecs, MoreDecs, Binds, NoBinds, MoreBinds}
use Rattle.mid_typing.specs.Types.{is_arrow, is_equality_general, is_general, variables}
use Rattle.mid_typing.specs.Env.{Env, Entry, General, Within, Vid, Variable, Constructor, Exception, local_at, vid_at}
use Rattle.mid_typing.specs.Patterns.{Binder}

-- ---- a pattern that does not take all values

abbrev mutual
  -- the pattern without names and types, by the same step as that of a declared one
  pub shape_of : Pat → Pattern
  shape_of (Any t) = pattern_step (MidPat-F.Any t)
  shape_of (PLit l) = pattern_step (MidPat-F.Lit l)
  shape_of (PVar x n t) = pattern_step (MidPat-F.Var x n t)
  shape_of (PCon q t n) = pattern_step (MidPat-F.Con q t n None)
  shape_of (PConOf q t n p) = pattern_step (MidPat-F.Con q t n (Some (shape_of p)))
  shape_of (PTuple ps) = pattern_step (MidPat-F.Tuple (shapes_of ps))
  shape_of (PLayer x n p) = pattern_step (MidPat-F.Layer x n (shape_of p))
  shape_of (PCell p) = pattern_step (MidPat-F.Cell (shape_of p))
  shape_of PFlex = Wild

  pub shapes_of : Pats → List Pattern
  shapes_of NoPats = []
  shapes_of (MorePats p ps) = shape_of p ∷ shapes_of ps

-- a match past this count of splits counts as one that is not exhaustive
abbrev pub most_splits : ℕ
most_splits = 100000

abbrev pub TakesAll : Pat → Type 0
TakesAll p = IsExhaustive (shape_of p ∷ []) × ((n : ℕ) × Splits ((shape_of p ∷ []) ∷ []) n × (n ≤ most_splits))

-- 28: a pattern that does not take all values binds no variable whose scheme binds a type variable; the variables from n
-- on are those that are generalised
abbrev pub RefutableIsPlain : ℕ → Pat → List Binder → Type 0
RefutableIsPlain n p bs = IsTrue (list_any (λ b. is_general n b.type) bs) → TakesAll p

-- ---- equality variables

abbrev pub is_variable : Pat → Bool
is_variable (PVar x n t) = true
is_variable _ = false

-- 29: a pattern that is not one variable binds no variable whose scheme binds an equality variable
abbrev pub PatternIsPlain : List VarKind → ℕ → Pat → List Binder → Type 0
PatternIsPlain ks n p bs = IsTrue (is_variable p || not (list_any (λ b. is_equality_general ks n b.type) bs))

-- whether a use is at a function type, if its variable's scheme binds an equality variable
abbrev pub is_use_plain : Ty → Dicts → Bool
is_use_plain t NoDicts = true
is_use_plain t (MoreDicts d ds) = is_arrow t

-- whether each use outside every `fn` is so
abbrev mutual
  pub uses_plain : Exp → Bool
  uses_plain (Const l) = true
  uses_plain (Local x t ds) = is_use_plain t ds
  uses_plain (Home q t ds) = is_use_plain t ds
  uses_plain (Con q t) = true
  uses_plain (Prim n t ds) = true
  uses_plain (Tuple es) = all_plain es
  uses_plain (Apply f a) = uses_plain f && uses_plain a
  uses_plain (Fun rs a b) = true
  uses_plain (Raise a t) = uses_plain a
  uses_plain (Handle a rs) = uses_plain a && rules_plain rs
  uses_plain (Let ds a) = decs_plain ds && uses_plain a

  pub all_plain : Exps → Bool
  all_plain NoExps = true
  all_plain (MoreExps e es) = uses_plain e && all_plain es

  pub rules_plain : Rules → Bool
  rules_plain NoRules = true
  rules_plain (MoreRules p e rs) = uses_plain e && rules_plain rs

  pub dec_plain : Dec → Bool
  dec_plain (Vals bs) = binds_plain bs
  dec_plain (Funs bs) = binds_plain bs
  dec_plain (Datas ds) = true
  dec_plain (Alias q f) = true
  dec_plain (NewExn q t) = true
  dec_plain (SameExn q r) = true

  pub decs_plain : Decs → Bool
  decs_plain NoDecs = true
  decs_plain (MoreDecs d ds) = dec_plain d && decs_plain ds

  pub binds_plain : Binds → Bool
  binds_plain NoBinds = true
  binds_plain (MoreBinds p vars e bs) = uses_plain e && binds_plain bs

-- the variable has these type variables, and the type is its whole one, where the variables from n on stand for its own
abbrev pub IsWholeEntry : Option Entry → ℕ → List VarKind → Ty → Type 0
IsWholeEntry None n vars t = ⊥
IsWholeEntry (Some (General m vs body)) n vars t = (vars ≡ vs) × (t ≡ applied (variables 0 m ++ variables n (length vars)) body)
IsWholeEntry (Some (Within u us)) n vars t = ⊥

abbrev pub IsWholeVid : Option Vid → ℕ → List VarKind → Ty → Type 0
IsWholeVid None n vars t = ⊥
IsWholeVid (Some (Variable s)) n vars t = (vars ≡ s.vars) × (t ≡ applied (variables n (length vars)) s.body)
IsWholeVid (Some (Constructor m s)) n vars t = ⊥
IsWholeVid (Some (Exception s)) n vars t = ⊥

-- the right side is one variable at its whole scheme
abbrev pub IsWhole : Env → ℕ → List VarKind → Exp → Type 0
IsWhole g n vars (Local x t ds) = IsWholeEntry (local_at x g) n vars t
IsWhole g n vars (Home q t ds) = IsWholeVid (vid_at q g) n vars t
IsWhole g n vars (Const l) = ⊥
IsWhole g n vars (Con q t) = ⊥
IsWhole g n vars (Prim i t ds) = ⊥
IsWhole g n vars (Tuple es) = ⊥
IsWhole g n vars (Apply f a) = ⊥
IsWhole g n vars (Fun rs a b) = ⊥
IsWhole g n vars (Raise a t) = ⊥
IsWhole g n vars (Handle a rs) = ⊥
IsWhole g n vars (Let ds a) = ⊥

-- 30: in a right side that is generalised, a variable whose scheme binds an equality variable is used outside every `fn`
-- at function types alone. A variable bound to another one at its whole scheme does not count.
abbrev pub UsesAreFunctions : Env → ℕ → Pat → List VarKind → Exp → Type 0
UsesAreFunctions g n p vars e = (vars ≡ []) ⊎ ((IsTrue (is_variable p) × IsWhole g n vars e) ⊎ IsTrue (uses_plain e))

-- none of these refuses the binding
pub record IsAllowed (g : Env) (ks : List VarKind) (p : Pat) (vars : List VarKind) (e : Exp) (bs : List Binder) : Type 0 where
  pub refutable : RefutableIsPlain (length ks) p bs
  pub equality : PatternIsPlain (ks ++ vars) (length ks) p bs
  pub uses : UsesAreFunctions g (length ks) p vars e
