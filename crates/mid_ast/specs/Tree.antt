-- Typed middle trees as plain data, without places: what the middle typing speaks of.
use Rattle.std.specs.Prelude.{ℕ, List, Option}
use Rattle.tl_text.specs.declared.lit.Lit.{Lit}
use Rattle.sml_static.specs.declared.mid.MidData.{MidData}
use Rattle.sml_static.specs.declared.ty.Ty.{Ty}
use Rattle.sml_static.specs.declared.ty.TyFun.{TyFun}
use Rattle.sml_static.specs.declared.ty.VarKind.{VarKind}

-- an identifier, and a path
abbrev pub Part : Type 0
Part = List ℕ

abbrev pub Name : Type 0
Name = List Part

mutual
  -- what tests two values of one type for equality
  pub data Dict : Type 0 where
    Base : ℕ → Dict
    At : Name → Dicts → Dict
    Given : ℕ → Dict
    Cells : Dict
    Parts : Dicts → Dict

  pub data Dicts : Type 0 where
    NoDicts : Dicts
    MoreDicts : Dict → Dicts → Dicts

mutual
  pub data Pat : Type 0 where
    Any : Ty → Pat
    PLit : Lit → Pat
    -- a variable: its binder's number, the identifier that it binds, some having none, and its type
    PVar : ℕ → Part → Ty → Pat
    -- a constructor or an exception, its type, and how many constructors its datatype has: 0 for an exception
    PCon : Name → Ty → ℕ → Pat
    PConOf : Name → Ty → ℕ → Pat → Pat
    PTuple : Pats → Pat
    PLayer : ℕ → Part → Pat → Pat
    PCell : Pat → Pat
    -- a flexible record, which stands in no unit
    PFlex : Pat

  pub data Pats : Type 0 where
    NoPats : Pats
    MorePats : Pat → Pats → Pats

mutual
  pub data Exp : Type 0 where
    Const : Lit → Exp
    Local : ℕ → Ty → Dicts → Exp
    Home : Name → Ty → Dicts → Exp
    Con : Name → Ty → Exp
    Prim : ℕ → Ty → Dicts → Exp
    Tuple : Exps → Exp
    Apply : Exp → Exp → Exp
    -- the rules, and the types of argument and result
    Fun : Rules → Ty → Ty → Exp
    Raise : Exp → Ty → Exp
    Handle : Exp → Rules → Exp
    Let : Decs → Exp → Exp

  pub data Exps : Type 0 where
    NoExps : Exps
    MoreExps : Exp → Exps → Exps

  pub data Rules : Type 0 where
    NoRules : Rules
    MoreRules : Pat → Exp → Rules → Rules

  pub data Dec : Type 0 where
    Vals : Binds → Dec
    Funs : Binds → Dec
    Datas : List MidData → Dec
    Alias : Name → TyFun → Dec
    NewExn : Name → Option Ty → Dec
    -- the new path, and the one that it stands for
    SameExn : Name → Name → Dec

  pub data Decs : Type 0 where
    NoDecs : Decs
    MoreDecs : Dec → Decs → Decs

  -- a pattern, the type variables that are generalised, and the right side
  pub data Binds : Type 0 where
    NoBinds : Binds
    MoreBinds : Pat → List VarKind → Exp → Binds → Binds

mutual
  pub data Item : Type 0 where
    Core : Dec → Item
    Module : Part → Mod → Item
    -- a functor, which has no rule yet
    NoItem : Item

  pub data Items : Type 0 where
    NoItems : Items
    MoreItems : Item → Items → Items

  pub data Mod : Type 0 where
    Body : Items → Mod
    AtPath : Name → Mod
    -- a sealed or thinned structure, or an application, which have no rule yet
    NoMod : Mod
