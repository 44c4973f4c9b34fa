-- Middle trees as plain data, without types and places: what the middle meaning speaks of.
use Rattle.std.specs.Prelude.{ℕ, Option, Bool}
use Rattle.tl_text.specs.declared.lit.Lit.{Lit}
use Rattle.runs.specs.Names.{Name, Part}

-- what a constructor is
pub data Maker : Type 0 where
  -- a constructor of a datatype, by the last part of its path
  Makes : Part → Maker
  -- an exception, by its path
  Raises : Name → Maker
  -- nil or ::
  Lists : Maker
  -- ref
  Refers : Maker

mutual
  -- what tests two values of one type for equality
  pub data Dict : Type 0 where
    Base : ℕ → Dict
    At : Name → Dicts → Dict
    Given : ℕ → Dict
    Cells : Dict
    Parts : Dicts → Dict

  pub data Dicts : Type 0 where
    NoDicts : Dicts
    MoreDicts : Dict → Dicts → Dicts

mutual
  pub data Pat : Type 0 where
    Any : Pat
    PLit : Lit → Pat
    -- a variable: its binder's number, and the identifier that it binds; some have none
    PVar : ℕ → Part → Pat
    PCon : Maker → Pat
    PConOf : Maker → Pat → Pat
    PTuple : Pats → Pat
    PLayer : ℕ → Part → Pat → Pat
    PCell : Pat → Pat
    -- a flexible record, which stands in no unit
    PFlex : Pat

  pub data Pats : Type 0 where
    NoPats : Pats
    MorePats : Pat → Pats → Pats

mutual
  pub data Exp : Type 0 where
    Const : Lit → Exp
    Local : ℕ → Dicts → Exp
    Home : Name → Dicts → Exp
    -- a constructor, and whether it takes an argument
    Con : Maker → Bool → Exp
    -- a row of the initial basis; of = and <> the type name of what is compared
    Prim : ℕ → Option ℕ → Dicts → Exp
    Tuple : Exps → Exp
    Apply : Exp → Exp → Exp
    Fun : Rules → Exp
    Raise : Exp → Exp
    Handle : Exp → Rules → Exp
    Let : Decs → Exp → Exp

  pub data Exps : Type 0 where
    NoExps : Exps
    MoreExps : Exp → Exps → Exps

  pub data Rules : Type 0 where
    NoRules : Rules
    MoreRules : Pat → Exp → Rules → Rules

  pub data Dec : Type 0 where
    Vals : Binds → Dec
    Funs : Binds → Dec
    -- types have no value
    NoValue : Dec
    NewExn : Name → Dec
    -- the new path, and the one that it stands for
    SameExn : Name → Name → Dec

  pub data Decs : Type 0 where
    NoDecs : Decs
    MoreDecs : Dec → Decs → Decs

  -- each with the number of its equality variables
  pub data Binds : Type 0 where
    NoBinds : Binds
    MoreBinds : Pat → ℕ → Exp → Binds → Binds

mutual
  pub data Item : Type 0 where
    Core : Dec → Item
    Module : Part → Mod → Item
    -- a functor, which has no rule yet
    NoItem : Item

  pub data Items : Type 0 where
    NoItems : Items
    MoreItems : Item → Items → Items

  pub data Mod : Type 0 where
    Body : Items → Mod
    AtPath : Name → Mod
    -- a sealed or thinned structure, or an application, which have no rule yet
    NoMod : Mod
