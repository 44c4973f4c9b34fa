-- The trees on which the middle meaning and the runs of an OCaml text are both defined.
use Rattle.std.specs.Prelude.{ℕ, ℤ, List}
use Rattle.runs.specs.Names.{Part, Name}

-- what a literal stands for: an integer, a character, a string
pub data Const : Type 0 where
  Int : ℤ → Const
  Char : ℕ → Const
  Str : List ℕ → Const

-- the values that OCaml predefines, but for operators
pub data Primitive : Type 0 where
  Ref : Primitive
  Deref : Primitive
  Raise : Primitive
  Not : Primitive
  PrintString : Primitive
  StringOfInt : Primitive
  StringLength : Primitive
  StringGet : Primitive
  StringSub : Primitive
  StringMake : Primitive
  CharCode : Primitive
  CharChr : Primitive

-- + - * / mod land lor lxor lsl lsr
pub data Arithmetic : Type 0 where
  Plus : Arithmetic
  Minus : Arithmetic
  Times : Arithmetic
  Divide : Arithmetic
  Modulo : Arithmetic
  Land : Arithmetic
  Lor : Arithmetic
  Lxor : Arithmetic
  Lsl : Arithmetic
  Lsr : Arithmetic

-- = < <= > >=
pub data Comparison : Type 0 where
  Equal : Comparison
  Less : Comparison
  LessEqual : Comparison
  Greater : Comparison
  GreaterEqual : Comparison

-- the operators whose two parts may be evaluated in any order; Concat is ^, Identical is ==, Assign is :=
pub data Operator : Type 0 where
  Arith : Arithmetic → Operator
  Compare : Comparison → Operator
  Concat : Operator
  Identical : Operator
  Assign : Operator

-- what a row of parts makes once they are finished
pub data Op : Type 0 where
  -- f a
  Apply : Op
  -- (a, b, ..), and () without parts
  Pair : Op
  -- the constructor of this name, with its argument if it has one; a :: b is the constructor :: of two
  Build : Part → Op
  -- an exception: its name, and its argument if it has one
  Make : Op
  -- [a; b; ..]
  ListOf : Op
  -- a + b
  Oper : Operator → Op

-- which exception a pattern means: by its path, or the one that was drawn; Broken where the path leads to no exception
pub data Tag : Type 0 where
  Named : Name → Tag
  Drawn : ℕ → Tag
  Broken : Tag

mutual
  pub data Pat : Type 0 where
    -- _
    PAny : Pat
    -- x
    PVar : Name → Pat
    -- 1, 'a', "a"
    PLit : Const → Pat
    -- (p, q, ..), and () without parts
    PTup : Pats → Pat
    -- C p
    PCon : Part → Pats → Pat
    -- E p
    PExn : Tag → Pats → Pat
    -- {contents = p}
    PCell : Pat → Pat
    -- p as x
    PLayer : Name → Pat → Pat

  pub data Pats : Type 0 where
    PNil : Pats
    PMore : Pat → Pats → Pats

mutual
  -- Is and Fail stand only where a run has put them: a finished value and a raised one
  pub data Exp : Type 0 where
    Is : Val → Exp
    Fail : Val → Exp
    -- a literal
    Lit : Const → Exp
    -- a variable or a path
    Var : Name → Exp
    -- fun p -> b, with what comes where no rule takes the argument
    Fn : Fall → Rules → Exp
    -- let rec f = fun .. and g = fun .. in b
    Group : Funs → Exp → Exp
    -- a row of parts, which are evaluated in any order
    Node : Op → Exps → Exp
    -- match a with p -> b | .., with what comes where no rule takes the value; let p = a in b has one rule
    Case : Fall → Exp → Rules → Exp
    -- let exception E in b
    NewExn : Name → Exp → Exp
    -- try a with p -> b | ..; it passes on what no rule takes
    Try : Exp → Rules → Exp
    -- let module X = struct .. end in b, with the values that were put into the structure; a text has none there
    LetMod : (Name → Found) → Part → Items → Exp → Exp
    -- the same on its way
    InMod : Part → Work → Exp → Exp
    -- struct .. end, the body of a functor that is applied, with the values that were put into it
    StructOf : (Name → Found) → Items → Exp
    -- the same on its way
    InStruct : Work → Exp

  -- no step, or an exception
  pub data Fall : Type 0 where
    Stuck : Fall
    Raises : Val → Fall

  pub data Exps : Type 0 where
    Nil : Exps
    Cons : Exp → Exps → Exps

  pub data Rules : Type 0 where
    Stop : Rules
    Rule : Pat → Exp → Rules → Rules

  pub data Funs : Type 0 where
    NoFuns : Funs
    Fun : Name → Fall → Rules → Funs → Funs

  -- values have no free variable, and nothing is ever put into them
  pub data Val : Type 0 where
    -- an integer, a character or a string
    Datum : Const → Val
    Tup : Vals → Val
    -- a constructor, by the last part of its path
    Con : Part → Vals → Val
    -- a function, and a function of a group
    Clo : Fall → Rules → Val
    Rec : Funs → Name → Val
    -- a cell of memory
    Loc : ℕ → Val
    -- the name of an exception, and an exception
    Nam : ℕ → Val
    Exn : ℕ → Vals → Val
    -- a predefined function, with the arguments that it has so far
    Prim : Primitive → Vals → Val
    -- the values of a structure, by their paths
    Module : (Name → Found) → Val
    -- a functor: the values that were put into its body, its parameter and its body
    Functor : (Name → Found) → Part → Items → Val

  pub data Vals : Type 0 where
    NoVals : Vals
    Item : Val → Vals → Vals

  -- a row of items of a structure
  pub data Items : Type 0 where
    End : Items
    -- let p = a, with what comes where p does not take the value
    Value : Fall → Pat → Exp → Items → Items
    -- let rec f = fun .. and g = fun ..
    Functions : Funs → Items → Items
    -- exception E
    Exception : Name → Items → Items
    -- module X = path
    Alias : Part → Name → Items → Items
    -- module X = struct .. end
    Struct : Part → Items → Items → Items
    -- module F (X : ..) () = struct .. end
    FunctorOf : Part → Part → Items → Items → Items
    -- module X = F (A) ()
    Applied : Part → Name → Name → Items → Items

  -- a value, if there is one
  pub data Found : Type 0 where
    Absent : Found
    There : Val → Found

  -- the finished values that can be read at a place on its way, and those of the structure that is being made there
  pub data Held : Type 0 where
    Hold : (Name → Found) → (Name → Found) → Held

  -- a row of items on its way
  pub data Work : Type 0 where
    -- items still to do, where these values are finished
    Rest : Held → Items → Work
    -- let p = a on its way, with the values of the scope put in, and the items after it
    Doing : Held → Fall → Pat → Exp → Items → Work
    -- module X = struct .. end on its way, and the items after it
    Open : Held → Part → Work → Items → Work
    -- module X = F (A) () on its way, and the items after it
    Making : Held → Part → Exp → Items → Work
    -- all is done
    Whole : Held → Work
    -- an exception left an item
    Lost : Val → Work
