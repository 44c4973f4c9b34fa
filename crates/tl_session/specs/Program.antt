-- Sources as plain trees of the core language, for the forms that are built and those of a probe (the Definition, section 2.8).
use Rattle.std.specs.Prelude.{ℕ, List, map, codes}
use Rattle.std.specs.List.{flat_map}
use Rattle.tl_text.specs.declared.lit.Lit.{Lit}
use Rattle.tl_text.specs.declared.lit.Lit.TheVariants.{Text}
use Rattle.built_items.specs.declared.item.SourceItem.{SourceItem}
use Rattle.built_items.specs.declared.item.Target.{Target}
use Rattle.built_items.specs.declared.item.Target.TheVariants as target
use Rattle.built_items.specs.declared.item.Value.{Value}
use Rattle.built_items.specs.declared.item.Value.TheVariants as value

mutual
  pub data Exp : Type 0 where
    -- scon
    Scon : Lit → Exp
    -- vid
    Id : List ℕ → Exp
    -- exp exp
    App : Exp → Exp → Exp
    -- (), and (exp, .., exp): the record with labels 1 to n
    Record : Exps → Exp
    -- [exp, .., exp]: exp :: .. :: nil
    Row : Exps → Exp

  pub data Exps : Type 0 where
    NoExps : Exps
    MoreExps : Exp → Exps → Exps

pub data Pat : Type 0 where
  -- _
  Wild : Pat
  -- vid
  Var : List ℕ → Pat

-- val pat = exp
pub record Dec : Type 0 where
  pub pat : Pat
  pub exp : Exp

-- the pattern of a target
abbrev pub pat_of : Target → Pat
pat_of target.Wild = Wild
pat_of (target.Var x) = Var x

-- a literal, or print "s"
abbrev pub exp_of : Value → Exp
exp_of (value.Literal l) = Scon l
exp_of (value.Printed text) = App (Id (codes "print")) (Scon (Text text))

-- the declaration of an item
abbrev pub dec_of : SourceItem → Dec
dec_of item = record { pat = pat_of item.target; exp = exp_of item.value }

-- the declarations of programs, one row
abbrev pub decs_of : List (List SourceItem) → List Dec
decs_of = flat_map (map dec_of)
