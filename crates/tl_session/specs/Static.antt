-- The types of sources (the Definition, chapter 4), for the forms that are built and those of a probe, and where their variables are at home.
use Rattle.std.specs.Prelude.{◌≡◌, ℕ, List, [], ◌∷◌, Option, Some, None, if◌then◌else◌, codes}
use Rattle.std.specs.Str.{bytes_eq}
use Rattle.tl_text.specs.declared.lit.Lit.{Lit}
use Rattle.tl_text.specs.declared.lit.Lit.TheVariants as lit
use Rattle.built_items.specs.declared.item.SourceItem.{SourceItem}
use Rattle.built_items.specs.declared.item.Target.{Target}
use Rattle.built_items.specs.declared.item.Target.TheVariants as target
use Rattle.built_items.specs.declared.item.Value.{Value}
use Rattle.built_items.specs.declared.item.Value.TheVariants as value
use Rattle.oc_names.specs.Mangled.{mangled}
use Rattle.oc_names.specs.declared.names.NameKind.TheVariants as kind
use Rattle.tl_session.specs.Program.{Exp, Scon, Id, App, Record, Row, Exps, NoExps, MoreExps}

mutual
  pub data Ty : Type 0 where
    Int : Ty
    Word : Ty
    Char : Ty
    String : Ty
    Arrow : Ty → Ty → Ty
    -- a record with labels 1 to n
    Labelled : Tys → Ty
    ListOf : Ty → Ty

  pub data Tys : Type 0 where
    NoTys : Tys
    MoreTys : Ty → Tys → Tys

abbrev pub unit : Ty
unit = Labelled NoTys

abbrev pub type_of : Lit → Ty
type_of (lit.Int n) = Int
type_of (lit.Word n) = Word
type_of (lit.Char c) = Char
type_of (lit.Text text) = String

-- a variable: its type, and the path at which the text has it
pub record Entry : Type 0 where
  pub type : Ty
  pub home : List (List ℕ)

-- what a variable is bound to
abbrev pub Basis : Type 0
Basis = List ℕ → Option Entry

abbrev pub bound : List ℕ → Entry → Basis → Basis
bound x e basis = λ y. if bytes_eq x y then Some e else basis y

-- print, at home in Rt
abbrev pub print_entry : Entry
print_entry = record { type = Arrow String unit; home = codes "Rt" ∷ codes "print" ∷ [] }

-- the initial basis, as far as it is built
abbrev pub initial : Basis
initial = bound (codes "print") print_entry (λ y. None)

-- the type of a value
abbrev pub value_type : Value → Ty
value_type (value.Literal l) = type_of l
value_type (value.Printed text) = unit

-- a target of this type in the unit of this name; a variable is at home under its written name
abbrev pub with_target : List ℕ → Target → Ty → Basis → Basis
with_target unit_name target.Wild t basis = basis
with_target unit_name (target.Var x) t basis = bound x (record { type = t; home = unit_name ∷ mangled kind.Value x ∷ [] }) basis

-- an item of the unit of this name
abbrev pub with_item : List ℕ → SourceItem → Basis → Basis
with_item unit_name item basis = with_target unit_name item.target (value_type item.value) basis

abbrev pub with_items : List ℕ → List SourceItem → Basis → Basis
with_items unit_name [] basis = basis
with_items unit_name (i ∷ items) basis = with_items unit_name items (with_item unit_name i basis)

abbrev pub HasEntry : Option Entry → Ty → Type 0
HasEntry None t = ⊥
HasEntry (Some e) t = t ≡ e.type

abbrev mutual
  -- the expression has the type (rules 1 to 10)
  pub HasType : Basis → Exp → Ty → Type 0
  HasType basis (Scon literal) t = t ≡ type_of literal
  HasType basis (Id x) t = HasEntry (basis x) t
  HasType basis (App f a) t = (u : Ty) × HasType basis f (Arrow u t) × HasType basis a u
  HasType basis (Record es) t = (ts : Tys) × HaveTypes basis es ts × (t ≡ Labelled ts)
  HasType basis (Row es) t = (u : Ty) × AllHaveType basis es u × (t ≡ ListOf u)

  pub HaveTypes : Basis → Exps → Tys → Type 0
  HaveTypes basis NoExps NoTys = Unit {0}
  HaveTypes basis (MoreExps e es) (MoreTys t ts) = HasType basis e t × HaveTypes basis es ts
  HaveTypes basis NoExps (MoreTys t ts) = ⊥
  HaveTypes basis (MoreExps e es) NoTys = ⊥

  pub AllHaveType : Basis → Exps → Ty → Type 0
  AllHaveType basis NoExps u = Unit {0}
  AllHaveType basis (MoreExps e es) u = HasType basis e u × AllHaveType basis es u
