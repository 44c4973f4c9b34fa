-- Types of a text, and schemes.
use Rattle.std.specs.Prelude.{◌≡◌, ℕ, zero, suc, ◌<◌, ◌≤◌}

mutual
  -- Bound stands in schemes alone: a scheme is a type, and binds all of them
  pub data Ty : Type 0 where
    -- a variable that a scheme binds
    Bound : ℕ → Ty
    -- a variable that stands for itself
    Var : ℕ → Ty
    -- a type that was declared, by its stamp, with its arguments
    Stamped : ℕ → Tys → Ty
    Arrow : Ty → Ty → Ty
    -- a * b * ..
    Product : Tys → Ty

  pub data Tys : Type 0 where
    NoTypes : Tys
    MoreTypes : Ty → Tys → Tys

abbrev mutual
  -- a scheme with types for the variables that it binds
  pub inst : (ℕ → Ty) → Ty → Ty
  inst us (Bound i) = us i
  inst us (Var i) = Var i
  inst us (Stamped s ts) = Stamped s (inst_all us ts)
  inst us (Arrow a b) = Arrow (inst us a) (inst us b)
  inst us (Product ts) = Product (inst_all us ts)

  pub inst_all : (ℕ → Ty) → Tys → Tys
  inst_all us NoTypes = NoTypes
  inst_all us (MoreTypes t ts) = MoreTypes (inst us t) (inst_all us ts)

abbrev mutual
  -- no variable of the type is bound by a scheme
  pub IsClosed : Ty → Type 0
  IsClosed (Bound i) = ⊥
  IsClosed (Var i) = Unit {0}
  IsClosed (Stamped s ts) = AreClosed ts
  IsClosed (Arrow a b) = IsClosed a × IsClosed b
  IsClosed (Product ts) = AreClosed ts

  pub AreClosed : Tys → Type 0
  AreClosed NoTypes = Unit {0}
  AreClosed (MoreTypes t ts) = IsClosed t × AreClosed ts

-- what a name of a scheme may be used at
abbrev pub Instance : Ty → Ty → Type 0
Instance u t = (us : ℕ → Ty) × ((i : ℕ) → IsClosed (us i)) × (t ≡ inst us u)

abbrev mutual
  -- the stamps of the type are below c
  pub StampsBelow : ℕ → Ty → Type 0
  StampsBelow c (Bound i) = Unit {0}
  StampsBelow c (Var i) = Unit {0}
  StampsBelow c (Stamped s ts) = (s < c) × AllStampsBelow c ts
  StampsBelow c (Arrow a b) = StampsBelow c a × StampsBelow c b
  StampsBelow c (Product ts) = AllStampsBelow c ts

  pub AllStampsBelow : ℕ → Tys → Type 0
  AllStampsBelow c NoTypes = Unit {0}
  AllStampsBelow c (MoreTypes t ts) = StampsBelow c t × AllStampsBelow c ts

pub record IsInjective (v : ℕ → ℕ) : Type 0 where
  pub same : (i j : ℕ) → v i ≡ v j → i ≡ j

-- P holds at type variables that the environment does not have: at any distinct ones from some number on
abbrev pub AtFresh : ((ℕ → Ty) → Type 0) → Type 0
AtFresh P = (k : ℕ) × ((v : ℕ → ℕ) → IsInjective v → ((i : ℕ) → k ≤ v i) → P (λ i. Var (v i)))

-- P holds at stamps that neither the environment nor the type has: wherever new stamps begin, from some number on
abbrev pub AtNew : (ℕ → Type 0) → Type 0
AtNew P = (k : ℕ) × ((c : ℕ) → k ≤ c → P c)

-- the type at a place of a row
abbrev pub nth : Tys → ℕ → Ty
nth NoTypes i = Product NoTypes
nth (MoreTypes t ts) zero = t
nth (MoreTypes t ts) (suc i) = nth ts i

abbrev pub count : Tys → ℕ
count NoTypes = 0
count (MoreTypes t ts) = suc (count ts)

-- n variables that a scheme binds, from i on
abbrev pub variables : ℕ → ℕ → Tys
variables zero i = NoTypes
variables (suc n) i = MoreTypes (Bound i) (variables n (suc i))

-- the type of the stamp at its own n parameters
abbrev pub stamped : ℕ → ℕ → Ty
stamped s n = Stamped s (variables n 0)

-- the stamps of predefined types
abbrev pub int : Ty
int = Stamped 0 NoTypes

abbrev pub char : Ty
char = Stamped 2 NoTypes

abbrev pub string : Ty
string = Stamped 3 NoTypes

abbrev pub bool : Ty
bool = Stamped 4 NoTypes

abbrev pub exn : Ty
exn = Stamped 5 NoTypes

abbrev pub list : Ty → Ty
list t = Stamped 6 (MoreTypes t NoTypes)

abbrev pub ref : Ty → Ty
ref t = Stamped 7 (MoreTypes t NoTypes)

abbrev pub unit : Ty
unit = Stamped 10 NoTypes

-- the stamps of a text begin here
abbrev pub first_stamp : ℕ
first_stamp = 11
