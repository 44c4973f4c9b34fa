-- Texts of which each phrase has a rule wherever it types: where a pattern or a match leaves no value out, no operator is
-- partial, and names keep apart.
use Rattle.std.specs.Prelude.{◌≡◌, ◌⊎◌, ℕ, List, [], ◌∷◌, Option, Some, None, Bool, true, false, ⊤, codes}
use Rattle.oc_ast.specs.Plain.{Bytes, Cons, PTDef, Alias, Variant, PAPat, Any, PVar, PConst, PCon, PUnit, PParen, PTuple, PNil, PCell, PAPats, NoPats, MorePats, PPat, PAt, PBuild, PCons, PAs, PAtom, Const, Val, Con, Nothing, Paren, Tuple, Items, PAtoms, NoAtoms, MoreAtoms, PArms, NoArms, MoreArms, PFull, Is, LetIn, LetRecIn, LetMod, LetExn, If, Match, Try, While, Then, PItem, Let, LetRec, Types, Exn, ExnAs, Module, Sealed, Functor, PItems, NoItems, MoreItems, PMExp, MAt, Struct, Apply, MSeal, PRBind, Plain, Poly, PRBinds, NoBinds, MoreBinds, PSimple, One, Call, Build, Oper, Fun}
use Rattle.oc_steps.specs.Operators.{Form, AndAlso, OrElse, Prefixes, Acts, form_of}
use Rattle.oc_typing.specs.Definitions.{name_of}
use Rattle.oc_typing.specs.Written.{Distinct}
use Rattle.oc_steps.specs.Known.{Known}
use Rattle.oc_steps.specs.View.{arms_tree}
use Rattle.oc_typing.specs.Ty.{Ty}
use Rattle.oc_typing.specs.Env.{Env}
use Rattle.oc_typing.specs.OcTypes.{ArmsType}
use Rattle.run_types.specs.Types as run
use Rattle.run_types.specs.Types.{Ctx, Whole, World, total}
use Rattle.oc_sound.specs.Clear.{ClearItems}
use Rattle.oc_sound.specs.Meant.{meant}
use Rattle.oc_sound.specs.Served.{Apart, Closed, Place}
use Rattle.oc_sound.specs.Words.{Among, Listed, Variants, capital}
use Rattle.runs.specs.Names.{last_part}
use Rattle.runs.specs.Tree.{Arith, Compare, Concat, Identical, Assign}

-- ---- patterns

-- the pattern takes each value of its type; cells: it may look into cells
abbrev mutual
  pub TakesAll : Bool → PAPat → Type 0
  TakesAll cells Any = ⊤
  TakesAll cells (PVar x) = ⊤
  TakesAll cells (PConst l) = ⊥
  TakesAll cells (PCon q) = ⊥
  TakesAll cells PUnit = ⊤
  TakesAll cells (PParen p) = PatTakesAll cells p
  TakesAll cells (PTuple p ps) = TakesAll cells p × EachTakesAll cells ps
  TakesAll cells PNil = ⊥
  TakesAll cells (PCell p) = (cells ≡ true) × PatTakesAll cells p

  pub EachTakesAll : Bool → PAPats → Type 0
  EachTakesAll cells NoPats = ⊤
  EachTakesAll cells (MorePats p ps) = TakesAll cells p × EachTakesAll cells ps

  pub PatTakesAll : Bool → PPat → Type 0
  PatTakesAll cells (PAt p) = TakesAll cells p
  PatTakesAll cells (PBuild q p) = ⊥
  PatTakesAll cells (PCons p q) = ⊥
  PatTakesAll cells (PAs p x) = TakesAll cells p

-- no variable of the pattern begins with a capital letter
abbrev mutual
  pub SmallNames : PAPat → Type 0
  SmallNames Any = ⊤
  SmallNames (PVar x) = capital x ≡ false
  SmallNames (PConst l) = ⊤
  SmallNames (PCon q) = ⊤
  SmallNames PUnit = ⊤
  SmallNames (PParen p) = PatSmallNames p
  SmallNames (PTuple p ps) = SmallNames p × EachSmallNames ps
  SmallNames PNil = ⊤
  SmallNames (PCell p) = PatSmallNames p

  pub EachSmallNames : PAPats → Type 0
  EachSmallNames NoPats = ⊤
  EachSmallNames (MorePats p ps) = SmallNames p × EachSmallNames ps

  pub PatSmallNames : PPat → Type 0
  PatSmallNames (PAt p) = SmallNames p
  PatSmallNames (PBuild q p) = SmallNames p
  PatSmallNames (PCons p q) = SmallNames p × SmallNames q
  PatSmallNames (PAs p x) = (capital x ≡ false) × SmallNames p

-- the pattern takes each [], each a :: b, each true or each false
abbrev pub TakesNil : PPat → Type 0
TakesNil (PAt PNil) = ⊤
TakesNil _ = ⊥

abbrev pub TakesCons : PPat → Type 0
TakesCons (PCons p q) = TakesAll false p × TakesAll false q
TakesCons _ = ⊥

abbrev pub IsName : Bytes → PPat → Type 0
IsName c (PAt (PCon (n ∷ []))) = n ≡ c
IsName c _ = ⊥

-- some arm has such a pattern
abbrev pub SomeArm : (PPat → Type 0) → PArms → Type 0
SomeArm P NoArms = ⊥
SomeArm P (MoreArms p b arms) = P p ⊎ SomeArm P arms

-- the pattern is of a constructor of this last name, and takes each value that it makes
abbrev pub IsOf : Bytes → PPat → Type 0
IsOf n (PAt (PCon q)) = last_part q ≡ n
IsOf n (PBuild q p) = last_part q ≡ n
IsOf n _ = ⊥

abbrev pub TakesEach : Bytes → PPat → Type 0
TakesEach n (PAt (PCon q)) = last_part q ≡ n
TakesEach n (PBuild q p) = (last_part q ≡ n) × TakesAll false p
TakesEach n _ = ⊥

-- the arms take what each constructor of a type makes, whichever of the types with one of their constructors it is
abbrev pub TakeVariant : Variants → PArms → Type 0
TakeVariant vs arms =
    (n : Bytes) × (capital n ≡ true) × Listed n vs × SomeArm (IsOf n) arms
    × ((v : List Bytes) → Among v vs → Among n v → (m : Bytes) → Among m v → SomeArm (TakesEach m) arms)

-- wherever they type, the arms take each value that has the shape of its type
abbrev pub TakeShapes : Variants → PArms → Type 0
TakeShapes vs arms =
    (w : World) (k : Known) (g : Env) (f b : ℕ → run.Ty) (x : Ctx) (a t : Ty) → Closed vs w → Apart vs k → Place w k g f x → ArmsType g arms a t
    → Whole w (meant f b a) (arms_tree k arms)

-- the arms take each value: one of them does, or two do for both forms of lists, or for both truth values, or there is
-- one for each constructor, or they do by shapes
abbrev pub LeaveNoneOut : Variants → PArms → Type 0
LeaveNoneOut vs arms =
    SomeArm (PatTakesAll true) arms
    ⊎ ((SomeArm TakesNil arms × SomeArm TakesCons arms)
    ⊎ ((SomeArm (IsName (codes "true")) arms × SomeArm (IsName (codes "false")) arms) ⊎ (TakeVariant vs arms ⊎ TakeShapes vs arms)))

-- ---- operators and types

-- the operator has a result at all values: not / mod lsl lsr
abbrev pub IsTotal : Option Form → Type 0
IsTotal None = ⊥
IsTotal (Some AndAlso) = ⊤
IsTotal (Some OrElse) = ⊤
IsTotal (Some Prefixes) = ⊤
IsTotal (Some (Acts (Arith o))) = total o ≡ true
IsTotal (Some (Acts (Compare o))) = ⊤
IsTotal (Some (Acts Concat)) = ⊤
IsTotal (Some (Acts Identical)) = ⊤
IsTotal (Some (Acts Assign)) = ⊤

abbrev pub names_of : Cons → List Bytes
names_of [] = []
names_of (c ∷ cs) = c.0 ∷ names_of cs

abbrev pub AllCapital : List Bytes → Type 0
AllCapital [] = ⊤
AllCapital (x ∷ xs) = (capital x ≡ true) × AllCapital xs

-- New variants have their constructors in the list. Constructors begin with capital letters, and none stands twice in a
-- type.
abbrev pub SecureDefs : Variants → List PTDef → Type 0
SecureDefs vs [] = ⊤
SecureDefs vs (Alias ws n w ∷ ds) = SecureDefs vs ds
SecureDefs vs (Variant ws n None cs ∷ ds) = Among (names_of cs) vs × Distinct (names_of cs) × AllCapital (names_of cs) × SecureDefs vs ds
SecureDefs vs (Variant ws n (Some w) cs ∷ ds) = AllCapital (names_of cs) × SecureDefs vs ds

abbrev pub names_defined : List PTDef → List Bytes
names_defined [] = []
names_defined (d ∷ ds) = name_of d ∷ names_defined ds

-- ---- expressions, modules and items

-- vs: the constructors of the types of the text; types: whether items may declare types, as those of a local module may not
abbrev mutual
  pub SecureAtom : Variants → PAtom → Type 0
  SecureAtom vs (Const l) = ⊤
  SecureAtom vs (Val q) = ⊤
  SecureAtom vs (Con q) = ⊤
  SecureAtom vs Nothing = ⊤
  SecureAtom vs (Paren f) = SecureFull vs f
  SecureAtom vs (Tuple a xs) = SecureAtom vs a × SecureAtoms vs xs
  SecureAtom vs (Items xs) = SecureAtoms vs xs

  pub SecureAtoms : Variants → PAtoms → Type 0
  SecureAtoms vs NoAtoms = ⊤
  SecureAtoms vs (MoreAtoms a xs) = SecureAtom vs a × SecureAtoms vs xs

  pub SecureArms : Variants → PArms → Type 0
  SecureArms vs NoArms = ⊤
  SecureArms vs (MoreArms p a arms) = PatSmallNames p × SecureAtom vs a × SecureArms vs arms

  pub SecureSimple : Variants → PSimple → Type 0
  SecureSimple vs (One a) = SecureAtom vs a
  SecureSimple vs (Call f a) = SecureAtom vs f × SecureAtom vs a
  SecureSimple vs (Build q a) = SecureAtom vs a
  SecureSimple vs (Oper a o b) = IsTotal (form_of o) × SecureAtom vs a × SecureAtom vs b
  SecureSimple vs (Fun p f) = TakesAll true p × SmallNames p × SecureFull vs f

  pub SecureFull : Variants → PFull → Type 0
  SecureFull vs (Is e) = SecureSimple vs e
  SecureFull vs (LetIn p e f) = PatTakesAll true p × PatSmallNames p × SecureSimple vs e × SecureFull vs f
  SecureFull vs (LetRecIn rs f) = SecureBinds vs rs × SecureFull vs f
  SecureFull vs (LetMod m is f) = SecureItems vs false is × SecureFull vs f
  SecureFull vs (LetExn n w f) = (capital n ≡ true) × (Listed n vs → ⊥) × SecureFull vs f
  SecureFull vs (If a b c) = SecureAtom vs a × SecureAtom vs b × SecureAtom vs c
  SecureFull vs (Match a arms) = LeaveNoneOut vs arms × SecureAtom vs a × SecureArms vs arms
  SecureFull vs (Try a arms) = SecureAtom vs a × SecureArms vs arms
  SecureFull vs (While a f) = SecureAtom vs a × SecureFull vs f
  SecureFull vs (Then a f) = SecureAtom vs a × SecureFull vs f

  pub SecureBinds : Variants → PRBinds → Type 0
  SecureBinds vs NoBinds = ⊤
  SecureBinds vs (MoreBinds r rs) = SecureBind vs r × SecureBinds vs rs

  -- a function with one type inside its group
  pub SecureBind : Variants → PRBind → Type 0
  SecureBind vs (Plain x e) = (capital x ≡ false) × SecureMember vs e
  SecureBind vs (Poly x ws w e) = ⊥

  pub SecureMember : Variants → PSimple → Type 0
  SecureMember vs (Fun p f) = TakesAll true p × SmallNames p × SecureFull vs f
  SecureMember vs (One a) = ⊥
  SecureMember vs (Call f a) = ⊥
  SecureMember vs (Build q a) = ⊥
  SecureMember vs (Oper a o b) = ⊥

  pub SecureItem : Variants → Bool → PItem → Type 0
  SecureItem vs types (Let p e) = PatTakesAll true p × PatSmallNames p × SecureSimple vs e
  SecureItem vs types (LetRec rs) = SecureBinds vs rs
  SecureItem vs types (Types ds) = (types ≡ true) × Distinct (names_defined ds) × SecureDefs vs ds
  SecureItem vs types (Exn n w) = (capital n ≡ true) × (Listed n vs → ⊥)
  SecureItem vs types (ExnAs n q) = (capital n ≡ true) × (Listed n vs → ⊥)
  SecureItem vs types (Module m o) = SecureMod vs types o
  SecureItem vs types (Sealed m s o) = ⊥
  SecureItem vs types (Functor f x s o) = ⊥

  pub SecureItems : Variants → Bool → PItems → Type 0
  SecureItems vs types NoItems = ⊤
  SecureItems vs types (MoreItems i is) = SecureItem vs types i × SecureItems vs types is

  pub SecureMod : Variants → Bool → PMExp → Type 0
  SecureMod vs types (MAt q) = ⊤
  SecureMod vs types (Struct is) = SecureItems vs types is
  SecureMod vs types (Apply f a) = ⊥
  SecureMod vs types (MSeal o s) = ⊥

-- the text is secure, with a list of the constructors of its types, none of which is the name of an exception; and it
-- names nothing of String and Char, whose functions may have no step
abbrev pub Secure : PItems → Type 0
Secure text = (vs : Variants) × SecureItems vs true text × ClearItems text
