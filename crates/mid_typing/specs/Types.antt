-- The types of the initial basis, and which types may stand in a typed tree.
use Rattle.std.specs.Prelude.{◌==◌, ◌&&◌, ◌||◌, ℕ, zero, suc, nat_lt, nat_le, Bool, true, false, IsTrue, List, [], ◌∷◌, map, Option, Some, None, if◌then◌else◌}
use Rattle.std.specs.List.{list_all, list_any, range_with_len, slice_index_or}
use Rattle.tl_text.specs.Pairs.{seconds}
use Rattle.tl_text.specs.declared.lit.Lit.{Lit}
use Rattle.tl_text.specs.declared.lit.Lit.TheVariants as lit
use Rattle.sml_static.specs.declared.ty.Label.{Label}
use Rattle.sml_static.specs.declared.ty.Label.TheVariants as label
use Rattle.sml_static.specs.declared.ty.Ty.{Ty, fold-Ty}
use Rattle.sml_static.specs.declared.ty.Ty.TheOpen.{Ty-F}
use Rattle.sml_static.specs.declared.ty.Ty.TheVariants as ty
use Rattle.sml_static.specs.declared.ty.TyName.{TyName}
use Rattle.sml_static.specs.declared.ty.VarKind.{VarKind}
use Rattle.sml_static.specs.declared.ty.VarKind.TheVariants as kind
use Rattle.sml_static.specs.Equality.{is_equal, ref_number}
use Rattle.sml_static.specs.WellFormed.{Numbering, is_well_formed}

-- ---- the initial basis

-- a type name: its number, how many arguments it takes, and whether it admits equality
abbrev pub type_name : ℕ → ℕ → Bool → TyName
type_name id arity equality = record { id = id; arity = arity; equality = equality }

abbrev pub int : Ty
int = ty.Con (type_name 0 0 true) []

abbrev pub word : Ty
word = ty.Con (type_name 1 0 true) []

abbrev pub char : Ty
char = ty.Con (type_name 2 0 true) []

abbrev pub string : Ty
string = ty.Con (type_name 3 0 true) []

abbrev pub bool : Ty
bool = ty.Con (type_name 4 0 true) []

abbrev pub exn : Ty
exn = ty.Con (type_name 5 0 false) []

abbrev pub list : Ty → Ty
list t = ty.Con (type_name 6 1 true) (t ∷ [])

abbrev pub ref : Ty → Ty
ref t = ty.Con (type_name 7 1 true) (t ∷ [])

abbrev pub option : Ty → Ty
option t = ty.Con (type_name 8 1 true) (t ∷ [])

abbrev pub order : Ty
order = ty.Con (type_name 9 0 true) []

abbrev pub arrow : Ty → Ty → Ty
arrow a b = ty.Arrow a b

abbrev pub fields_from : ℕ → List Ty → List (Label × Ty)
fields_from n [] = []
fields_from n (t ∷ ts) = (label.Num n, t) ∷ fields_from (suc n) ts

-- {1: ty, 2: ty, ..}
abbrev pub tuple : List Ty → Ty
tuple ts = ty.Fields (fields_from 1 ts)

abbrev pub unit : Ty
unit = tuple []

abbrev pub pair : Ty → Ty → Ty
pair a b = tuple (a ∷ b ∷ [])

abbrev pub literal_type : Lit → Ty
literal_type (lit.Int z) = int
literal_type (lit.Word n) = word
literal_type (lit.Char c) = char
literal_type (lit.Text t) = string

-- the type names that are drawn begin here
abbrev pub first_name : ℕ
first_name = 16

-- ---- type variables

-- the kind of a type variable in scope
abbrev pub kind_at : List VarKind → ℕ → VarKind
kind_at ks i = slice_index_or ks i kind.Plain

-- no type that is not yet known stands in a typed tree
abbrev pub no_free : ℕ → VarKind
no_free n = kind.Plain

-- k variables from n on
abbrev pub variables : ℕ → ℕ → List Ty
variables n k = map (λ i. ty.Bound i) (range_with_len n k)

abbrev pub one_more : Option ℕ → Option ℕ
one_more None = None
one_more (Some i) = Some (suc i)

-- the place of the equality variable that is the i-th of these
abbrev pub equal_place : List VarKind → ℕ → Option ℕ
equal_place [] i = None
equal_place (kind.Plain ∷ ks) i = one_more (equal_place ks i)
equal_place (kind.Equal ∷ ks) zero = Some 0
equal_place (kind.Equal ∷ ks) (suc i) = one_more (equal_place ks i)

-- of the types that stand for variables of these kinds, those that stand for equality variables
abbrev pub equal_args : List VarKind → List Ty → List Ty
equal_args [] ts = []
equal_args (k ∷ ks) [] = []
equal_args (kind.Plain ∷ ks) (t ∷ ts) = equal_args ks ts
equal_args (kind.Equal ∷ ks) (t ∷ ts) = t ∷ equal_args ks ts

-- ---- which types may stand in a typed tree

-- one level of `is_known`
abbrev pub known_step : ℕ → Ty-F Bool → Bool
known_step c (Ty-F.Free n) = false
known_step c (Ty-F.Bound i) = true
known_step c (Ty-F.Fields fields) = list_all (λ f. f) (seconds fields)
known_step c (Ty-F.Arrow a b) = a && b
known_step c (Ty-F.Con name args) = nat_lt name.id c && list_all (λ a. a) args

-- whether all type names of the type are below c, and nothing in it is not yet known
abbrev pub is_known : ℕ → Ty → Bool
is_known c = fold-Ty Bool (known_step c)

-- whether it is a type where the type names below c are drawn and n type variables are in scope
abbrev pub is_type_at : Numbering → ℕ → ℕ → Ty → Bool
is_type_at names c n t = is_well_formed names n t && is_known c t

abbrev pub IsTypeAt : Numbering → ℕ → ℕ → Ty → Type 0
IsTypeAt names c n t = IsTrue (is_type_at names c n t)

-- ---- what a type is and mentions

-- one level of `mentions`
abbrev pub mentions_step : (ℕ → Bool) → Ty-F Bool → Bool
mentions_step which (Ty-F.Free n) = false
mentions_step which (Ty-F.Bound i) = which i
mentions_step which (Ty-F.Fields fields) = list_any (λ f. f) (seconds fields)
mentions_step which (Ty-F.Arrow a b) = a || b
mentions_step which (Ty-F.Con name args) = list_any (λ a. a) args

-- whether such a type variable stands in the type
abbrev pub mentions : (ℕ → Bool) → Ty → Bool
mentions which = fold-Ty Bool (mentions_step which)

-- whether a variable from n on does, and an equality variable from n on
abbrev pub is_general : ℕ → Ty → Bool
is_general n = mentions (λ i. nat_le n i)

abbrev pub is_equality_general : List VarKind → ℕ → Ty → Bool
is_equality_general ks n = mentions (λ i. nat_le n i && is_equal (kind_at ks i))

abbrev pub arrow_step : Ty-F Bool → Bool
arrow_step (Ty-F.Free n) = false
arrow_step (Ty-F.Bound i) = false
arrow_step (Ty-F.Fields fields) = false
arrow_step (Ty-F.Arrow a b) = true
arrow_step (Ty-F.Con name args) = false

-- whether the type is a function type
abbrev pub is_arrow : Ty → Bool
is_arrow = fold-Ty Bool arrow_step

abbrev pub no_dict_step : Ty-F Bool → Bool
no_dict_step (Ty-F.Free n) = false
no_dict_step (Ty-F.Bound i) = false
no_dict_step (Ty-F.Fields fields) = false
no_dict_step (Ty-F.Arrow a b) = false
no_dict_step (Ty-F.Con name args) = nat_lt name.id 4 || (name.id == ref_number)

-- whether = and <> need no dictionary at the type: int, word, char, string and references
abbrev pub needs_no_dict : Ty → Bool
needs_no_dict = fold-Ty Bool no_dict_step

-- those that need one
abbrev pub need_dicts : List Ty → List Ty
need_dicts [] = []
need_dicts (t ∷ ts) = if needs_no_dict t then need_dicts ts else t ∷ need_dicts ts
