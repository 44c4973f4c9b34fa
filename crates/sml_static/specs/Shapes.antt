-- Patterns without their names and types, shapes of values, and whether a shape hits or misses a pattern.
use Rattle.std.specs.Prelude.{◌==◌, ◌&&◌, ◌||◌, ℕ, zero, suc, Bool, true, false, not, List, [], ◌∷◌, Option, Some, None}
use Rattle.std.specs.Ordering.{int_eq}
use Rattle.std.specs.Str.{bytes_eq}
use Rattle.std.specs.Cmp.Lexicographic.{pointwise}
use Rattle.tl_text.specs.Pairs.{seconds}
use Rattle.tl_text.specs.declared.lit.Lit.{Lit}
use Rattle.tl_text.specs.declared.lit.Lit.TheVariants as lit
use Rattle.sml_static.specs.declared.ty.Ty.{Ty, fold-Ty}
use Rattle.sml_static.specs.declared.ty.Ty.TheOpen.{Ty-F}
use Rattle.sml_static.specs.declared.mid.MidPat.{MidPat, fold-MidPat}
use Rattle.sml_static.specs.declared.mid.MidPat.TheOpen.{MidPat-F}

-- a constructor: of the datatype with that number, by the last part of its path, or an exception, by its path
pub data Key : Type 0 where
  Of : ℕ → List ℕ → Key
  Exn : List (List ℕ) → Key

-- a pattern: anything, a tuple as its first part and the tuple of the others (`Wild` at its end), the content of a
-- reference, a literal, or a constructor, with how many its datatype has, and its argument (`Wild` where it has none)
pub data Pattern : Type 0 where
  Wild : Pattern
  Parts : Pattern → Pattern → Pattern
  Cell : Pattern → Pattern
  Literal : Lit → Pattern
  Made : Key → ℕ → Pattern → Pattern

-- a shape, in the same way
pub data Shape : Type 0 where
  AnyShape : Shape
  PartsShape : Shape → Shape → Shape
  CellShape : Shape → Shape
  LiteralShape : Lit → Shape
  MadeShape : Key → Shape → Shape

-- the number of the type name of what a constructor of this type makes, and 0 for another type
abbrev pub number_step : Ty-F ℕ → ℕ
number_step (Ty-F.Free n) = 0
number_step (Ty-F.Bound i) = 0
number_step (Ty-F.Fields fields) = 0
number_step (Ty-F.Arrow a b) = b
number_step (Ty-F.Con name args) = name.id

abbrev pub datatype_of : Ty → ℕ
datatype_of = fold-Ty ℕ number_step

-- the last part of a path
abbrev pub last_part : List (List ℕ) → List ℕ
last_part [] = []
last_part (n ∷ []) = n
last_part (n ∷ (m ∷ ms)) = last_part (m ∷ ms)

-- the constructor that stands at a pattern: an exception, where its datatype has no number of constructors
abbrev pub key_of : List (List ℕ) → Ty → ℕ → Key
key_of path t zero = Exn path
key_of path t (suc n) = Of (datatype_of t) (last_part path)

-- a tuple of these patterns
abbrev pub tuple_of : List Pattern → Pattern
tuple_of [] = Wild
tuple_of (p ∷ ps) = Parts p (tuple_of ps)

-- the argument's pattern, where there is one
abbrev pub argument_of : Option Pattern → Pattern
argument_of None = Wild
argument_of (Some p) = p

-- one level of `pattern_of`
abbrev pub pattern_step : MidPat-F Pattern → Pattern
pattern_step (MidPat-F.Any t) = Wild
pattern_step (MidPat-F.Lit l) = Literal l
pattern_step (MidPat-F.Var b x t) = Wild
pattern_step (MidPat-F.Con path t n p) = Made (key_of path t n) n (argument_of p)
pattern_step (MidPat-F.Tuple ps) = tuple_of ps
pattern_step (MidPat-F.Layer b x p) = p
pattern_step (MidPat-F.Cell p) = Cell p
pattern_step (MidPat-F.Flex fields t) = tuple_of (seconds fields)

-- the pattern without names and types; a layered pattern counts as its inner one
abbrev pub pattern_of : MidPat → Pattern
pattern_of = fold-MidPat Pattern pattern_step

-- whether two constructors are alike
abbrev pub is_same_key : Key → Key → Bool
is_same_key (Of d n) (Of e m) = (d == e) && bytes_eq n m
is_same_key (Of d n) (Exn q) = false
is_same_key (Exn p) (Of e m) = false
is_same_key (Exn p) (Exn q) = pointwise bytes_eq p q

-- whether two constructors are of one datatype, or both are exceptions, and are not alike
abbrev pub is_other_key : Key → Key → Bool
is_other_key (Of d n) (Of e m) = (d == e) && not (bytes_eq n m)
is_other_key (Of d n) (Exn q) = false
is_other_key (Exn p) (Of e m) = false
is_other_key (Exn p) (Exn q) = not (pointwise bytes_eq p q)

-- whether two literals are alike
abbrev pub is_same_literal : Lit → Lit → Bool
is_same_literal (lit.Int x) (lit.Int y) = int_eq x y
is_same_literal (lit.Word x) (lit.Word y) = x == y
is_same_literal (lit.Char x) (lit.Char y) = x == y
is_same_literal (lit.Text x) (lit.Text y) = bytes_eq x y
is_same_literal _ _ = false

-- whether two literals are of one type and not alike
abbrev pub is_other_literal : Lit → Lit → Bool
is_other_literal (lit.Int x) (lit.Int y) = not (int_eq x y)
is_other_literal (lit.Word x) (lit.Word y) = not (x == y)
is_other_literal (lit.Char x) (lit.Char y) = not (x == y)
is_other_literal (lit.Text x) (lit.Text y) = not (bytes_eq x y)
is_other_literal _ _ = false

-- the first part of a tuple's shape, the shape of the others, the content of a reference's, the argument of a constructor's
abbrev pub first_part : Shape → Shape
first_part (PartsShape s t) = s
first_part _ = AnyShape

abbrev pub other_parts : Shape → Shape
other_parts (PartsShape s t) = t
other_parts _ = AnyShape

abbrev pub content : Shape → Shape
content (CellShape s) = s
content _ = AnyShape

abbrev pub argument : Shape → Shape
argument (MadeShape k s) = s
argument _ = AnyShape

-- whether a literal, or another one of its type, stands at the shape
abbrev pub has_literal : Lit → Shape → Bool
has_literal l (LiteralShape m) = is_same_literal l m
has_literal l _ = false

abbrev pub has_other_literal : Lit → Shape → Bool
has_other_literal l (LiteralShape m) = is_other_literal l m
has_other_literal l _ = false

-- whether a constructor, or another one of its datatype, stands at the shape
abbrev pub has_key : Key → Shape → Bool
has_key k (MadeShape j s) = is_same_key k j
has_key k _ = false

abbrev pub has_other_key : Key → Shape → Bool
has_other_key k (MadeShape j s) = is_other_key k j
has_other_key k _ = false

-- whether each literal and constructor of the pattern stands at its place in the shape
abbrev pub hits : Pattern → Shape → Bool
hits Wild s = true
hits (Parts p q) s = hits p (first_part s) && hits q (other_parts s)
hits (Cell p) s = hits p (content s)
hits (Literal l) s = has_literal l s
hits (Made k n p) s = has_key k s && hits p (argument s)

-- whether at some place the two have unlike literals or constructors
abbrev pub misses : Pattern → Shape → Bool
misses Wild s = false
misses (Parts p q) s = misses p (first_part s) || misses q (other_parts s)
misses (Cell p) s = misses p (content s)
misses (Literal l) s = has_other_literal l s
misses (Made k n p) s = has_other_key k s || (has_key k s && misses p (argument s))
