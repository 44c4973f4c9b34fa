-- The initial basis as the middle meaning has it: its exceptions, and the values of the rows of primitives that are built.
use Rattle.std.specs.Prelude.{ℕ, suc, pos, negsuc, List, [], ◌∷◌, Option, Some, None, nat_eq, codes, if◌then◌else◌}
use Rattle.runs.specs.Env.{empty}
use Rattle.runs.specs.Forms.{call, choice, infix_of, unit_exp, values_of}
use Rattle.runs.specs.Names.{Name, Part}
use Rattle.runs.specs.Primitives.{St}
use Rattle.runs.specs.Scope.{Scope}
use Rattle.runs.specs.Tree.{Arith, Assign, Clo, Compare, Comparison, Deref, Divide, Equal, Exn, Exp, Greater, GreaterEqual, Identical, Int, Is, Less, LessEqual, Lit, Minus, Modulo, Nam, NoVals, Not, PMore, PNil, PTup, PVar, Pat, Plus, Prim, PrintString, Raise, Rule, Stop, StringLength, Stuck, Val, Var}
use Rattle.mid_rules.specs.Names.{left_name, right_name}

-- ---- exceptions

-- the exceptions of the initial basis, which are drawn before any source
abbrev pub basis_exceptions : List Part
basis_exceptions =
    codes "Match" ∷ codes "Bind" ∷ codes "Overflow" ∷ codes "Div" ∷ codes "Subscript" ∷ codes "Chr" ∷ codes "Fail" ∷ codes "Empty" ∷ codes "Option" ∷ []

abbrev pub match_exn : Val
match_exn = Exn 0 NoVals

abbrev pub bind_exn : Val
bind_exn = Exn 1 NoVals

abbrev pub overflow_exn : Val
overflow_exn = Exn 2 NoVals

abbrev pub div_exn : Val
div_exn = Exn 3 NoVals

-- their names from a number on: before the homes are placed E, and after it Rt.E
abbrev pub names_from : ℕ → List Part → List (Name × Val)
names_from k [] = []
names_from k (x ∷ xs) = (x ∷ [], Nam k) ∷ (codes "Rt" ∷ x ∷ [], Nam k) ∷ names_from (suc k) xs

-- before the first unit
abbrev pub basis_scope : Scope
basis_scope = record { env = values_of (names_from 0 basis_exceptions); own = empty }

abbrev pub basis_state : St
basis_state = record { mem = []; exns = basis_exceptions; out = [] }

-- ---- primitives

abbrev pub left : Exp
left = Var left_name

abbrev pub right : Exp
right = Var right_name

abbrev pub pair_pat : Pat
pair_pat = PTup (PMore (PVar left_name) (PMore (PVar right_name) PNil))

-- fun left -> b, and fun (left, right) -> b, as values
abbrev pub of_one : Exp → Val
of_one b = Clo Stuck (Rule (PVar left_name) b Stop)

abbrev pub of_pair : Exp → Val
of_pair b = Clo Stuck (Rule pair_pat b Stop)

abbrev pub comparing : Comparison → Val
comparing o = of_pair (infix_of (Compare o) left right)

-- the greatest and the least int
abbrev pub greatest : Exp
greatest = Lit (Int (pos 4611686018427387903))

abbrev pub least : Exp
least = Lit (Int (negsuc 4611686018427387903))

abbrev pub zero_exp : Exp
zero_exp = Lit (Int (pos 0))

abbrev pub is_below : Exp → Exp → Exp
is_below a b = infix_of (Compare Less) a b

abbrev pub is_same : Exp → Exp → Exp
is_same a b = infix_of (Compare Equal) a b

abbrev pub raised : Val → Exp
raised v = call (Is (Prim Raise NoVals)) (Is v)

-- left + right, or Overflow: where right is negative, if left < least - right; else if greatest - right < left
abbrev pub adding : Exp
adding =
    choice (is_below right zero_exp)
    (choice (is_below left (infix_of (Arith Minus) least right)) (raised overflow_exn) (infix_of (Arith Plus) left right))
    (choice (is_below (infix_of (Arith Minus) greatest right) left) (raised overflow_exn) (infix_of (Arith Plus) left right))

-- left - right, or Overflow: where right is negative, if greatest + right < left; else if left < least + right
abbrev pub subtracting : Exp
subtracting =
    choice (is_below right zero_exp)
    (choice (is_below (infix_of (Arith Plus) greatest right) left) (raised overflow_exn) (infix_of (Arith Minus) left right))
    (choice (is_below left (infix_of (Arith Plus) least right)) (raised overflow_exn) (infix_of (Arith Minus) left right))

abbrev pub minus_one_exp : Exp
minus_one_exp = Lit (Int (negsuc 0))

-- - left, or Overflow: the least int has no negation
abbrev pub negating : Exp
negating = choice (is_same left least) (raised overflow_exn) (infix_of (Arith Minus) zero_exp left)

abbrev pub without_sign : Exp
without_sign = choice (is_below left zero_exp) negating left

-- left / right, rounded towards 0, and what remains
abbrev pub quotient : Exp
quotient = infix_of (Arith Divide) left right

abbrev pub remainder : Exp
remainder = infix_of (Arith Modulo) left right

-- a where the remainder has not the divisor's sign, and else b
abbrev pub by_signs : Exp → Exp → Exp
by_signs a b = choice (is_below right zero_exp) (choice (is_below zero_exp remainder) a b) (choice (is_below remainder zero_exp) a b)

-- left div right, rounded down: Div where right is 0, and Overflow where it is ~1 and left the least int
abbrev pub dividing : Exp
dividing =
    choice (is_same right zero_exp) (raised div_exn)
    (choice (is_same right minus_one_exp) negating (by_signs (infix_of (Arith Minus) quotient (Lit (Int (pos 1)))) quotient))

-- left mod right, which has the sign of right: Div where right is 0
abbrev pub remaining : Exp
remaining = choice (is_same right zero_exp) (raised div_exn) (by_signs (infix_of (Arith Plus) remainder right) remainder)

-- The rows that are built, by their numbers: the rows of the table of the initial basis are numbered in its order, an
-- overloaded name having one for each of its types, in the order int, word, char, string. A word is its number.
abbrev pub rows : List (ℕ × Val)
rows =
    (2, of_pair adding) ∷ (4, of_pair subtracting) ∷ (8, of_pair dividing) ∷ (10, of_pair remaining) ∷ (12, of_one negating) ∷
    (13, of_one without_sign) ∷ (14, comparing Less) ∷ (15, comparing Less) ∷ (16, comparing Less) ∷ (17, comparing Less) ∷
    (18, comparing LessEqual) ∷ (19, comparing LessEqual) ∷ (20, comparing LessEqual) ∷ (21, comparing LessEqual) ∷ (22, comparing Greater) ∷
    (23, comparing Greater) ∷ (24, comparing Greater) ∷ (25, comparing Greater) ∷ (26, comparing GreaterEqual) ∷ (27, comparing GreaterEqual) ∷
    (28, comparing GreaterEqual) ∷ (29, comparing GreaterEqual) ∷ (30, Prim Not NoVals) ∷ (31, of_one unit_exp) ∷ (32, of_pair left) ∷
    (33, Prim Deref NoVals) ∷ (34, of_pair (infix_of Assign left right)) ∷ (35, Prim PrintString NoVals) ∷ (37, Prim StringLength NoVals) ∷ []

abbrev pub row_in : ℕ → List (ℕ × Val) → Option Val
row_in n [] = None
row_in n (row ∷ rest) = if nat_eq n row.0 then Some row.1 else row_in n rest

-- equality at the types that need no dictionary: at int, word, char and string by value, at references by identity
abbrev pub equals : List (ℕ × Val)
equals =
    (0, comparing Equal) ∷ (1, comparing Equal) ∷ (2, comparing Equal) ∷ (3, comparing Equal) ∷ (7, of_pair (infix_of Identical left right)) ∷ []

abbrev pub differs : List (ℕ × Val)
differs =
    let no : Exp → Val = λ e. of_pair (call (Is (Prim Not NoVals)) e) in
    let apart : Val = no (infix_of (Compare Equal) left right) in
    (0, apart) ∷ (1, apart) ∷ (2, apart) ∷ (3, apart) ∷ (7, no (infix_of Identical left right)) ∷ []

abbrev pub equality : List (ℕ × Val) → Option ℕ → Option Val
equality table None = None
equality table (Some name) = row_in name table

-- the value of a row; that of = and <> is by the type name of what is compared
abbrev pub prim_value : ℕ → Option ℕ → Option Val
prim_value n compared =
    if nat_eq n 0 then equality equals compared else (if nat_eq n 1 then equality differs compared else row_in n rows)
