-- What a row of finished parts does: calls, constructors, predefined functions and operators.
use Rattle.std.specs.Prelude.{codes, ℕ, ◌+◌, ◌^◌, ℤ, pos, negsuc, int_lt, List, [], ◌∷◌, ◌++◌, length, take, drop, replicate, Option, Some, None, Bool, true, false, not, nat_eq, nat_lt, nat_le, if◌then◌else◌, slice_get, slice_set}
use Rattle.std.specs.Fmt.{signed_decimal}
use Rattle.runs.specs.Names.{Part, Name, same_part, same, last_part}
use Rattle.runs.specs.Tree.{Const, Int, Char, Str, Primitive, Ref, Deref, Raise, Not, PrintString, StringOfInt, StringLength, StringGet, StringSub, StringMake, CharCode, CharChr, Comparison, Equal, Less, LessEqual, Greater, GreaterEqual, Operator, Arith, Compare, Concat, Identical, Assign, Op, Apply, Pair, Build, Make, ListOf, Oper, Exp, Is, Fail, Case, Exps, Nil, Cons, Rules, Fall, Funs, NoFuns, Fun, Val, Datum, Tup, Con, Clo, Rec, Loc, Nam, Exn, Prim, Vals, NoVals, Item}
use Rattle.runs.specs.Env.{Env, empty, close, group}
use Rattle.runs.specs.Patterns.{same_const}
use Rattle.runs.specs.Ints.{arithmetic}

-- what a run changes: memory by place, the names of the exceptions drawn so far, and the output
pub record St : Type 0 where
  pub mem : List Val
  pub exns : List Part
  pub out : List ℕ

-- before a text runs
abbrev pub start : St
start = record { mem = []; exns = []; out = [] }

-- the state in which a new exception is drawn under the path
abbrev pub drawn : Name → St → St
drawn x s = record { mem = s.mem; exns = s.exns ++ last_part x ∷ []; out = s.out }

-- with the name of the next exception
abbrev pub next_name : St → Val
next_name s = Nam (length s.exns)

-- with more output
abbrev pub written : List ℕ → St → St
written t s = record { mem = s.mem; exns = s.exns; out = s.out ++ t }

-- with one more cell
abbrev pub with_cell : Val → St → St
with_cell v s = record { mem = s.mem ++ v ∷ []; exns = s.exns; out = s.out }

-- with another value in a cell
abbrev pub with_value : ℕ → Val → St → St
with_value l v s = record { mem = slice_set s.mem l v; exns = s.exns; out = s.out }

-- ()
abbrev pub unit : Val
unit = Tup NoVals

-- true and false are constructors
abbrev pub true_part : Part
true_part = codes "true"

abbrev pub false_part : Part
false_part = codes "false"

abbrev pub truth : Bool → Val
truth b = if b then Con true_part NoVals else Con false_part NoVals

-- [] and :: are constructors
abbrev pub nil_part : Part
nil_part = codes "[]"

abbrev pub cons_part : Part
cons_part = codes "::"

-- the list of the values
abbrev pub list_of : Vals → Val
list_of NoVals = Con nil_part NoVals
list_of (Item v vs) = Con cons_part (Item v (Item (list_of vs) NoVals))

-- finished values as parts
abbrev pub finished : Vals → Exps
finished NoVals = Nil
finished (Item v vs) = Cons (Is v) (finished vs)

-- what an operator does: it gives a value, raises one, or calls a body with these variables
pub data Next : Type 0 where
  Gives : Val → St → Next
  Throws : Val → St → Next
  Calls : Env → Exp → St → Next

-- the tree and the state that it leaves
abbrev pub tree : Next → Exp
tree (Gives v s) = Is v
tree (Throws v s) = Fail v
tree (Calls env b s) = close env b

abbrev pub state : Next → St
state (Gives v s) = s
state (Throws v s) = s
state (Calls env b s) = s

abbrev pub gives : Option Val → St → Option Next
gives None s = None
gives (Some v) s = Some (Gives v s)

-- the body of a called function
abbrev pub body : Fall → Rules → Val → Exp
body f rs v = Case f (Is v) rs

-- the function of a group
abbrev pub find : Name → Funs → Option (Fall × Rules)
find y NoFuns = None
find y (Fun g f rs fs) = if same g y then Some (f, rs) else find y fs

abbrev pub calls : Funs → Val → St → Option (Fall × Rules) → Option Next
calls fs v s None = None
calls fs v s (Some b) = Some (Calls (group fs) (body b.0 b.1 v) s)

-- an operator that only makes a value
abbrev pub pure : Op → Bool
pure Pair = true
pure (Build c) = true
pure Make = true
pure ListOf = true
pure _ = false

abbrev pub pure_val : Op → Vals → Option Val
pure_val Pair vs = Some (Tup vs)
pure_val (Build c) vs = Some (Con c vs)
pure_val Make (Item (Nam k) vs) = Some (Exn k vs)
pure_val ListOf vs = Some (list_of vs)
pure_val _ vs = None

abbrev pub const_of : Option Const → Option Val
const_of None = None
const_of (Some c) = Some (Datum c)

abbrev pub int_of : Option ℤ → Option Val
int_of None = None
int_of (Some i) = Some (Datum (Int i))

abbrev pub truth_of : Option Bool → Option Val
truth_of None = None
truth_of (Some b) = Some (truth b)

abbrev pub negated : Option Bool → Option Bool
negated None = None
negated (Some b) = Some (not b)

-- the truth value of a constructor
abbrev pub as_truth : Part → Option Bool
as_truth c = if same_part c true_part then Some true else (if same_part c false_part then Some false else None)

-- the string comes before the other
abbrev pub less_text : List ℕ → List ℕ → Bool
less_text [] [] = false
less_text [] (b ∷ q) = true
less_text (a ∷ p) [] = false
less_text (a ∷ p) (b ∷ q) = if nat_eq a b then less_text p q else nat_lt a b

-- the constants are of one kind
abbrev pub of_kind : Const → Const → Bool
of_kind (Int a) (Int b) = true
of_kind (Char a) (Char b) = true
of_kind (Str a) (Str b) = true
of_kind _ _ = false

abbrev pub less : Const → Const → Bool
less (Int a) (Int b) = int_lt a b
less (Char a) (Char b) = nat_lt a b
less (Str a) (Str b) = less_text a b
less _ _ = false

abbrev pub holds : Comparison → Const → Const → Bool
holds Equal a b = same_const a b
holds Less a b = less a b
holds LessEqual a b = not (less b a)
holds Greater a b = less b a
holds GreaterEqual a b = not (less a b)

-- comparisons are at two integers, two characters or two strings
abbrev pub compare : Comparison → Const → Const → Option Bool
compare o a b = if of_kind a b then Some (holds o a b) else None

-- a operator b
abbrev pub oper : Operator → Val → Val → St → Option Next
oper (Arith o) (Datum (Int a)) (Datum (Int b)) s = gives (int_of (arithmetic o a b)) s
oper (Compare o) (Datum a) (Datum b) s = gives (truth_of (compare o a b)) s
oper Concat (Datum (Str a)) (Datum (Str b)) s = Some (Gives (Datum (Str (a ++ b))) s)
oper Identical (Loc l) (Loc m) s = Some (Gives (truth (nat_eq l m)) s)
oper Assign (Loc l) v s = Some (Gives unit (with_value l v s))
oper _ a b s = None

-- a length that an integer can be
abbrev pub length_of : List ℕ → Option ℤ
length_of t = if nat_lt (length t) (2 ^ 62) then Some (pos (length t)) else None

abbrev pub char_of : Option ℕ → Option Const
char_of None = None
char_of (Some c) = Some (Char c)

-- the byte at the place i
abbrev pub char_at : List ℕ → ℤ → Option Const
char_at t (pos i) = char_of (slice_get t i)
char_at t (negsuc i) = None

-- n bytes from the place i on
abbrev pub part_of : List ℕ → ℤ → ℤ → Option Const
part_of t (pos i) (pos n) = if nat_le (i + n) (length t) then Some (Str (take n (drop i t))) else None
part_of t _ _ = None

-- n times the byte c
abbrev pub times_of : ℤ → ℕ → Option Const
times_of (pos n) c = Some (Str (replicate n c))
times_of (negsuc n) c = None

-- the character of this code
abbrev pub char_chr : ℤ → Option Const
char_chr (pos n) = if nat_le n 255 then Some (Char n) else None
char_chr (negsuc n) = None

-- a predefined function with its first argument
abbrev pub prim_one : Primitive → Val → St → Option Next
prim_one Ref v s = Some (Gives (Loc (length s.mem)) (with_cell v s))
prim_one Deref (Loc l) s = gives (slice_get s.mem l) s
prim_one Raise (Exn k vs) s = Some (Throws (Exn k vs) s)
prim_one Not (Con c NoVals) s = gives (truth_of (negated (as_truth c))) s
prim_one PrintString (Datum (Str t)) s = Some (Gives unit (written t s))
prim_one StringOfInt (Datum (Int i)) s = Some (Gives (Datum (Str (signed_decimal i))) s)
prim_one StringLength (Datum (Str t)) s = gives (int_of (length_of t)) s
prim_one StringGet v s = Some (Gives (Prim StringGet (Item v NoVals)) s)
prim_one StringSub v s = Some (Gives (Prim StringSub (Item v NoVals)) s)
prim_one StringMake v s = Some (Gives (Prim StringMake (Item v NoVals)) s)
prim_one CharCode (Datum (Char c)) s = Some (Gives (Datum (Int (pos c))) s)
prim_one CharChr (Datum (Int i)) s = gives (const_of (char_chr i)) s
prim_one _ v s = None

-- with its second one
abbrev pub prim_two : Primitive → Val → Val → St → Option Next
prim_two StringGet (Datum (Str t)) (Datum (Int i)) s = gives (const_of (char_at t i)) s
prim_two StringSub v w s = Some (Gives (Prim StringSub (Item v (Item w NoVals))) s)
prim_two StringMake (Datum (Int n)) (Datum (Char c)) s = gives (const_of (times_of n c)) s
prim_two _ v w s = None

-- with its third one
abbrev pub prim_three : Primitive → Val → Val → Val → St → Option Next
prim_three StringSub (Datum (Str t)) (Datum (Int i)) (Datum (Int n)) s = gives (const_of (part_of t i n)) s
prim_three _ u v w s = None

-- a predefined function with the arguments that it has so far, and one more
abbrev pub prim : Primitive → Vals → Val → St → Option Next
prim p NoVals v s = prim_one p v s
prim p (Item u NoVals) v s = prim_two p u v s
prim p (Item t (Item u NoVals)) v s = prim_three p t u v s
prim p _ v s = None

-- what an operator does with its finished parts; none where it has no rule
abbrev pub act : Op → Vals → St → Option Next
act Apply (Item (Clo f rs) (Item v NoVals)) s = Some (Calls empty (body f rs v) s)
act Apply (Item (Rec fs g) (Item v NoVals)) s = calls fs v s (find g fs)
act Apply (Item (Prim p vs) (Item v NoVals)) s = prim p vs v s
act Pair vs s = gives (pure_val Pair vs) s
act (Build c) vs s = gives (pure_val (Build c) vs) s
act Make vs s = gives (pure_val Make vs) s
act ListOf vs s = gives (pure_val ListOf vs) s
act (Oper o) (Item a (Item b NoVals)) s = oper o a b s
act _ _ s = None
