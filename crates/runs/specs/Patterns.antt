-- What a pattern takes, and the values that it gives to its variables.
use Rattle.std.specs.Prelude.{ℕ, ℤ, pos, negsuc, List, Option, Some, None, Bool, false, nat_eq, if◌then◌else◌, slice_get}
use Rattle.runs.specs.Names.{Name, same_part}
use Rattle.runs.specs.Tree.{Const, Int, Char, Str, Tag, Drawn, Pat, PAny, PVar, PLit, PTup, PCon, PExn, PCell, PLayer, Pats, PNil, PMore, Exp, Fail, Fall, Stuck, Raises, Rules, Stop, Rule, Val, Datum, Tup, Con, Loc, Exn, Vals, NoVals, Item}
use Rattle.runs.specs.Env.{Env, empty, put, over, close}

-- the integers are equal
abbrev pub same_int : ℤ → ℤ → Bool
same_int (pos a) (pos b) = nat_eq a b
same_int (negsuc a) (negsuc b) = nat_eq a b
same_int _ _ = false

-- the constants are of one kind and equal
abbrev pub same_const : Const → Const → Bool
same_const (Int a) (Int b) = same_int a b
same_const (Char a) (Char b) = nat_eq a b
same_const (Str a) (Str b) = same_part a b
same_const _ _ = false

abbrev pub layer : Name → Val → Option Env → Option Env
layer x v None = None
layer x v (Some b) = Some (put x v b)

abbrev pub both : Option Env → Option Env → Option Env
both None b = None
both (Some a) None = None
both (Some a) (Some b) = Some (over a b)

abbrev pub tagged : Tag → ℕ → Bool
tagged (Drawn k) j = nat_eq k j
tagged _ j = false

-- what a cell holds, if it is there
abbrev pub content : Option Val → (Val → Option Env) → Option Env
content None f = None
content (Some v) f = f v

abbrev pub no_match : Option Env
no_match = None

abbrev mutual
  -- the values of a pattern's variables, if it takes the value; a cell's content is read from memory
  pub matched : List Val → Pat → Val → Option Env
  matched m PAny v = Some empty
  matched m (PVar x) v = Some (put x v empty)
  matched m (PLit n) (Datum j) = if same_const n j then Some empty else no_match
  matched m (PTup ps) (Tup vs) = matched_all m ps vs
  matched m (PCon c ps) (Con d vs) = if same_part c d then matched_all m ps vs else no_match
  matched m (PExn t ps) (Exn j vs) = if tagged t j then matched_all m ps vs else no_match
  matched m (PCell p) (Loc l) = content (slice_get m l) (λ v. matched m p v)
  matched m (PLayer x p) v = layer x v (matched m p v)
  matched m _ _ = None

  pub matched_all : List Val → Pats → Vals → Option Env
  matched_all m PNil NoVals = Some empty
  matched_all m (PMore p ps) (Item v vs) = both (matched m p v) (matched_all m ps vs)
  matched_all m _ _ = None

abbrev pub taken : Option Env → Exp → Option Exp → Option Exp
taken None b rest = rest
taken (Some bs) b rest = Some (close bs b)

-- the body of the first rule that takes the value
abbrev pub pick : List Val → Rules → Val → Option Exp → Option Exp
pick m Stop v fall = fall
pick m (Rule p b rs) v fall = taken (matched m p v) b (pick m rs v fall)

abbrev pub fails : Fall → Option Exp
fails Stuck = None
fails (Raises v) = Some (Fail v)
