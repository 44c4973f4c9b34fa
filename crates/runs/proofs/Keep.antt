-- A text stays ordered while it runs.
use Rattle.std.proofs.Common.{ℕ, zero, suc, inl, inr, List, [], ◌∷◌, ◌++◌, Option, Some, None, Bool, true, false, nat_eq, if◌then◌else◌, slice_get, slice_set, ℤ}
use Rattle.runs.proofs.Still.{still_close, stills_close}
use Rattle.runs.specs.Env.{Env, binds, close, close_all, close_funs, close_rules, empty, fields, first, found, found_env, found_or, group, hide, kept, names, over, put, through, var_or}
use Rattle.runs.specs.Ints.{arithmetic}
use Rattle.runs.specs.Names.{Name, same, same_part}
use Rattle.runs.specs.Ordered.{AllOrdered, OneActive, Ordered, OrderedEnv, OrderedFall, OrderedFound, OrderedFuns, OrderedMem, OrderedOpt, OrderedRules, OrderedVal, OrderedVals}
use Rattle.runs.specs.Patterns.{both, content, layer, matched, matched_all, no_match, same_const, tagged}
use Rattle.runs.specs.Primitives.{Calls, Gives, Next, St, Throws, act, as_truth, calls, char_at, char_chr, compare, const_of, find, gives, int_of, length_of, list_of, negated, oper, part_of, prim, prim_one, prim_three, prim_two, pure_val, times_of, truth, truth_of}
use Rattle.runs.specs.Tree.{Absent, Apply, Arith, Assign, Build, Case, Char, CharChr, CharCode, Clo, Compare, Con, Concat, Cons, Const, Datum, Deref, Exn, Exp, Exps, Fail, Fall, Fn, Found, Fun, Funs, Group, Identical, InMod, InStruct, Int, Is, Item, LetMod, ListOf, Lit, Loc, Make, Module, Nam, NewExn, Nil, NoFuns, NoVals, Node, Not, Op, Oper, Operator, PAny, PCell, PCon, PExn, PLayer, PLit, PMore, PNil, PTup, PVar, Pair, Pat, Pats, Prim, Primitive, PrintString, Raise, Rec, Ref, Rule, Rules, Stop, Str, StringGet, StringLength, StringMake, StringOfInt, StringSub, StructOf, There, Try, Tup, Val, Vals, Var}

pub if_opt : (b : Bool) (o p : Option Val) → OrderedOpt o → OrderedOpt p → OrderedOpt (if b then o else p)
if_opt true o p h g = h
if_opt false o p h g = g

pub put_ordered : (x : Name) (v : Val) (env : Env) → OrderedVal v → OrderedEnv env → OrderedEnv (put x v env)
put_ordered x v env hv h = λ y. if_opt (same x y) (Some v) (env y) hv (h y)

pub hide_ordered : (bound : Name → Bool) (env : Env) → OrderedEnv env → OrderedEnv (hide bound env)
hide_ordered bound env h = λ y. if_opt (bound y) None (env y) tt (h y)

first_ordered : (o p : Option Val) → OrderedOpt o → OrderedOpt p → OrderedOpt (first o p)
first_ordered None p h g = g
first_ordered (Some v) p h g = h

pub over_ordered : (a b : Env) → OrderedEnv a → OrderedEnv b → OrderedEnv (over a b)
over_ordered a b h g = λ y. first_ordered (a y) (b y) (h y) (g y)

pub group_ordered : (fs : Funs) → OrderedFuns fs → OrderedEnv (group fs)
group_ordered fs h = λ y. if_opt (names fs y) (Some (Rec fs y)) None h tt

pub empty_ordered : OrderedEnv empty
empty_ordered = λ y. tt

var_ordered : (y : Name) (o : Option Val) → OrderedOpt o → Ordered (var_or y o)
var_ordered y None h = tt
var_ordered y (Some v) h = h

active_close : (env : Env) (es : Exps) → OneActive es → OneActive (close_all env es)
active_close env Nil h = tt
active_close env (Cons e es) (inl h) = inl (still_close env e h.0, active_close env es h.1)
active_close env (Cons e es) (inr h) = inr (stills_close env es h)

pub kept_ordered : (o : Option Val) → OrderedOpt o → OrderedFound (kept o)
kept_ordered None h = tt
kept_ordered (Some v) h = h

found_ordered : (f : Found) (o : Option Val) → OrderedFound f → OrderedOpt o → OrderedFound (found_or f o)
found_ordered Absent o h k = kept_ordered o k
found_ordered (There v) o h k = h

opt_ordered : (f : Found) → OrderedFound f → OrderedOpt (found f)
opt_ordered Absent h = tt
opt_ordered (There v) h = h

pub held_ordered : (e : Name → Found) → ((x : Name) → OrderedFound (e x)) → OrderedEnv (found_env e)
held_ordered e h = λ x. opt_ordered (e x) (h x)

pub fields_ordered : (v : Val) → OrderedVal v → OrderedEnv (fields v)
fields_ordered (Module e) h = held_ordered e h
fields_ordered _ h = empty_ordered

mutual
  pub ordered_close : (env : Env) (e : Exp) → OrderedEnv env → Ordered e → Ordered (close env e)
  ordered_close env (Is w) he h = h
  ordered_close env (Fail w) he h = h
  ordered_close env (Lit n) he h = tt
  ordered_close env (Var y) he h = var_ordered y (env y) (he y)
  ordered_close env (Fn f rs) he h = (h.0, rules_ordered_close env rs he h.1)
  ordered_close env (Group fs b) he h = let hd = hide_ordered (names fs) env he in (funs_ordered_close (hide (names fs) env) fs hd h.0, ordered_close (hide (names fs) env) b hd h.1)
  ordered_close env (Node op es) he h = (active_close env es h.0, all_ordered_close env es he h.1)
  ordered_close env (Case f a rs) he h = (h.0, ordered_close env a he h.1, rules_ordered_close env rs he h.2)
  ordered_close env (NewExn y b) he h = ordered_close (hide (same y) env) b (hide_ordered (same y) env he) h
  ordered_close env (LetMod e p is b) he h = ((λ x. found_ordered (e x) (env x) (h.0 x) (he x)), h.1, ordered_close (hide (through p) env) b (hide_ordered (through p) env he) h.2)
  ordered_close env (InMod p w b) he h = absurd h
  ordered_close env (StructOf e is) he h = ((λ x. found_ordered (e x) (env x) (h.0 x) (he x)), h.1)
  ordered_close env (InStruct w) he h = absurd h
  ordered_close env (Try a rs) he h = (ordered_close env a he h.0, rules_ordered_close env rs he h.1)

  pub all_ordered_close : (env : Env) (es : Exps) → OrderedEnv env → AllOrdered es → AllOrdered (close_all env es)
  all_ordered_close env Nil he h = tt
  all_ordered_close env (Cons e es) he h = (ordered_close env e he h.0, all_ordered_close env es he h.1)

  pub rules_ordered_close : (env : Env) (rs : Rules) → OrderedEnv env → OrderedRules rs → OrderedRules (close_rules env rs)
  rules_ordered_close env Stop he h = tt
  rules_ordered_close env (Rule p b rs) he h = (ordered_close (hide (binds p) env) b (hide_ordered (binds p) env he) h.0, rules_ordered_close env rs he h.1)

  pub funs_ordered_close : (env : Env) (fs : Funs) → OrderedEnv env → OrderedFuns fs → OrderedFuns (close_funs env fs)
  funs_ordered_close env NoFuns he h = tt
  funs_ordered_close env (Fun g f rs fs) he h = (h.0, rules_ordered_close env rs he h.1, funs_ordered_close env fs he h.2)

mem_add : (m : List Val) (v : Val) → OrderedMem m → OrderedVal v → OrderedMem (m ++ v ∷ [])
mem_add [] v h hv = (hv, tt)
mem_add (w ∷ m) v h hv = (h.0, mem_add m v h.1 hv)

mem_get : (m : List Val) (l : ℕ) → OrderedMem m → OrderedOpt (slice_get m l)
mem_get [] l h = tt
mem_get (w ∷ m) zero h = h.0
mem_get (w ∷ m) (suc l) h = mem_get m l h.1

mem_set : (m : List Val) (l : ℕ) (v : Val) → OrderedMem m → OrderedVal v → OrderedMem (slice_set m l v)
mem_set [] l v h hv = tt
mem_set (w ∷ m) zero v h hv = (hv, h.1)
mem_set (w ∷ m) (suc l) v h hv = (h.0, mem_set m l v h.1 hv)

abbrev pub OrderedNext : Option Next → Type 0
OrderedNext None = Unit {0}
OrderedNext (Some (Gives v s)) = OrderedVal v × OrderedMem s.mem
OrderedNext (Some (Throws v s)) = OrderedVal v × OrderedMem s.mem
OrderedNext (Some (Calls env b s)) = OrderedEnv env × Ordered b × OrderedMem s.mem

gives_ordered : (o : Option Val) (s : St) → OrderedOpt o → OrderedMem s.mem → OrderedNext (gives o s)
gives_ordered None s h hm = tt
gives_ordered (Some v) s h hm = (h, hm)

list_ordered : (vs : Vals) → OrderedVals vs → OrderedVal (list_of vs)
list_ordered NoVals h = tt
list_ordered (Item v vs) h = (h.0, (list_ordered vs h.1, tt))

pub pure_ordered : (op : Op) (vs : Vals) → OrderedVals vs → OrderedOpt (pure_val op vs)
pure_ordered Pair vs h = h
pure_ordered (Build c) vs h = h
pure_ordered Make (Item (Nam k) vs) h = h.1
pure_ordered ListOf vs h = list_ordered vs h
pure_ordered _ vs h = tt

abbrev OrderedFind : Option (Fall × Rules) → Type 0
OrderedFind None = Unit {0}
OrderedFind (Some b) = OrderedFall b.0 × OrderedRules b.1

find_if : (b : Bool) (r : Fall × Rules) (o : Option (Fall × Rules)) → OrderedFall r.0 × OrderedRules r.1 → OrderedFind o → OrderedFind (if b then Some r else o)
find_if true r o h g = h
find_if false r o h g = g

find_ordered : (y : Name) (fs : Funs) → OrderedFuns fs → OrderedFind (find y fs)
find_ordered y NoFuns h = tt
find_ordered y (Fun g f rs fs) h = find_if (same g y) (f, rs) (find y fs) (h.0, h.1) (find_ordered y fs h.2)

calls_ordered : (fs : Funs) (v : Val) (s : St) (o : Option (Fall × Rules)) → OrderedFuns fs → OrderedVal v → OrderedMem s.mem → OrderedFind o → OrderedNext (calls fs v s o)
calls_ordered fs v s None h hv hm g = tt
calls_ordered fs v s (Some b) h hv hm g = (group_ordered fs h, (g.0, hv, g.1), hm)

-- constants and truth values hold no function
truth_ordered : (b : Bool) → OrderedVal (truth b)
truth_ordered true = tt
truth_ordered false = tt

const_ordered : (o : Option Const) → OrderedOpt (const_of o)
const_ordered None = tt
const_ordered (Some c) = tt

int_ordered : (o : Option ℤ) → OrderedOpt (int_of o)
int_ordered None = tt
int_ordered (Some i) = tt

truth_of_ordered : (o : Option Bool) → OrderedOpt (truth_of o)
truth_of_ordered None = tt
truth_of_ordered (Some b) = truth_ordered b

oper_ordered : (o : Operator) (a b : Val) (s : St) → OrderedVal a → OrderedVal b → OrderedMem s.mem → OrderedNext (oper o a b s)
oper_ordered (Arith o) (Datum (Int a)) (Datum (Int b)) s ha hb m = gives_ordered (int_of (arithmetic o a b)) s (int_ordered (arithmetic o a b)) m
oper_ordered (Compare o) (Datum a) (Datum b) s ha hb m = gives_ordered (truth_of (compare o a b)) s (truth_of_ordered (compare o a b)) m
oper_ordered Concat (Datum (Str a)) (Datum (Str b)) s ha hb m = (tt, m)
oper_ordered Identical (Loc l) (Loc k) s ha hb m = (truth_ordered (nat_eq l k), m)
oper_ordered Assign (Loc l) v s ha hb m = (tt, mem_set s.mem l v m hb)
oper_ordered _ a b s ha hb m = tt

one_ordered : (p : Primitive) (v : Val) (s : St) → OrderedVal v → OrderedMem s.mem → OrderedNext (prim_one p v s)
one_ordered Ref v s h m = (tt, mem_add s.mem v m h)
one_ordered Deref (Loc l) s h m = gives_ordered (slice_get s.mem l) s (mem_get s.mem l m) m
one_ordered Raise (Exn k vs) s h m = (h, m)
one_ordered Not (Con c NoVals) s h m = gives_ordered (truth_of (negated (as_truth c))) s (truth_of_ordered (negated (as_truth c))) m
one_ordered PrintString (Datum (Str t)) s h m = (tt, m)
one_ordered StringOfInt (Datum (Int i)) s h m = (tt, m)
one_ordered StringLength (Datum (Str t)) s h m = gives_ordered (int_of (length_of t)) s (int_ordered (length_of t)) m
one_ordered StringGet v s h m = ((h, tt), m)
one_ordered StringSub v s h m = ((h, tt), m)
one_ordered StringMake v s h m = ((h, tt), m)
one_ordered CharCode (Datum (Char c)) s h m = (tt, m)
one_ordered CharChr (Datum (Int i)) s h m = gives_ordered (const_of (char_chr i)) s (const_ordered (char_chr i)) m
one_ordered _ v s h m = tt

two_ordered : (p : Primitive) (v w : Val) (s : St) → OrderedVal v → OrderedVal w → OrderedMem s.mem → OrderedNext (prim_two p v w s)
two_ordered StringGet (Datum (Str t)) (Datum (Int i)) s h g m = gives_ordered (const_of (char_at t i)) s (const_ordered (char_at t i)) m
two_ordered StringSub v w s h g m = ((h, (g, tt)), m)
two_ordered StringMake (Datum (Int n)) (Datum (Char c)) s h g m = gives_ordered (const_of (times_of n c)) s (const_ordered (times_of n c)) m
two_ordered _ v w s h g m = tt

three_ordered : (p : Primitive) (u v w : Val) (s : St) → OrderedMem s.mem → OrderedNext (prim_three p u v w s)
three_ordered StringSub (Datum (Str t)) (Datum (Int i)) (Datum (Int n)) s m = gives_ordered (const_of (part_of t i n)) s (const_ordered (part_of t i n)) m
three_ordered _ u v w s m = tt

prim_ordered : (p : Primitive) (vs : Vals) (v : Val) (s : St) → OrderedVals vs → OrderedVal v → OrderedMem s.mem → OrderedNext (prim p vs v s)
prim_ordered p NoVals v s h hv m = one_ordered p v s hv m
prim_ordered p (Item u NoVals) v s h hv m = two_ordered p u v s h.0 hv m
prim_ordered p (Item t (Item u NoVals)) v s h hv m = three_ordered p t u v s m
prim_ordered p _ v s h hv m = tt

pub act_ordered : (op : Op) (vs : Vals) (s : St) → OrderedVals vs → OrderedMem s.mem → OrderedNext (act op vs s)
act_ordered Apply (Item (Clo f rs) (Item v NoVals)) s h m = (empty_ordered, (h.0.0, h.1.0, h.0.1), m)
act_ordered Apply (Item (Rec fs g) (Item v NoVals)) s h m = calls_ordered fs v s (find g fs) h.0 h.1.0 m (find_ordered g fs h.0)
act_ordered Apply (Item (Prim p vs) (Item v NoVals)) s h m = prim_ordered p vs v s h.0 h.1.0 m
act_ordered Pair vs s h m = (h, m)
act_ordered (Build c) vs s h m = (h, m)
act_ordered Make vs s h m = gives_ordered (pure_val Make vs) s (pure_ordered Make vs h) m
act_ordered ListOf vs s h m = (list_ordered vs h, m)
act_ordered (Oper o) (Item a (Item b NoVals)) s h m = oper_ordered o a b s h.0 h.1.0 m
act_ordered _ _ s h m = tt

-- what a pattern takes from ordered values is ordered
abbrev pub OrderedMatch : Option Env → Type 0
OrderedMatch None = Unit {0}
OrderedMatch (Some b) = OrderedEnv b

match_if : (c : Bool) (o : Option Env) → OrderedMatch o → OrderedMatch (if c then o else no_match)
match_if true o h = h
match_if false o h = tt

match_content : (o : Option Val) (g : Val → Option Env) → OrderedOpt o → ((v : Val) → OrderedVal v → OrderedMatch (g v)) → OrderedMatch (content o g)
match_content None g h k = tt
match_content (Some v) g h k = k v h

match_layer : (x : Name) (v : Val) (o : Option Env) → OrderedVal v → OrderedMatch o → OrderedMatch (layer x v o)
match_layer x v None hv h = tt
match_layer x v (Some b) hv h = put_ordered x v b hv h

match_both : (o p : Option Env) → OrderedMatch o → OrderedMatch p → OrderedMatch (both o p)
match_both None p h k = tt
match_both (Some a) None h k = tt
match_both (Some a) (Some b) h k = over_ordered a b h k

mutual
  pub matched_ordered : (m : List Val) (p : Pat) (v : Val) → OrderedMem m → OrderedVal v → OrderedMatch (matched m p v)
  matched_ordered m PAny v hm h = empty_ordered
  matched_ordered m (PVar x) v hm h = put_ordered x v empty h empty_ordered
  matched_ordered m (PLit n) (Datum j) hm h = match_if (same_const n j) (Some empty) empty_ordered
  matched_ordered m (PTup ps) (Tup vs) hm h = all_matched m ps vs hm h
  matched_ordered m (PCon c ps) (Con d vs) hm h = match_if (same_part c d) (matched_all m ps vs) (all_matched m ps vs hm h)
  matched_ordered m (PExn t ps) (Exn j vs) hm h = match_if (tagged t j) (matched_all m ps vs) (all_matched m ps vs hm h)
  matched_ordered m (PCell p) (Loc l) hm h = match_content (slice_get m l) (λ v. matched m p v) (mem_get m l hm) (λ v hv. matched_ordered m p v hm hv)
  matched_ordered m (PLayer x p) v hm h = match_layer x v (matched m p v) h (matched_ordered m p v hm h)
  matched_ordered m _ _ hm h = tt

  all_matched : (m : List Val) (ps : Pats) (vs : Vals) → OrderedMem m → OrderedVals vs → OrderedMatch (matched_all m ps vs)
  all_matched m PNil NoVals hm h = empty_ordered
  all_matched m (PMore p ps) (Item v vs) hm h = match_both (matched m p v) (matched_all m ps vs) (matched_ordered m p v hm h.0) (all_matched m ps vs hm h.1)
  all_matched m _ _ hm h = tt
