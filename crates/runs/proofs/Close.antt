-- Values put in one after the other.
use Rattle.std.proofs.Common.{◌≡◌, List, [], ◌∷◌, Option, Some, None, Bool, true, false, if◌then◌else◌, slice_get, refl, ap, ap₂, ◌∙◌}
use Rattle.runs.specs.Env.{Env, binds, binds_any, close, close_all, close_funs, close_pat, close_pats, close_rules, close_tag, empty, first, found, found_env, found_or, group, hide, kept, names, over, put, put_into, tag_or, through, under, var_or}
use Rattle.runs.specs.Names.{Name, Part, same, same_part}
use Rattle.runs.specs.Patterns.{both, content, layer, matched, matched_all, no_match, same_const, tagged}
use Rattle.runs.specs.Scope.{Scope, held, scope_of}
use Rattle.runs.specs.Tree.{Absent, Broken, Case, Con, Cons, Datum, Drawn, Exn, Exp, Exps, Fail, Fn, Found, Fun, Funs, Group, Held, Hold, InMod, InStruct, Is, Item, LetMod, Lit, Loc, Nam, Named, NewExn, Nil, NoFuns, NoVals, Node, PAny, PCell, PCon, PExn, PLayer, PLit, PMore, PNil, PTup, PVar, Pat, Pats, Rec, Rule, Rules, Stop, StructOf, Tag, There, Try, Tup, Val, Vals, Var}
use mathlib.Core.Path.{fun_ext}

hide_first : (b : Bool) (o p : Option Val) → first (if b then None else o) (if b then None else p) ≡ (if b then None else first o p)
hide_first true o p = refl
hide_first false o p = refl

pub hide_over : (bound : Name → Bool) (a b : Env) → over (hide bound a) (hide bound b) ≡ hide bound (over a b)
hide_over bound a b = fun_ext (λ y. hide_first (bound y) (a y) (b y))

pub hide_same : (f g : Name → Bool) (env : Env) → ((y : Name) → f y ≡ g y) → hide f env ≡ hide g env
hide_same f g env h = ap (λ c. hide c env) (fun_ext h)

-- patterns and groups bind the same names when they are closed
mutual
  pub binds_close : (env : Env) (p : Pat) (y : Name) → binds (close_pat env p) y ≡ binds p y
  binds_close env PAny y = refl
  binds_close env (PVar x) y = refl
  binds_close env (PLit n) y = refl
  binds_close env (PTup ps) y = any_close env ps y
  binds_close env (PCon c ps) y = any_close env ps y
  binds_close env (PExn t ps) y = any_close env ps y
  binds_close env (PCell p) y = binds_close env p y
  binds_close env (PLayer x p) y = ap (λ b. if same x y then true else b) (binds_close env p y)

  any_close : (env : Env) (ps : Pats) (y : Name) → binds_any (close_pats env ps) y ≡ binds_any ps y
  any_close env PNil y = refl
  any_close env (PMore p ps) y = ap₂ (λ b c. if b then true else c) (binds_close env p y) (any_close env ps y)

pub names_close : (env : Env) (fs : Funs) (y : Name) → names (close_funs env fs) y ≡ names fs y
names_close env NoFuns y = refl
names_close env (Fun g f rs fs) y = ap (λ b. if same g y then true else b) (names_close env fs y)

close_var : (y : Name) (o : Option Val) (b : Env) → close b (var_or y o) ≡ var_or y (first o (b y))
close_var y None b = refl
close_var y (Some v) b = refl

tag_case : (x : Name) (o : Option Val) (b : Env) → close_tag b (tag_or x o) ≡ tag_or x (first o (b x))
tag_case x None b = refl
tag_case x (Some (Nam k)) b = refl
tag_case x (Some _) b = refl

tag_over : (a b : Env) (t : Tag) → close_tag b (close_tag a t) ≡ close_tag (over a b) t
tag_over a b (Named x) = tag_case x (a x) b
tag_over a b (Drawn k) = refl
tag_over a b Broken = refl

mutual
  pub pat_over : (a b : Env) (p : Pat) → close_pat b (close_pat a p) ≡ close_pat (over a b) p
  pat_over a b PAny = refl
  pat_over a b (PVar x) = refl
  pat_over a b (PLit n) = refl
  pat_over a b (PTup ps) = ap PTup (pats_over a b ps)
  pat_over a b (PCon c ps) = ap (PCon c) (pats_over a b ps)
  pat_over a b (PExn t ps) = ap₂ (λ u qs. PExn u qs) (tag_over a b t) (pats_over a b ps)
  pat_over a b (PCell p) = ap PCell (pat_over a b p)
  pat_over a b (PLayer x p) = ap (PLayer x) (pat_over a b p)

  pats_over : (a b : Env) (ps : Pats) → close_pats b (close_pats a ps) ≡ close_pats (over a b) ps
  pats_over a b PNil = refl
  pats_over a b (PMore p ps) = ap₂ (λ q qs. PMore q qs) (pat_over a b p) (pats_over a b ps)

rule_eq : {p q : Pat} {a b : Exp} {rs qs : Rules} → p ≡ q → a ≡ b → rs ≡ qs → Rule p a rs ≡ Rule q b qs
rule_eq {q = q} {a = a} {b = b} {rs = rs} e f g = ap (λ x. Rule x a rs) e ∙ ap (λ x. Rule q x rs) f ∙ ap (λ x. Rule q b x) g

-- values that were put into a tree
found_kept : (o : Option Val) → found (kept o) ≡ o
found_kept None = refl
found_kept (Some v) = refl

kept_found : (f : Found) → kept (found f) ≡ f
kept_found Absent = refl
kept_found (There v) = refl

pub scope_held : (c : Scope) → scope_of (held c) ≡ c
scope_held c = ap₂ (λ e o. record { env = e; own = o }) (fun_ext (λ y. found_kept (c.env y))) (fun_ext (λ y. found_kept (c.own y)))

pub held_scope : (h : Held) → held (scope_of h) ≡ h
held_scope (Hold e o) = ap₂ (λ x y. Hold x y) (fun_ext (λ y. kept_found (e y))) (fun_ext (λ y. kept_found (o y)))

into_case : (f : Found) (o p : Option Val) → found_or (found_or f o) p ≡ found_or f (first o p)
into_case Absent None p = refl
into_case Absent (Some v) p = refl
into_case (There v) o p = refl

put_into_put : (e : Name → Found) (a b : Env) → put_into (put_into e a) b ≡ put_into e (over a b)
put_into_put e a b = fun_ext (λ y. into_case (e y) (a y) (b y))

into_none : (f : Found) → found_or f None ≡ f
into_none Absent = refl
into_none (There v) = refl

put_into_empty : (e : Name → Found) → put_into e empty ≡ e
put_into_empty e = fun_ext (λ y. into_none (e y))

found_first : (f : Found) (o : Option Val) → found (found_or f o) ≡ first (found f) o
found_first Absent o = found_kept o
found_first (There v) o = refl

pub found_put : (e : Name → Found) (a : Env) → found_env (put_into e a) ≡ over (found_env e) a
found_put e a = fun_ext (λ y. found_first (e y) (a y))

over_case : (o p q : Option Val) → first (first o p) q ≡ first o (first p q)
over_case None p q = refl
over_case (Some v) p q = refl

pub over_over : (a b c : Env) → over (over a b) c ≡ over a (over b c)
over_over a b c = fun_ext (λ y. over_case (a y) (b y) (c y))

none_last : (o : Option Val) → first o None ≡ o
none_last None = refl
none_last (Some v) = refl

pub over_empty : (a : Env) → over a empty ≡ a
over_empty a = fun_ext (λ y. none_last (a y))

-- a structure hides the paths through its name
under_if : (c : Bool) (o a b : Option Val) → first (if c then None else a) (if c then o else b) ≡ (if c then o else first a b)
under_if true o a b = refl
under_if false o a b = refl

under_case : (p : Part) (g a b : Env) (y : Name) → over (hide (through p) a) (under p g b) y ≡ under p g (over a b) y
under_case p g a b [] = refl
under_case p g a b (q ∷ []) = refl
under_case p g a b (q ∷ r ∷ x) = under_if (same_part p q) (g (r ∷ x)) (a (q ∷ r ∷ x)) (b (q ∷ r ∷ x))

pub under_hidden : (p : Part) (g a b : Env) → over (hide (through p) a) (under p g b) ≡ under p g (over a b)
under_hidden p g a b = fun_ext (λ y. under_case p g a b y)

mutual
  pub close_close : (a b : Env) (e : Exp) → close b (close a e) ≡ close (over a b) e
  close_close a b (Is w) = refl
  close_close a b (Fail w) = refl
  close_close a b (Lit n) = refl
  close_close a b (Var y) = close_var y (a y) b
  close_close a b (Fn f rs) = ap (Fn f) (close_close_rules a b rs)
  close_close a b (Group fs e) =
      ap₂ (λ gs t. Group gs t)
      (ap (λ c. close_funs c (close_funs (hide (names fs) a) fs)) (hide_same _ _ b (names_close (hide (names fs) a) fs)) ∙ close_close_funs (hide (names fs) a) (hide (names fs) b) fs ∙ ap (λ c. close_funs c fs) (hide_over (names fs) a b))
      (ap (λ c. close c (close (hide (names fs) a) e)) (hide_same _ _ b (names_close (hide (names fs) a) fs)) ∙ close_close (hide (names fs) a) (hide (names fs) b) e ∙ ap (λ c. close c e) (hide_over (names fs) a b))
  close_close a b (Node op es) = ap (Node op) (close_close_all a b es)
  close_close a b (Case f d rs) = ap₂ (λ x y. Case f x y) (close_close a b d) (close_close_rules a b rs)
  close_close a b (NewExn y e) = ap (NewExn y) (close_close (hide (same y) a) (hide (same y) b) e ∙ ap (λ c. close c e) (hide_over (same y) a b))
  close_close a b (LetMod e p is t) =
      ap₂ (λ e1 t1. LetMod e1 p is t1) (put_into_put e a b) (close_close (hide (through p) a) (hide (through p) b) t ∙ ap (λ c. close c t) (hide_over (through p) a b))
  close_close a b (InMod p w t) = refl
  close_close a b (StructOf e is) = ap (λ e1. StructOf e1 is) (put_into_put e a b)
  close_close a b (InStruct w) = refl
  close_close a b (Try d rs) = ap₂ (λ x y. Try x y) (close_close a b d) (close_close_rules a b rs)

  close_close_all : (a b : Env) (es : Exps) → close_all b (close_all a es) ≡ close_all (over a b) es
  close_close_all a b Nil = refl
  close_close_all a b (Cons e es) = ap₂ Cons (close_close a b e) (close_close_all a b es)

  pub close_close_rules : (a b : Env) (rs : Rules) → close_rules b (close_rules a rs) ≡ close_rules (over a b) rs
  close_close_rules a b Stop = refl
  close_close_rules a b (Rule p e rs) =
      rule_eq (pat_over a b p)
      (ap (λ c. close c (close (hide (binds p) a) e)) (hide_same _ _ b (binds_close a p)) ∙ close_close (hide (binds p) a) (hide (binds p) b) e ∙ ap (λ c. close c e) (hide_over (binds p) a b))
      (close_close_rules a b rs)

  pub close_close_funs : (a b : Env) (fs : Funs) → close_funs b (close_funs a fs) ≡ close_funs (over a b) fs
  close_close_funs a b NoFuns = refl
  close_close_funs a b (Fun g f rs fs) = ap₂ (λ x y. Fun g f x y) (close_close_rules a b rs) (close_close_funs a b fs)

abbrev pub is_some : Option Val → Bool
is_some None = false
is_some (Some v) = true

first_none : (o : Option Val) → first o None ≡ o
first_none None = refl
first_none (Some v) = refl

bound_first : (c : Bool) (o p : Option Val) → is_some o ≡ c → first (if c then None else p) o ≡ first o p
bound_first true None p h = absurd (cc h)
bound_first true (Some v) p h = refl
bound_first false None p h = first_none p
bound_first false (Some v) p h = absurd (cc h)

-- the values of bound variables, after the values of what stands round them
pub close_bound : (bound : Name → Bool) (b env : Env) (e : Exp) → ((y : Name) → is_some (b y) ≡ bound y) → close b (close (hide bound env) e) ≡ close (over b env) e
close_bound bound b env e dom = close_close (hide bound env) b e ∙ ap (λ c. close c e) (fun_ext (λ y. bound_first (bound y) (b y) (env y) (dom y)))

pub some_if : (b : Bool) (v : Val) → is_some (if b then Some v else None) ≡ b
some_if true v = refl
some_if false v = refl

put_first : (b : Bool) (o : Option Val) (v : Val) → first (if b then Some v else None) o ≡ (if b then Some v else o)
put_first true o v = refl
put_first false o v = refl

pub close_put : (x : Name) (v : Val) (env : Env) (e : Exp) → close (put x v empty) (close (hide (same x) env) e) ≡ close (put x v env) e
close_put x v env e = close_bound (same x) (put x v empty) env e (λ y. some_if (same x y) v) ∙ ap (λ c. close c e) (fun_ext (λ y. put_first (same x y) (env y) v))

pub group_dom : (env : Env) (fs : Funs) (y : Name) → is_some (group (close_funs env fs) y) ≡ names fs y
group_dom env fs y = some_if (names (close_funs env fs) y) (Rec (close_funs env fs) y) ∙ names_close env fs y

-- nothing put in
abbrev no_val : Option Val
no_val = None

hide_none : (b : Bool) → (if b then no_val else no_val) ≡ no_val
hide_none true = refl
hide_none false = refl

hide_empty : (bound : Name → Bool) → hide bound empty ≡ empty
hide_empty bound = fun_ext (λ y. hide_none (bound y))

tag_empty : (t : Tag) → close_tag empty t ≡ t
tag_empty (Named x) = refl
tag_empty (Drawn k) = refl
tag_empty Broken = refl

mutual
  pub pat_empty : (p : Pat) → close_pat empty p ≡ p
  pat_empty PAny = refl
  pat_empty (PVar x) = refl
  pat_empty (PLit n) = refl
  pat_empty (PTup ps) = ap PTup (pats_empty ps)
  pat_empty (PCon c ps) = ap (PCon c) (pats_empty ps)
  pat_empty (PExn t ps) = ap₂ (λ u qs. PExn u qs) (tag_empty t) (pats_empty ps)
  pat_empty (PCell p) = ap PCell (pat_empty p)
  pat_empty (PLayer x p) = ap (PLayer x) (pat_empty p)

  pats_empty : (ps : Pats) → close_pats empty ps ≡ ps
  pats_empty PNil = refl
  pats_empty (PMore p ps) = ap₂ (λ q qs. PMore q qs) (pat_empty p) (pats_empty ps)

mutual
  pub close_empty : (e : Exp) → close empty e ≡ e
  close_empty (Is w) = refl
  close_empty (Fail w) = refl
  close_empty (Lit n) = refl
  close_empty (Var y) = refl
  close_empty (Fn f rs) = ap (Fn f) (rules_empty rs)
  close_empty (Group fs e) = ap₂ (λ gs t. Group gs t) (ap (λ c. close_funs c fs) (hide_empty (names fs)) ∙ funs_empty fs) (ap (λ c. close c e) (hide_empty (names fs)) ∙ close_empty e)
  close_empty (Node op es) = ap (Node op) (close_empty_all es)
  close_empty (Case f d rs) = ap₂ (λ x y. Case f x y) (close_empty d) (rules_empty rs)
  close_empty (NewExn y e) = ap (NewExn y) (ap (λ c. close c e) (hide_empty (same y)) ∙ close_empty e)
  close_empty (LetMod e p is t) = ap₂ (λ e1 t1. LetMod e1 p is t1) (put_into_empty e) (ap (λ c. close c t) (hide_empty (through p)) ∙ close_empty t)
  close_empty (InMod p w t) = refl
  close_empty (StructOf e is) = ap (λ e1. StructOf e1 is) (put_into_empty e)
  close_empty (InStruct w) = refl
  close_empty (Try d rs) = ap₂ (λ x y. Try x y) (close_empty d) (rules_empty rs)

  close_empty_all : (es : Exps) → close_all empty es ≡ es
  close_empty_all Nil = refl
  close_empty_all (Cons e es) = ap₂ Cons (close_empty e) (close_empty_all es)

  pub rules_empty : (rs : Rules) → close_rules empty rs ≡ rs
  rules_empty Stop = refl
  rules_empty (Rule p e rs) = rule_eq (pat_empty p) (ap (λ c. close c e) (hide_empty (binds p)) ∙ close_empty e) (rules_empty rs)

  pub funs_empty : (fs : Funs) → close_funs empty fs ≡ fs
  funs_empty NoFuns = refl
  funs_empty (Fun g f rs fs) = ap₂ (λ x y. Fun g f x y) (rules_empty rs) (funs_empty fs)

-- a pattern that takes a value gives values to its own variables
abbrev pub Dom : Option Env → (Name → Bool) → Type 0
Dom None f = Unit {0}
Dom (Some b) f = (y : Name) → is_some (b y) ≡ f y

dom_if : (c : Bool) (o : Option Env) (f : Name → Bool) → Dom o f → Dom (if c then o else no_match) f
dom_if true o f h = h
dom_if false o f h = tt

dom_content : (o : Option Val) (g : Val → Option Env) (f : Name → Bool) → ((v : Val) → Dom (g v) f) → Dom (content o g) f
dom_content None g f h = tt
dom_content (Some v) g f h = h v

put_some : (c : Bool) (v : Val) (o : Option Val) → is_some (if c then Some v else o) ≡ (if c then true else is_some o)
put_some true v o = refl
put_some false v o = refl

dom_layer : (x : Name) (v : Val) (o : Option Env) (f : Name → Bool) → Dom o f → Dom (layer x v o) (λ y. if same x y then true else f y)
dom_layer x v None f h = tt
dom_layer x v (Some b) f h = λ y. put_some (same x y) v (b y) ∙ ap (λ c. if same x y then true else c) (h y)

some_first : (o p : Option Val) → is_some (first o p) ≡ (if is_some o then true else is_some p)
some_first None p = refl
some_first (Some v) p = refl

dom_both : (o p : Option Env) (f g : Name → Bool) → Dom o f → Dom p g → Dom (both o p) (λ y. if f y then true else g y)
dom_both None p f g h k = tt
dom_both (Some a) None f g h k = tt
dom_both (Some a) (Some b) f g h k = λ y. some_first (a y) (b y) ∙ ap₂ (λ c d. if c then true else d) (h y) (k y)

mutual
  pub matched_dom : (m : List Val) (p : Pat) (v : Val) → Dom (matched m p v) (binds p)
  matched_dom m PAny v = λ y. refl
  matched_dom m (PVar x) v = λ y. some_if (same x y) v
  matched_dom m (PLit n) (Datum j) = dom_if (same_const n j) (Some empty) (λ y. false) (λ y. refl)
  matched_dom m (PTup ps) (Tup vs) = all_dom m ps vs
  matched_dom m (PCon c ps) (Con d vs) = dom_if (same_part c d) (matched_all m ps vs) (binds_any ps) (all_dom m ps vs)
  matched_dom m (PExn t ps) (Exn j vs) = dom_if (tagged t j) (matched_all m ps vs) (binds_any ps) (all_dom m ps vs)
  matched_dom m (PCell p) (Loc l) = dom_content (slice_get m l) (λ v. matched m p v) (binds p) (λ v. matched_dom m p v)
  matched_dom m (PLayer x p) v = dom_layer x v (matched m p v) (binds p) (matched_dom m p v)
  matched_dom m _ _ = tt

  all_dom : (m : List Val) (ps : Pats) (vs : Vals) → Dom (matched_all m ps vs) (binds_any ps)
  all_dom m PNil NoVals = λ y. refl
  all_dom m (PMore p ps) (Item v vs) = dom_both (matched m p v) (matched_all m ps vs) (binds p) (binds_any ps) (matched_dom m p v) (all_dom m ps vs)
  all_dom m _ _ = tt

-- the values of a structure put in, after the values of what stands round it
pub close_under : (p : Part) (g env : Env) (e : Exp) → close (under p g empty) (close (hide (through p) env) e) ≡ close (under p g env) e
close_under p g env e = close_close (hide (through p) env) (under p g empty) e ∙ ap (λ c. close c e) (under_hidden p g env empty ∙ ap (under p g) (over_empty env))
