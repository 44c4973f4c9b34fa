-- What each run keeps: output only grows, and what is over takes no step.
use Rattle.std.proofs.Common.{◌≡◌, ℕ, zero, suc, inl, inr, Option, Some, None, slice_get, refl, sym, subst}
use Rattle.beh.proofs.Matching.{begins_same, begins_trans}
use Rattle.beh.specs.Behaviour.{Begins}
use Rattle.runs.proofs.Inevitable.{RunOf, Stepping}
use Rattle.runs.specs.Ints.{arithmetic}
use Rattle.runs.specs.Primitives.{Next, St, act, as_truth, body, calls, char_at, char_chr, compare, const_of, find, gives, int_of, length_of, negated, oper, part_of, prim, prim_one, prim_three, prim_two, pure_val, state, times_of, truth_of}
use Rattle.runs.specs.Steps.{Step, StepIn, WorkStep}
use Rattle.runs.specs.Tree.{Alias, Applied, Apply, Arith, Assign, Build, Case, Char, CharChr, CharCode, Clo, Compare, Con, Concat, Cons, Datum, Deref, Doing, End, Exception, Exn, Exp, Exps, Fail, Fall, Fn, Functions, FunctorOf, Funs, Group, Identical, InMod, InStruct, Int, Is, Item, LetMod, ListOf, Lit, Loc, Lost, Make, Making, NewExn, Nil, NoVals, Node, Not, Op, Open, Oper, Operator, Pair, Prim, Primitive, PrintString, Raise, Rec, Ref, Rest, Rules, Str, StringGet, StringLength, StringMake, StringOfInt, StringSub, Struct, StructOf, Try, Val, Vals, Value, Var, Whole, Work}

begins_eq : (s s1 : St) → s1 ≡ s → Begins s1.out s.out
begins_eq s s1 e = subst (λ (x : St). Begins x.out s.out) (sym e) (begins_same s.out)

abbrev pub Kept : Option Next → St → Type 0
Kept None s = Unit {0}
Kept (Some m) s = Begins (state m).out s.out

gives_kept : (o : Option Val) (s : St) → Kept (gives o s) s
gives_kept None s = tt
gives_kept (Some v) s = begins_same s.out

calls_kept : (fs : Funs) (v : Val) (s : St) (o : Option (Fall × Rules)) → Kept (calls fs v s o) s
calls_kept fs v s None = tt
calls_kept fs v s (Some b) = begins_same s.out

oper_kept : (o : Operator) (a b : Val) (s : St) → Kept (oper o a b s) s
oper_kept (Arith o) (Datum (Int a)) (Datum (Int b)) s = gives_kept (int_of (arithmetic o a b)) s
oper_kept (Compare o) (Datum a) (Datum b) s = gives_kept (truth_of (compare o a b)) s
oper_kept Concat (Datum (Str a)) (Datum (Str b)) s = begins_same s.out
oper_kept Identical (Loc l) (Loc k) s = begins_same s.out
oper_kept Assign (Loc l) v s = begins_same s.out
oper_kept _ a b s = tt

one_kept : (p : Primitive) (v : Val) (s : St) → Kept (prim_one p v s) s
one_kept Ref v s = begins_same s.out
one_kept Deref (Loc l) s = gives_kept (slice_get s.mem l) s
one_kept Raise (Exn k vs) s = begins_same s.out
one_kept Not (Con c NoVals) s = gives_kept (truth_of (negated (as_truth c))) s
one_kept PrintString (Datum (Str t)) s = (t, refl)
one_kept StringOfInt (Datum (Int i)) s = begins_same s.out
one_kept StringLength (Datum (Str t)) s = gives_kept (int_of (length_of t)) s
one_kept StringGet v s = begins_same s.out
one_kept StringSub v s = begins_same s.out
one_kept StringMake v s = begins_same s.out
one_kept CharCode (Datum (Char c)) s = begins_same s.out
one_kept CharChr (Datum (Int i)) s = gives_kept (const_of (char_chr i)) s
one_kept _ v s = tt

two_kept : (p : Primitive) (v w : Val) (s : St) → Kept (prim_two p v w s) s
two_kept StringGet (Datum (Str t)) (Datum (Int i)) s = gives_kept (const_of (char_at t i)) s
two_kept StringSub v w s = begins_same s.out
two_kept StringMake (Datum (Int n)) (Datum (Char c)) s = gives_kept (const_of (times_of n c)) s
two_kept _ v w s = tt

three_kept : (p : Primitive) (u v w : Val) (s : St) → Kept (prim_three p u v w s) s
three_kept StringSub (Datum (Str t)) (Datum (Int i)) (Datum (Int n)) s = gives_kept (const_of (part_of t i n)) s
three_kept _ u v w s = tt

prim_kept : (p : Primitive) (vs : Vals) (v : Val) (s : St) → Kept (prim p vs v s) s
prim_kept p NoVals v s = one_kept p v s
prim_kept p (Item u NoVals) v s = two_kept p u v s
prim_kept p (Item t (Item u NoVals)) v s = three_kept p t u v s
prim_kept p _ v s = tt

pub act_kept : (op : Op) (vs : Vals) (s : St) → Kept (act op vs s) s
act_kept Apply (Item (Clo f rs) (Item v NoVals)) s = begins_same s.out
act_kept Apply (Item (Rec fs g) (Item v NoVals)) s = calls_kept fs v s (find g fs)
act_kept Apply (Item (Prim p vs) (Item v NoVals)) s = prim_kept p vs v s
act_kept Pair vs s = begins_same s.out
act_kept (Build c) vs s = begins_same s.out
act_kept Make vs s = gives_kept (pure_val Make vs) s
act_kept ListOf vs s = begins_same s.out
act_kept (Oper o) (Item a (Item b NoVals)) s = oper_kept o a b s
act_kept _ _ s = tt

mutual
  pub step_out : (e : Exp) (s : St) (t : Exp) (s1 : St) → Step e s t s1 → Begins s1.out s.out
  step_out (Is v) s t s1 h = absurd h
  step_out (Fail v) s t s1 h = absurd h
  step_out (Lit n) s t s1 h = begins_eq s s1 h.1
  step_out (Var x) s t s1 h = absurd h
  step_out (Fn f rs) s t s1 h = begins_eq s s1 h.1
  step_out (Group fs b) s t s1 h = begins_eq s s1 h.1
  step_out (Node op es) s t s1 (inl h) = parts_out es s h.0 s1 h.1
  step_out (Node op es) s t s1 (inr (inl h)) = begins_eq s s1 h.3
  step_out (Node op es) s t s1 (inr (inr h)) = subst (λ (x : St). Begins x.out s.out) (sym h.5) (subst (λ o. Kept o s) h.3 (act_kept op h.0 s))
  step_out (Case f a rs) s t s1 (inl h) = step_out a s h.0 s1 h.1
  step_out (Case f a rs) s t s1 (inr (inl h)) = begins_eq s s1 h.3
  step_out (Case f a rs) s t s1 (inr (inr h)) = begins_eq s s1 h.3
  step_out (NewExn x b) s t s1 h = subst (λ (x : St). Begins x.out s.out) (sym h.1) (begins_same s.out)
  step_out (LetMod e p is b) s t s1 h = begins_eq s s1 h.1
  step_out (InMod p w b) s t s1 (inl h) = work_out w s h.0 s1 h.1
  step_out (InMod p w b) s t s1 (inr (inl h)) = begins_eq s s1 h.3
  step_out (InMod p w b) s t s1 (inr (inr h)) = begins_eq s s1 h.3
  step_out (StructOf e is) s t s1 h = begins_eq s s1 h.1
  step_out (InStruct w) s t s1 (inl h) = work_out w s h.0 s1 h.1
  step_out (InStruct w) s t s1 (inr (inl h)) = begins_eq s s1 h.3
  step_out (InStruct w) s t s1 (inr (inr h)) = begins_eq s s1 h.3
  step_out (Try a rs) s t s1 (inl h) = step_out a s h.0 s1 h.1
  step_out (Try a rs) s t s1 (inr (inl h)) = begins_eq s s1 h.3
  step_out (Try a rs) s t s1 (inr (inr h)) = begins_eq s s1 h.3

  pub parts_out : (es : Exps) (s : St) (fs : Exps) (s1 : St) → StepIn es s fs s1 → Begins s1.out s.out
  parts_out Nil s fs s1 h = absurd h
  parts_out (Cons e es) s fs s1 (inl h) = step_out e s h.0 s1 h.1
  parts_out (Cons e es) s fs s1 (inr h) = parts_out es s h.0 s1 h.1

  pub work_out : (w : Work) (s : St) (t : Work) (s1 : St) → WorkStep w s t s1 → Begins s1.out s.out
  work_out (Rest c End) s t s1 h = begins_eq s s1 h.1
  work_out (Rest c (Value f p a is)) s t s1 h = begins_eq s s1 h.1
  work_out (Rest c (Functions fs is)) s t s1 h = begins_eq s s1 h.1
  work_out (Rest c (Exception x is)) s t s1 h = subst (λ (x : St). Begins x.out s.out) (sym h.1) (begins_same s.out)
  work_out (Rest c (Alias p x is)) s t s1 h = begins_eq s s1 h.1
  work_out (Rest c (Struct p body is)) s t s1 h = begins_eq s s1 h.1
  work_out (Rest c (FunctorOf f x body is)) s t s1 h = begins_eq s s1 h.1
  work_out (Rest c (Applied p f a is)) s t s1 h = begins_eq s s1 h.3
  work_out (Making c p a is) s t s1 (inl h) = step_out a s h.0 s1 h.1
  work_out (Making c p a is) s t s1 (inr (inl h)) = begins_eq s s1 h.3
  work_out (Making c p a is) s t s1 (inr (inr h)) = begins_eq s s1 h.3
  work_out (Doing c f p a is) s t s1 (inl h) = step_out a s h.0 s1 h.1
  work_out (Doing c f p a is) s t s1 (inr (inl h)) = begins_eq s s1 h.3
  work_out (Doing c f p a is) s t s1 (inr (inr h)) = begins_eq s s1 h.3
  work_out (Open c p b is) s t s1 (inl h) = work_out b s h.0 s1 h.1
  work_out (Open c p b is) s t s1 (inr (inl h)) = begins_eq s s1 h.3
  work_out (Open c p b is) s t s1 (inr (inr h)) = begins_eq s s1 h.3
  work_out (Whole c) s t s1 h = absurd h
  work_out (Lost v) s t s1 h = absurd h

-- so along a run
pub run_out : {T : Type 0} (S : Stepping T) → ((e : T) (s : St) (t : T) (s1 : St) → S e s t s1 → Begins s1.out s.out) → (j : ℕ) (e : T) (s : St) (t : T) (s1 : St) → RunOf S j e s t s1 → Begins s1.out s.out
run_out S out zero e s t s1 r = begins_eq s s1 r.1
run_out S out (suc j) e s t s1 r = begins_trans s1.out r.1.out s.out (run_out S out j r.0 r.1 t s1 r.3) (out e s r.0 r.1 r.2)

-- what is over takes no step
pub stays : {T : Type 0} (S : Stepping T) (u : T) (s : St) → ((t : T) (s1 : St) → S u s t s1 → ⊥) → (j : ℕ) (t : T) (s1 : St) → RunOf S j u s t s1 → (t ≡ u) × (s1 ≡ s)
stays S u s none zero t s1 r = r
stays S u s none (suc j) t s1 r = absurd (none r.0 r.1 r.2)
