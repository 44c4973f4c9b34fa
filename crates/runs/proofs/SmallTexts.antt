-- Small texts, evaluated; and a row of two prints, which does not agree with its meaning.
use Rattle.std.proofs.Common.{◌≡◌, ℕ, zero, suc, inl, inr, List, [], ◌∷◌, Some, None, refl, sym, ap, ◌∙◌, append_assoc, append-nil, arith, negsuc}
use Rattle.std.specs.Prelude.{pos, codes}
use Rattle.beh.specs.Agree.{Agree, Run}
use Rattle.beh.specs.Behaviour.{Begins, Ended, Raised}
use Rattle.runs.proofs.Begin.{text_ordered}
use Rattle.runs.proofs.Ends.{done_agrees, raised_agrees}
use Rattle.runs.proofs.Paths.{call_literal, value_more}
use Rattle.runs.specs.Env.{empty}
use Rattle.runs.specs.Examples.{Leaves, assigns, cut_out, decided, handled, hello, hidden, joined, list_read, local, loops, many_prints, name, new_each_time, no_quotient, no_rule, path_read, printer, rt_part, rt_prints, shadowed, twice_applied, two_prints, unit_part, wraps}
use Rattle.runs.specs.Forms.{call, false_exp, one, text_scope, true_exp, two, var}
use Rattle.runs.specs.Items.{mean_items}
use Rattle.runs.specs.Meaning.{Done, Wrong, ev_items, mean}
use Rattle.runs.specs.Ordered.{Ordered, OrderedItems, Still}
use Rattle.runs.specs.Primitives.{Gives, St, false_part, start, unit, written}
use Rattle.runs.specs.Scope.{Scope, held}
use Rattle.runs.specs.Seen.{Config, ConfigStep, at_start, behaviour, seen_config, shown}
use Rattle.runs.specs.Tree.{Apply, Con, Datum, Doing, End, Exp, Int, Is, Item, Lit, Make, NoVals, Node, PAny, Pair, Prim, PrintString, Str, Stuck, Tup, Work}

-- the value of a path after the text
pub hello_runs : (t : List ℕ) (n : ℕ) → behaviour (mean_items (suc (suc n)) text_scope (hello t) start) ≡ shown (written t start) Ended
hello_runs t n = refl

pub hello_has : (t : List ℕ) (n : ℕ) → (c : Scope) × (s : St) × (mean_items (suc (suc n)) text_scope (hello t) start ≡ Done c s) × (c.own (unit_part ∷ codes "x" ∷ []) ≡ Some (Datum (Int (pos 1))))
hello_has t n = (_, _, refl, refl)

pub path_has : (n : ℕ) → (c : Scope) × (s : St) × (mean_items (suc n) text_scope path_read start ≡ Done c s) × (c.own (codes "B" ∷ codes "y" ∷ []) ≡ Some (Datum (Str (codes "a"))))
path_has n = (_, _, refl, refl)

pub shadowed_has : (n : ℕ) → (c : Scope) × (s : St) × (mean_items (suc n) text_scope shadowed start ≡ Done c s) × (c.own (var (codes "x")) ≡ Some (Datum (Int (pos 2))))
shadowed_has n = (_, _, refl, refl)

pub hidden_has : (n : ℕ) → (c : Scope) × (s : St) × (mean_items (suc n) text_scope hidden start ≡ Done c s) × (c.env (codes "A" ∷ codes "x" ∷ []) ≡ None)
hidden_has n = (_, _, refl, refl)

abbrev half : List ℕ → Exp
half t = Node Apply (two (Is (Prim PrintString NoVals)) (Lit (Str t)))

abbrev ready : List ℕ → Exp
ready t = Node Apply (two (Is (Prim PrintString NoVals)) (Is (Datum (Str t))))

abbrev doing : Exp → Work
doing e = Doing (held text_scope) Stuck PAny (Node Pair (two (half (codes "a")) e)) End

abbrev at : Work → St → Config
at w s = record { work = w; st = s }

-- the second part of the row prints first
second_first : Run ConfigStep 3 (at_start text_scope two_prints start) (at (doing (Is unit)) (written (codes "b") start))
second_first = (
  at (doing (half (codes "b"))) start,
  (refl, refl),
  (
    at (doing (ready (codes "b"))) start,
    inl (_, inl (_, inr (_, inl (_, inl (_, inr (_, inl (_, (refl, refl), refl), refl), refl), refl), refl), refl), refl),
    (
      at (doing (Is unit)) (written (codes "b") start),
      inl (_, inl (_, inr (_, inl (_, inr (inr (Item (Prim PrintString NoVals) (Item (Datum (Str (codes "b"))) NoVals), Gives unit (written (codes "b") start), refl, refl, refl, refl)), refl), refl), refl), refl),
      refl,
    ),
  ),
)

abbrev first_or : ℕ → List ℕ → ℕ
first_or d [] = d
first_or d (a ∷ l) = a

apart : (a b : ℕ) → suc a ≡ b → a ≡ b → ⊥
apart a b e f = omega (arith, e, f)

none_begins : (m : ℕ) → Begins (behaviour (mean_items m text_scope two_prints start)).output (codes "b") → ⊥
none_begins zero b = cc b.1
none_begins (suc m) b = apart 97 98 refl (ap (first_or 0) b.1)

pub not_agree : Agree (λ n. behaviour (mean_items n text_scope two_prints start)) ConfigStep seen_config (at_start text_scope two_prints start) → ⊥
not_agree a = let c = a.covers 3 (at (doing (Is unit)) (written (codes "b") start)) second_first in none_begins c.0 c.1

-- a row of any number of prints
pub many_print : (n : ℕ) (ts : List (List ℕ)) (c : Scope) (s : St) → c.env (rt_part ∷ codes "print" ∷ []) ≡ Some printer → ev_items (mean (suc n)) c (many_prints ts) s ≡ Done c (written (joined ts) s)
many_print n [] c s h = ap (λ o. Done c (record { mem = s.mem; exns = s.exns; out = o })) (sym (append-nil s.out))
many_print n (t ∷ ts) c s h =
    value_more (mean (suc n)) c Stuck PAny (rt_prints t) (many_prints ts) s unit (written t s) empty (call_literal (mean (suc n)) c.env (rt_part ∷ codes "print" ∷ []) Stuck _ (Str t) s h) refl
    ∙ many_print n ts c (written t s) h
    ∙ ap (λ o. Done c (record { mem = s.mem; exns = s.exns; out = o })) (append_assoc s.out t (joined ts))

pub many_ordered : (ts : List (List ℕ)) → OrderedItems (many_prints ts)
many_ordered [] = tt
many_ordered (t ∷ ts) = (tt, (inl (tt, inr tt), (tt, (tt, tt))), many_ordered ts)

pub wraps_leaves : (n : ℕ) → Leaves wraps ([]) (Some (Datum (Int (negsuc 4611686018427387903)))) (suc n)
wraps_leaves n = (_, _, refl, refl, refl)

pub cut_out_leaves : (n : ℕ) → Leaves cut_out ([]) (Some (Datum (Str (codes "ell")))) (suc n)
cut_out_leaves n = (_, _, refl, refl, refl)

pub assigns_leaves : (n : ℕ) → Leaves assigns ([]) (Some (Datum (Int (pos 2)))) (suc n)
assigns_leaves n = (_, _, refl, refl, refl)

pub loops_leaves : (n : ℕ) → Leaves loops (codes "aaa") (None) (suc (suc (suc (suc (suc n)))))
loops_leaves n = (_, _, refl, refl, refl)

pub handled_leaves : (n : ℕ) → Leaves handled (codes "ab") (None) (suc n)
handled_leaves n = (_, _, refl, refl, refl)

pub list_read_leaves : (n : ℕ) → Leaves list_read ([]) (Some (Tup (Item (Datum (Int (pos 1))) (Item (Datum (Str (codes "y"))) NoVals)))) (suc n)
list_read_leaves n = (_, _, refl, refl, refl)

pub decided_leaves : (n : ℕ) → Leaves decided ([]) (Some (Con false_part NoVals)) (suc n)
decided_leaves n = (_, _, refl, refl, refl)

-- what has no step shows its output, and no end
pub no_quotient_stuck : (n : ℕ) → mean_items (suc n) text_scope no_quotient start ≡ Wrong (written (codes "a") start)
no_quotient_stuck n = refl

pub no_rule_stuck : (n : ℕ) → mean_items (suc n) text_scope no_rule start ≡ Wrong start
no_rule_stuck n = refl

-- the exception of the inner call is not that of the outer one
pub new_raised : (n : ℕ) → behaviour (mean_items (suc (suc (suc n))) text_scope new_each_time start) ≡ shown start (Raised (codes "E"))
new_raised n = refl

-- so all runs of these texts end so
pub hello_ordered : (t : List ℕ) → OrderedItems (hello t)
hello_ordered t = (
  (tt, (tt, ((inr (tt, tt), (tt, (tt, tt))), tt)), tt),
  ((tt, (inr (tt, tt), (tt, (tt, tt))), (tt, tt, tt)), tt),
)

pub hello_agrees : (t : List ℕ) → Agree (λ m. shown (written t start) Ended) ConfigStep seen_config (at_start text_scope (hello t) start)
hello_agrees t = done_agrees text_scope _ (hello t) start _ 2 text_ordered (hello_ordered t) tt refl

call_ordered : (a b : Exp) → Still a → Ordered a → Ordered b → Ordered (call a b)
call_ordered a b s h k = (inl (s, inr tt), (h, (k, tt)))

pub new_ordered : OrderedItems new_each_time
new_ordered = (
  (
    tt,
    (
      (
        tt,
        tt,
        (call_ordered (name (codes "raise")) (Node Make (one (name (codes "E")))) tt tt (inr tt, (tt, tt)), ((call_ordered (name (codes "f")) true_exp tt tt (tt, tt), ((tt, tt), tt)), tt)),
      ),
      tt,
    ),
    tt,
  ),
  (tt, call_ordered (name (codes "f")) false_exp tt tt (tt, tt), tt),
)

pub new_agrees : Agree (λ m. shown start (Raised (codes "E"))) ConfigStep seen_config (at_start text_scope new_each_time start)
new_agrees = raised_agrees text_scope new_each_time start _ _ 3 text_ordered new_ordered tt refl

-- a local structure
pub local_leaves : (n : ℕ) → Leaves local (codes "ba") (Some (Datum (Str (codes "b")))) (suc n)
local_leaves n = (_, _, refl, refl, refl)

-- a functor that is applied twice
pub twice_applied_leaves : (n : ℕ) → Leaves twice_applied (codes "aa") (Some (Datum (Str (codes "own")))) (suc (suc n))
twice_applied_leaves n = (_, _, refl, refl, refl)
