-- Breaches in expressions and declarations.
use Rattle.std.specs.Prelude.{ℕ, suc, Bool, true, false, if◌then◌else◌, ◌&&◌, nat_eq, length, List, [], ◌∷◌, ◌++◌, map, Option, Some, None}
use Rattle.tl_text.specs.Pairs.{seconds}
use Rattle.tl_text.specs.declared.code.Code.TheVariants.{RecNotFn, Clauses, TyvarScope}
use Rattle.tl_text.specs.declared.fault.Refusal.{Refusal}
use Rattle.tl_text.specs.declared.place.Place.{Place}
use Rattle.tl_text.specs.declared.name.Name.{Name}
use Rattle.sml_ast.specs.declared.ty.Ty.{Ty}
use Rattle.sml_ast.specs.declared.data.ExBind.{ExBind}
use Rattle.sml_ast.specs.declared.data.ExBind.TheVariants as ex_bind
use Rattle.sml_ast.specs.declared.pat.Pat.{Pat, fold-Pat}
use Rattle.sml_ast.specs.declared.pat.AtPat.TheOpen.{Pat-F}
use Rattle.sml_ast.specs.declared.exp.AtExp.{AtExp, fold-AtExp}
use Rattle.sml_ast.specs.declared.exp.AtExp.TheOpen.{AtExp-F, Clause-F, Dec-F, Exp-F, Rule-F}
use Rattle.sml_ast.specs.declared.exp.Clause.{Clause, fold-Clause}
use Rattle.sml_ast.specs.declared.exp.Dec.{Dec, fold-Dec}
use Rattle.sml_ast.specs.declared.exp.Exp.{Exp, fold-Exp}
use Rattle.sml_ast.specs.declared.exp.Rule.{Rule, fold-Rule}
use Rattle.sml_restrict_core.specs.Bindings.{types_breaches, datas_breaches, exns_breaches}
use Rattle.sml_restrict_core.specs.Breaches.{breach, joined}
use Rattle.sml_restrict_core.specs.Patterns.{at_pat_breaches, at_pat_tyvars, pat_breaches, pat_tyvars, pat_variable}
use Rattle.sml_restrict_core.specs.Repeats.{contains, labels_twice, rebinds, same_name, twice}
use Rattle.sml_restrict_core.specs.Types.{labels, ty_breaches, opt_ty_breaches, tyvars, opt_tyvars}

-- what a phrase shows
pub record Facts : Type 0 where
  -- whether it is `fn`, with parentheses and constraints round it
  pub function : Bool
  -- its breaches
  pub broken : List Refusal
  -- the type variables that occur in it, and in no value declaration inside it
  pub uses : List (Place × Name)
  -- the type variables that value declarations in it bind by a sequence
  pub binds : List (Place × Name)
  -- the type variables that a value declaration scopes: those of its sequence, and those that occur in it unguarded
  pub scope : List (Place × Name)

-- a phrase without parts and breaches, and one with breaches
abbrev pub broken_by : List Refusal → Facts
broken_by bs = record { function = false; broken = bs; uses = []; binds = []; scope = [] }

abbrev pub none : Facts
none = broken_by []

-- two phrases beside one another, and a row of them
abbrev pub beside : Facts → Facts → Facts
beside e f = record
    { function = false; broken = e.broken ++ f.broken; uses = e.uses ++ f.uses; binds = e.binds ++ f.binds; scope = [] }

abbrev pub all : List Facts → Facts
all [] = none
all (e ∷ es) = beside e (all es)

-- atomic expressions in a row, which are a function where there is one and it is one
abbrev pub only : List Facts → Bool
only [] = false
only (e ∷ []) = e.function
only (e ∷ (f ∷ fs)) = false

abbrev pub applied : List Facts → Facts
applied es = record { function = only es; broken = (all es).broken; uses = (all es).uses; binds = (all es).binds; scope = [] }

-- a phrase that is no function
abbrev pub plain : Facts → Facts
plain e = record e { function = false }

-- an expression with a type
abbrev pub typed : Facts → Ty → Facts
typed e t = record
    { function = e.function; broken = e.broken ++ ty_breaches t; uses = e.uses ++ tyvars t; binds = e.binds; scope = [] }

-- one level of an atomic expression, whose clauses are as below
pub record ClauseFacts : Type 0 where
  pub place : Place
  pub name : Place × Name
  pub count : ℕ
  pub facts : Facts

abbrev pub at_exp_step : AtExp-F Facts ClauseFacts Facts Facts Facts → Facts
at_exp_step (AtExp-F.Lit p l) = none
at_exp_step (AtExp-F.Id p o x) = none
at_exp_step (AtExp-F.Fields p fields) = beside (broken_by (labels_twice (labels fields))) (all (seconds fields))
at_exp_step (AtExp-F.Pick p l) = none
at_exp_step (AtExp-F.Unit p) = none
at_exp_step (AtExp-F.Tuple p e es) = beside e (all es)
at_exp_step (AtExp-F.Items p es) = plain (all es)
at_exp_step (AtExp-F.Seq p e es) = beside e (all es)
at_exp_step (AtExp-F.Let p ds es) = beside (all ds) (all es)
at_exp_step (AtExp-F.Paren p e) = e

-- one level of an expression
abbrev pub exp_step : Exp-F Facts ClauseFacts Facts Facts Facts → Facts
exp_step (Exp-F.Apply p es) = applied es
exp_step (Exp-F.Infix p e v f) = beside e f
exp_step (Exp-F.Typed p e t) = typed e t
exp_step (Exp-F.AndAlso p e f) = beside e f
exp_step (Exp-F.OrElse p e f) = beside e f
exp_step (Exp-F.Handle p e rules) = beside e (all rules)
exp_step (Exp-F.Raise p e) = plain e
exp_step (Exp-F.If p e f g) = beside e (beside f g)
exp_step (Exp-F.While p e f) = beside e f
exp_step (Exp-F.Case p e rules) = beside e (all rules)
exp_step (Exp-F.Fn p rules) = record (all rules) { function = true }

-- a pattern with an expression
abbrev pub bound : Pat × Facts → Facts
bound b = record
    { function = false; broken = pat_breaches b.0 ++ b.1.broken; uses = pat_tyvars b.0 ++ b.1.uses; binds = b.1.binds; scope = [] }

-- one level of a rule
abbrev pub rule_step : Rule-F Facts ClauseFacts Facts Facts Facts → Facts
rule_step (Rule-F.Arm p q e) = bound (q, e)

-- a clause with the breaches and the type variables of its arguments
abbrev pub clause : Place × Name → List Refusal → List (Place × Name) → Option Ty → Facts → Facts
clause f bs vs t e = record {
  function = false;
  broken = rebinds f ++ bs ++ opt_ty_breaches t ++ e.broken;
  uses = vs ++ opt_tyvars t ++ e.uses;
  binds = e.binds;
  scope = [];
}

-- one level of a clause
abbrev pub clause_step : Clause-F Facts ClauseFacts Facts Facts Facts → ClauseFacts
clause_step (Clause-F.Prefix p o f args t e) = record {
  place = p;
  name = f;
  count = length args;
  facts = clause f (joined (map at_pat_breaches args)) (joined (map at_pat_tyvars args)) t e;
}
clause_step (Clause-F.Mid p a f b t e) = record {
  place = p;
  name = f;
  count = 1;
  facts = clause f (at_pat_breaches a ++ at_pat_breaches b) (at_pat_tyvars a ++ at_pat_tyvars b) t e;
}
clause_step (Clause-F.MidMore p a f b args t e) = record {
  place = p;
  name = f;
  count = suc (length args);
  facts = clause f
      (at_pat_breaches a ++ at_pat_breaches b ++ joined (map at_pat_breaches args))
      (at_pat_tyvars a ++ at_pat_tyvars b ++ joined (map at_pat_tyvars args)) t e;
}

-- the place of a pattern
abbrev pub pat_place_step : Pat-F (Unit {0}) (Unit {0}) Place → Place
pat_place_step (Pat-F.PAtom p a) = p
pat_place_step (Pat-F.PCon p o c a) = p
pat_place_step (Pat-F.PInfix p q v r) = p
pat_place_step (Pat-F.PTyped p q t) = p
pat_place_step (Pat-F.Layer p o x t q) = p

abbrev pub pat_place : Pat → Place
pat_place = fold-Pat (Unit {0}) (Unit {0}) Place (λ _. tt) (λ _. tt) pat_place_step

-- a breach where `val rec` binds what is no variable, or binds it to what is no `fn`
abbrev pub rec_breach : Place → Option (Place × Name) → Bool → List Refusal
rec_breach p None f = breach RecNotFn p ∷ []
rec_breach p (Some x) true = rebinds x
rec_breach p (Some x) false = rebinds x ++ breach RecNotFn p ∷ []

abbrev pub rec_breaches : Bool → List (Pat × Facts) → List Refusal
rec_breaches false binds = []
rec_breaches true binds = joined (map (λ b. rec_breach (pat_place b.0) (pat_variable b.0) b.1.function) binds)

-- a breach at each type variable that is scoped already
abbrev pub rescoped : List (Place × Name) → List (Place × Name) → List Refusal
rescoped scope [] = []
rescoped scope (x ∷ xs) = if contains x.1 scope then breach TyvarScope x.0 ∷ rescoped scope xs else rescoped scope xs

-- a value declaration with a sequence of type variables, breaches of its own and its parts
abbrev pub value : List (Place × Name) → List Refusal → Facts → Facts
value vs own e = record {
  function = false;
  broken = twice vs ++ own ++ rescoped (vs ++ e.uses) e.binds ++ e.broken;
  uses = [];
  binds = vs ++ e.binds;
  scope = vs ++ e.uses;
}

-- the names of functions, each as its first clause has it
abbrev pub function_names : List (List ClauseFacts) → List (Place × Name)
function_names [] = []
function_names ([] ∷ fs) = function_names fs
function_names ((c ∷ cs) ∷ fs) = c.name ∷ function_names fs

-- a breach where a clause of a function has another name than the first, or another number of arguments
abbrev pub disagrees : ClauseFacts → ClauseFacts → List Refusal
disagrees c d = if same_name d.name.1 c.name.1 && nat_eq d.count c.count then [] else breach Clauses d.place ∷ []

abbrev pub clauses_breaches : List ClauseFacts → List Refusal
clauses_breaches [] = []
clauses_breaches (c ∷ cs) = joined (map (disagrees c) cs)

-- a function, and functions
abbrev pub function_facts : List ClauseFacts → Facts
function_facts cs = all (map (λ c. c.facts) cs)

abbrev pub functions_facts : List (List ClauseFacts) → Facts
functions_facts fs = all (map function_facts fs)

-- the type variables in a binding of an exception
abbrev pub ex_bind_tyvars : ExBind → List (Place × Name)
ex_bind_tyvars (ex_bind.NewExn p o x t) = opt_tyvars t
ex_bind_tyvars (ex_bind.SameExn p o x q y) = []

-- one level of a declaration
abbrev pub dec_step : Dec-F Facts ClauseFacts Facts Facts Facts → Facts
dec_step (Dec-F.Vals p vs r binds) = value vs (rec_breaches r binds) (all (map bound binds))
dec_step (Dec-F.Funs p vs functions) = value vs
    (twice (function_names functions) ++ joined (map clauses_breaches functions)) (functions_facts functions)
dec_step (Dec-F.Types p binds) = broken_by (types_breaches binds)
dec_step (Dec-F.Datas p binds tys) = broken_by (datas_breaches binds tys)
dec_step (Dec-F.Copy p t u) = none
dec_step (Dec-F.Exns p binds) = record (broken_by (exns_breaches binds)) { uses = joined (map ex_bind_tyvars binds) }
dec_step (Dec-F.Local p ds es) = beside (all ds) (all es)
dec_step (Dec-F.Opens p xs) = none
dec_step (Dec-F.Fix p r d xs) = none
dec_step (Dec-F.Nonfix p xs) = none
dec_step (Dec-F.Abs p binds tys ds) = beside (broken_by (datas_breaches binds tys)) (all ds)

-- what an atomic expression, a clause, a declaration, an expression and a rule show
abbrev pub at_exp_facts : AtExp → Facts
at_exp_facts = fold-AtExp Facts ClauseFacts Facts Facts Facts at_exp_step clause_step dec_step exp_step rule_step

abbrev pub clause_facts : Clause → ClauseFacts
clause_facts = fold-Clause Facts ClauseFacts Facts Facts Facts at_exp_step clause_step dec_step exp_step rule_step

abbrev pub dec_facts : Dec → Facts
dec_facts = fold-Dec Facts ClauseFacts Facts Facts Facts at_exp_step clause_step dec_step exp_step rule_step

abbrev pub exp_facts : Exp → Facts
exp_facts = fold-Exp Facts ClauseFacts Facts Facts Facts at_exp_step clause_step dec_step exp_step rule_step

abbrev pub rule_facts : Rule → Facts
rule_facts = fold-Rule Facts ClauseFacts Facts Facts Facts at_exp_step clause_step dec_step exp_step rule_step
