-- What a function with its clauses stands for (the Definition, appendix A, figure 17):
--     `fun f p .. q : t = e | ..`    f = fn v => .. fn w => case (v, .., w) of (p, .., q) => e : t | ..
-- What is new stands at p, the place of the `fun`, but the new `fn` with the rules stands at the name in the first clause,
-- and each rule at its clause.
use Rattle.std.specs.Prelude.{ℕ, ◌+◌, false, List, [], ◌∷◌, ◌++◌, map, Option, Some, None}
use Rattle.tl_text.specs.declared.place.Place.{Place}
use Rattle.tl_text.specs.declared.name.Name.{Name}
use Rattle.sml_derive_core.specs.Names.{fresh_name, numbered}
use Rattle.sml_derive_core.specs.Patterns.{numbered_fields}
use Rattle.sml_derive_forms.specs.Expressions.{atom, unit}
use Rattle.sml_derive_forms.specs.declared.clause.BareClause.{BareClause}
use Rattle.sml_ast.specs.declared.bare_ty.BareTy.{BareTy}
use Rattle.sml_ast.specs.declared.bare_pat.BareAtPat.{BareAtPat}
use Rattle.sml_ast.specs.declared.bare_pat.BareAtPat.TheVariants as at_pat
use Rattle.sml_ast.specs.declared.bare_pat.BarePat.{BarePat}
use Rattle.sml_ast.specs.declared.bare_pat.BarePat.TheVariants as pat
use Rattle.sml_ast.specs.declared.bare_exp.BareAtExp.{BareAtExp}
use Rattle.sml_ast.specs.declared.bare_exp.BareAtExp.TheVariants as at_exp
use Rattle.sml_ast.specs.declared.bare_exp.BareExp.{BareExp}
use Rattle.sml_ast.specs.declared.bare_exp.BareExp.TheVariants as exp
use Rattle.sml_ast.specs.declared.bare_exp.BareRule.{BareRule}
use Rattle.sml_ast.specs.declared.bare_exp.BareRule.TheVariants as rule

-- the two sides of an infix clause are one argument, a pair, which comes first: (a, b)
abbrev pub pair_pat : Place → BareAtPat → BareAtPat → BareAtPat
pair_pat p a b = at_pat.PFields p (numbered_fields p 1 (pat.PAtom p a ∷ pat.PAtom p b ∷ []))

abbrev pub first_argument : Place → Option (BareAtPat × BareAtPat) → List BareAtPat
first_argument p None = []
first_argument p (Some ab) = pair_pat p ab.0 ab.1 ∷ []

-- the arguments of a clause
abbrev pub arguments : Place → BareClause → List BareAtPat
arguments p c = first_argument p c.pair ++ c.args

-- (p, .., q): one part stands in parentheses, and other numbers of them in a record
abbrev pub tuple_pat : Place → List BarePat → BareAtPat
tuple_pat p [] = at_pat.PFields p []
tuple_pat p (q ∷ []) = at_pat.PParen p q
tuple_pat p (q ∷ (r ∷ rs)) = at_pat.PFields p (numbered_fields p 1 (q ∷ (r ∷ rs)))

abbrev pub tuple_exp : Place → List BareExp → BareAtExp
tuple_exp p [] = at_exp.Fields p []
tuple_exp p (e ∷ []) = at_exp.Paren p e
tuple_exp p (e ∷ (f ∷ fs)) = at_exp.Fields p (numbered p 1 (e ∷ (f ∷ fs)))

-- the arguments as one pattern
abbrev pub argument_pat : Place → List BareAtPat → BarePat
argument_pat p args = pat.PAtom p (tuple_pat p (map (pat.PAtom p) args))

-- the new names n, n + 1 and so on, one for each argument
abbrev pub variables : Place → ℕ → List BareAtPat → List (Place × Name)
variables p n [] = []
variables p n (q ∷ qs) = (p, fresh_name n) ∷ variables p (n + 1) qs

-- a new name as an expression
abbrev pub variable_exp : Place → Place × Name → BareExp
variable_exp p v = atom p (at_exp.Id p false (v.0, v.1 ∷ []))

-- a body with its type, where one is written
abbrev pub constrained : Place → Option BareTy → BareExp → BareExp
constrained p None e = e
constrained p (Some t) e = exp.Typed p e t

-- the rule of a clause: (p, .., q) => e : t
abbrev pub clause_rule : Place → BareClause → BareRule
clause_rule p c = rule.Arm c.place (argument_pat p (arguments p c)) (constrained p c.ty c.body)

-- case (v, .., w) of rules
abbrev pub matched : Place → Place → List (Place × Name) → List BareRule → BareExp
matched p f vs rules =
    exp.Apply p (at_exp.Paren p (exp.Fn f rules) ∷ tuple_exp p (map (variable_exp p) vs) ∷ [])

-- fn v => .. fn w => case (v, .., w) of rules
abbrev pub curried : Place → Place → List (Place × Name) → List BareRule → BareExp
curried p f vs rules = exp.Curried p vs (matched p f vs rules)

-- the pattern of a function's name
abbrev pub name_pat : Place → BareClause → BarePat
name_pat p c = pat.PAtom p (at_pat.PId p c.op (c.name.0, c.name.1 ∷ []))

-- what stands where there is no clause. The grammar has at least one.
abbrev pub no_function : Place → BarePat × BareExp
no_function p = (pat.PAtom p (at_pat.Any p), atom p (unit p))

-- a function with its clauses
abbrev pub function : Place → List BareClause → BarePat × BareExp
function p [] = no_function p
function p (c ∷ cs) = (
  name_pat p c,
  curried p c.name.0 (variables p 1 (arguments p c)) (map (clause_rule p) (c ∷ cs)),
)
