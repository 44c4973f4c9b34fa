-- What the code makes of trees: how phrases end, rows without heights, and the operator at the top.
use Rattle.std.specs.Prelude.{ℕ, suc, ◌+◌, Bool, false, List, [], ◌∷◌, ◌++◌, Option, max, map}
use Rattle.std.specs.Option.{option_map}
use Rattle.tl_text.specs.declared.place.Place.{Place}
use Rattle.readers.specs.Forms.{highest, height_of}
use Rattle.readers.specs.declared.floor.Fixity.{Fixity}
use Rattle.sml_fix.specs.Fixities.{Settings}
use Rattle.sml_ast.specs.declared.pat.Pat.{Pat}
use Rattle.sml_ast.specs.declared.exp.AtExp.{AtExp}
use Rattle.sml_ast.specs.declared.exp.AtExp.TheVariants as at
use Rattle.sml_ast.specs.declared.exp.Exp.{Exp, out-Exp}
use Rattle.sml_ast.specs.declared.exp.Exp.TheVariants as exps
use Rattle.sml_ast.specs.declared.exp.Rule.{Rule}
use Rattle.sml_ast.specs.declared.exp.Dec.{Dec}
use Rattle.sml_ast.specs.declared.exp.Clause.{Clause}
use Rattle.sml_grammar.specs.Types.{Label, trees}
use Rattle.sml_grammar.specs.Pats as pats
use Rattle.sml_scan.specs.Fixed.{fixity_at}
use Rattle.sml_scan.specs.Rows.{summed}
use Rattle.sml_grammar_exp.specs.Exps as grammar
use Rattle.sml_grammar_exp.specs.Exps.{At, Ex, Ru, De, ExField, field_height, exp_trees, rule_trees, match_end}
use Rattle.sml_grammar_exp.specs.Decs.{Changes, changes, all_of, Vb, vb_height, Cl, clauses_height}
use Rattle.sml_parse_exp.specs.declared.tall.Ends.{Ends}
use Rattle.sml_parse_exp.specs.declared.tall.Reach.{Reach}
use Rattle.sml_parse_exp.specs.declared.tall.Reach.TheVariants as reach
use Rattle.sml_parse_exp.specs.declared.tall.Tall.{Tall}
use Rattle.sml_parse_exp.specs.declared.tree.Behind.{Behind}
use Rattle.sml_parse_exp.specs.declared.tree.Behind.TheVariants as behind

abbrev pub reach_of : Reach → grammar.Reach
reach_of reach.Near = grammar.Reach.Near
reach_of reach.Far = grammar.Reach.Far
reach_of reach.Match = grammar.Reach.Match

abbrev pub ends_of : Ends → grammar.Ends
ends_of e = grammar.ends_in e.typed (reach_of e.reach)

-- a tree as the grammar has it
abbrev pub seen : {T : Type 0} → Tall T → (T × grammar.Ends) × ℕ
seen x = ((x.tree, ends_of x.ends), x.height)

-- ---- rows in two parts: trees without heights, and the height of the highest

abbrev pub exp_tree : Ex → Exp
exp_tree x = x.0.0

abbrev pub exps_of : List Ex → List Exp × ℕ
exps_of = summed exp_tree height_of

abbrev pub at_tree : At → AtExp
at_tree x = x.0

abbrev pub field_tree : ExField → Label × Exp
field_tree f = (f.0, f.1.0.0)

abbrev pub fields_of : List ExField → List (Label × Exp) × ℕ
fields_of = summed field_tree field_height

abbrev pub dec_tree : De → Dec
dec_tree x = x.0

abbrev pub decs_of : List De → List Dec × ℕ
decs_of = summed dec_tree height_of

-- the rules of a match, how it ends, and the height of the highest
abbrev pub rules_of : List Ru → (List Rule × grammar.Ends) × ℕ
rules_of rs = ((rule_trees rs, match_end rs), highest height_of rs)

abbrev pub bind_tree : Vb → Pat × Exp
bind_tree b = (b.0.0, b.1.0.0)

abbrev pub binds_of : List Vb → List (Pat × Exp) × ℕ
binds_of = summed bind_tree vb_height

abbrev pub clause_tree : Cl → Clause
clause_tree c = c.0.0

abbrev pub clauses_of : List Cl → List Clause × ℕ
clauses_of = summed clause_tree height_of

abbrev pub functions_of : List (List Cl) → List (List Clause) × ℕ
functions_of = summed (map clause_tree) clauses_height

-- ---- nodes over such rows

-- what stands behind the first expression in parentheses
abbrev pub behind_of : grammar.Behind → Behind
behind_of grammar.Behind.Closed = behind.Closed
behind_of (grammar.Behind.Commas es) = behind.Commas (exp_trees es) (highest height_of es)
behind_of (grammar.Behind.Semis es) = behind.Semis (exp_trees es) (highest height_of es)

-- what is in parentheses, from its first expression and what is behind it
abbrev pub closed : Place → Ex → Behind → At
closed p x behind.Closed = grammar.paren_of (p, grammar.Inside.Parts (x, grammar.Behind.Closed))
closed p x (behind.Commas es n) = (at.Tuple p x.0.0 es, max x.1 n + 1)
closed p x (behind.Semis es n) = (at.Seq p x.0.0 es, max x.1 n + 1)

abbrev pub applied : Place → List AtExp → ℕ → Ex
applied p es n = ((exps.Apply p es, grammar.ends_in false grammar.Reach.Near), suc n)

abbrev pub handled : Ex → (List Rule × grammar.Ends) × ℕ → Ex
handled e rs = ((exps.Handle (grammar.exp_place e.0.0) e.0.0 rs.0.0, grammar.match_ends rs.0.1), suc (max e.1 rs.1))

abbrev pub case_node : Place → Ex → (List Rule × grammar.Ends) × ℕ → Ex
case_node p e rs = ((exps.Case p e.0.0 rs.0.0, grammar.match_ends rs.0.1), suc (max e.1 rs.1))

abbrev pub fn_node : Place → (List Rule × grammar.Ends) × ℕ → Ex
fn_node p rs = ((exps.Fn p rs.0.0, grammar.match_ends rs.0.1), suc rs.1)

abbrev pub pat_place : Pat → Place
pat_place = pats.pat_place

-- how the operator at the top binds
abbrev pub top_fixity : Settings → Exp → Option Fixity
top_fixity fix e = option_map (λ v. fixity_at fix v.1) (grammar.top_in (out-Exp e))

-- ---- directives

-- those of a row of declarations
abbrev pub all_changes : List Dec → Changes
all_changes ds = all_of (map changes ds)
