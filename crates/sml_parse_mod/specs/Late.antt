-- Phrases that are not supported: `abstype`, and expressions that stand as top-level declarations.
use Rattle.std.specs.Prelude.{ℕ, List, [], ◌∷◌, Option, Some, None, nat_lt, if◌then◌else◌}
use Rattle.tl_text.specs.declared.place.Place.{Place}
use Rattle.tl_text.specs.declared.code.Code.{Code}
use Rattle.tl_text.specs.declared.code.Code.TheVariants as code
use Rattle.tl_text.specs.declared.fault.Refusal.{Refusal}
use Rattle.sml_lex.specs.declared.token.Token.{Token}
use Rattle.sml_ast.specs.declared.program.Top.{Top}
use Rattle.sml_ast.specs.declared.program.Top.TheVariants as tops
use Rattle.sml_ast.specs.declared.program.Program.{Program}
use Rattle.sml_ast.specs.declared.program.Program.TheVariants as programs
use Rattle.sml_grammar.specs.Words.{ABSTYPE}
use Rattle.sml_grammar.specs.Tokens.{is}

-- of the first such declaration, which begins with the word, and stands nowhere else
abbrev pub abstype_place : List Token → Option Place
abstype_place [] = None
abstype_place (t ∷ ts) = if is ABSTYPE t then Some t.place else abstype_place ts

-- of the first such expression
abbrev pub run_place : List Top → Option Place
run_place [] = None
run_place (tops.Run p e ∷ ts) = Some p
run_place (tops.Strs p d ∷ ts) = run_place ts
run_place (tops.Sigs p bs ∷ ts) = run_place ts
run_place (tops.Funs p bs ∷ ts) = run_place ts

abbrev pub refusal : Place → Code → Refusal
refusal p c = record { place = p; code = c }

-- the one of the two that comes first in the source
abbrev pub first_of : Option Place → Option Place → Option Refusal
first_of (Some p) (Some q) = if nat_lt p.byte q.byte then Some (refusal p code.Abstype) else Some (refusal q code.TopExp)
first_of (Some p) None = Some (refusal p code.Abstype)
first_of None (Some q) = Some (refusal q code.TopExp)
first_of None None = None

abbrev pub unsupported : List Token → Program → Option Refusal
unsupported tokens (programs.Tops p ts) = first_of (abstype_place tokens) (run_place ts)
