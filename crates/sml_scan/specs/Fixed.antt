-- How the next token binds, where it is an operator.
use Rattle.std.specs.Prelude.{ℕ, List, [], ◌∷◌, Option, Some, None, is_some, if◌then◌else◌}
use Rattle.readers.specs.declared.floor.Fixity.{Fixity}
use Rattle.sml_lex.specs.declared.token.Token.{Token}
use Rattle.sml_lex.specs.declared.token.Kind.{Kind}
use Rattle.sml_lex.specs.declared.token.Kind.TheVariants as kind
use Rattle.sml_fix.specs.Fixities.{Settings}
use Rattle.sml_grammar.specs.Pats.{tight_of, right_of}

-- of an identifier
abbrev pub fixity_at : Settings → List ℕ → Fixity
fixity_at fix v = record { tight = tight_of (fix v); right = right_of (fix v) }

abbrev pub path_fixity : Settings → List (List ℕ) → Option Fixity
path_fixity fix (v ∷ []) = if is_some (fix v) then Some (fixity_at fix v) else None
path_fixity fix _ = None

abbrev pub kind_fixity : Settings → Kind → Option Fixity
kind_fixity fix (kind.Id parts) = path_fixity fix parts
kind_fixity fix _ = None

-- of the next token, where it is an identifier with infix status
abbrev pub fixity_next : Settings → Option Token → Option Fixity
fixity_next fix None = None
fixity_next fix (Some t) = kind_fixity fix t.kind
