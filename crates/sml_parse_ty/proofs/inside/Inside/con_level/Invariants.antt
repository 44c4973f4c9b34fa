use Rattle.std.proofs.Common.{◌≡◌, length}
use Rattle.readers.specs.Reader.{steps, token_by}
use Rattle.readers.specs.Forms.{height_of}
use Rattle.readers.proofs.StepLoop.{ended}
use Rattle.sml_grammar.specs.Tokens.{long_tycon, long_tycons, tokens_of}
use Rattle.sml_grammar.specs.Types.{applied}
use Rattle.sml_grammar.specs.ReadTypes.{con_level, ty_read}
use Rattle.sml_scan.proofs.Grown.{next}
use Rattle.sml_parse_ty.proofs.inside.Inside.con_level.Given as goal

abbrev pub invariant-names : goal.invariant-names
invariant-names g l =
    con_level (ty_read l.room) l.room l.tokens
    ≡ ended applied l.found (steps (tokens_of long_tycons) applied (next (tokens_of long_tycons) height_of applied (token_by long_tycon) l.room) l.found l.rest)

abbrev pub decreases-names : goal.decreases-names
decreases-names g l = length l.rest
