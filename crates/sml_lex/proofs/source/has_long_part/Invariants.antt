use Rattle.std.proofs.Common.{◌≡◌, drop}
use Rattle.sml_lex.specs.Texts.{has_long_part}
use Rattle.sml_lex.proofs.source.has_long_part.Given as goal

abbrev pub invariant-loop-part : goal.invariant-loop-part
invariant-loop-part l = has_long_part l.parts ≡ has_long_part (drop l.part-index l.parts)
