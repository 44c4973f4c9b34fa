use Rattle.std.proofs.Common.{◌≡◌, length}
use Rattle.sml_grammar_sig.specs.ReadDescs.{real_bind_read}
use Rattle.sml_grammar_sig.specs.ReadSigs.{head_read, strs_level}
use Rattle.sml_parse_sig.proofs.Turns.{row}
use Rattle.sml_parse_sig.proofs.inside.Inside.named_sigs.Given as goal

abbrev pub invariant-turns : goal.invariant-turns
invariant-turns g l = strs_level l.word (head_read l.room) (real_bind_read l.room) l.room l.tokens ≡ row l.word l.room l.kept l.rest

abbrev pub decreases-turns : goal.decreases-turns
decreases-turns g l = length l.rest
