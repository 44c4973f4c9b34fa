use Rattle.sml_grammar_sig.specs.ReadSigs.{body_read, lean_head}
use Rattle.sml_parse_sig.proofs.Hands.{sig_grown}
use Rattle.sml_parse_sig.proofs.inside.Inside.lean.Goals as goal

pub returns : goal.returns
returns g c = rw (sig_grown c.args.room (lean_head (body_read c.args.room)) c.args.tokens.now c.in_ok-found.rest.now c.in_ok-found.found c.in_ok-found.ensures) c.grown.ensures
