use Rattle.sml_parse_sig.proofs.Steps.{vars_is}
use Rattle.sml_parse_sig.proofs.data.under.Goals as goal

pub returns : goal.returns
returns c = rw (vars_is c.args.place c.args.room c.args.tokens.now) c.under_parts.ensures
