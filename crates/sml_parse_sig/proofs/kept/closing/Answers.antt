use Rattle.sml_parse_sig.proofs.kept.closing.Goals as goal

pub returns : goal.returns
returns c = rw c.if-lone.false c.last.ensures
