use Rattle.std.proofs.Common.{sym, ◌∙◌}
use Rattle.sml_grammar.specs.ReadTypes.{ty_read}
use Rattle.sml_parse_ty.proofs.Steps.{atom_brace}
use Rattle.sml_parse_ty.proofs.inside.Inside.atom.Goals as goal

pub returns-then-is_next : goal.returns-then-is_next
returns-then-is_next g c =
    rw (atom_brace (ty_read c.args.room) c.args.room c.args.tokens.now c.in_ok-place.rest.now c.in_ok-place.place (sym c.is_tyvar.ensures ∙ c.if-is_tyvar.false) (sym c.is_long_tycon.ensures ∙ c.if-is_long_tycon.false)
    (sym c.is_next.ensures ∙ c.if-is_next.true) c.in_ok-place.ensures) c.record.ensures
