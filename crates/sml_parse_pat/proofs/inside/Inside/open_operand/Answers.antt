use Rattle.std.proofs.Common.{sym, ◌∙◌, arith}
use Rattle.sml_fix.specs.Fixities.{settings}
use Rattle.sml_parse_pat.proofs.Parts.{operand_named, operand_other}
use Rattle.sml_parse_pat.proofs.inside.Inside.open_operand.Goals as goal

pub returns-then-begins_name : goal.returns-then-begins_name
returns-then-begins_name g c =
    rw (operand_named (settings c.args.self.now.fix.now) c.args.room c.args.tokens.now (sym c.begins_name.ensures ∙ c.if-begins_name.true) (let some = c.if-room-eq0.false in omega arith)) c.construction.ensures

pub returns : goal.returns
returns g c =
    rw (operand_other (settings c.args.self.now.fix.now) c.args.room c.args.tokens.now (sym c.begins_name.ensures ∙ c.if-begins_name.false) (sym c.begins_other.ensures ∙ c.if-not-begins_other.false)
    (let some = c.if-room-eq0-2.false in omega arith)) c.other_operand.ensures
