use Rattle.std.proofs.Common.{sym, ◌∙◌}
use Rattle.sml_fix.specs.Fixities.{settings}
use Rattle.sml_parse_bind.proofs.Heads.{low_operator, low_front, low_before}
use Rattle.sml_parse_bind.proofs.head.low.Goals as goal

pub returns-then-is_infix_vid : goal.returns-then-is_infix_vid
returns-then-is_infix_vid c =
    low_operator (settings c.args.fix.now) c.args.room c.args.tokens.now c.args.deep.now (c.in-Ok.found, c.in-Ok.rest.now) c.in-Ok.ensures (sym c.is_infix_vid.ensures ∙ c.if-is_infix_vid.true)

pub returns-then-rest-deep : goal.returns-then-rest-deep
returns-then-rest-deep c =
    let e = rw c.in-Err-Refused.field-0-is at c.in-Err-Refused.ensures in
    rw c.in_ok-code-in-Err-Refused.ensures (low_before (settings c.args.fix.now) c.args.room c.args.tokens.now c.args.deep.now (c.in-Err-Refused.field-0-0, c.in-Err-Refused.rest.now) e c.if-rest-deep.true)

pub returns-else-is_infix_vid : goal.returns-else-is_infix_vid
returns-else-is_infix_vid c =
    rw (low_front (settings c.args.fix.now) c.args.room c.args.tokens.now c.args.deep.now (c.in-Ok.found, c.in-Ok.rest.now) c.in-Ok.ensures (sym c.is_infix_vid.ensures ∙ c.if-is_infix_vid.false)) c.arguments.ensures
