use Rattle.std.proofs.Common.{◌∙◌}
use Rattle.std.proofs.lemmas.Result.{err_from_is_err_and}
use Rattle.sml_fix.specs.Fixities.{settings}
use Rattle.sml_parse_pat.proofs.RowSteps.{judged, floor_is, no_operator, suffix_barred, suffix_gives, suffix_fails}
use Rattle.sml_parse_pat.proofs.inside.Inside.operation.Goals as goal

pub returns-in_err-op : goal.returns-in_err-op
returns-in_err-op g c =
    let p = err_from_is_err_and c.from_residual.result c.from_residual.ensures.1 in
    rw (p.1, p.2) (no_operator (settings c.args.self.now.fix.now) c.args.room c.args.floor c.in_err-op.field-0.0 c.args.left.now c.args.tokens.now c.requires.comes c.in_err-op.ensures)

pub returns-in-Some : goal.returns-in-Some
returns-in-Some g c =
    let fix = settings c.args.self.now.fix.now in
    suffix_barred fix c.args.room c.args.floor c.args.left.now c.args.tokens.now c.in_ok-op.inner.now c.in_ok-op.op c.in_ok-op.ensures c.in-Some.code
    (judged fix c.args.room c.args.floor c.args.left.now c.in_ok-op.op c.fixity_of-fixity.result c.top_fixity-top.result c.higher.result c.judge.result c.fixity_of-fixity.ensures c.top_fixity-top.ensures c.higher.ensures c.judge.ensures ∙ c.in-Some.is)

pub returns-in_err-right : goal.returns-in_err-right
returns-in_err-right g c =
    let fix = settings c.args.self.now.fix.now in
    let p = err_from_is_err_and c.from_residual-in_err-right.result c.from_residual-in_err-right.ensures.1 in
    rw (p.1, p.2) (suffix_fails fix c.args.room c.args.floor c.args.left.now c.args.tokens.now c.in_ok-op.inner.now c.in_ok-op.op c.in_ok-op.ensures c.floor.result
    (judged fix c.args.room c.args.floor c.args.left.now c.in_ok-op.op c.fixity_of-fixity.result c.top_fixity-top.result c.higher.result c.judge.result c.fixity_of-fixity.ensures c.top_fixity-top.ensures c.higher.ensures c.judge.ensures ∙ c.in_default.is)
    (floor_is fix c.in_ok-op.op c.fixity_of-fixity.result c.floor.result c.fixity_of-fixity.ensures c.floor.ensures) c.in_err-right.field-0.0 c.in_err-right.ensures)

pub returns : goal.returns
returns g c =
    let fix = settings c.args.self.now.fix.now in
    suffix_gives fix c.args.room c.args.floor c.args.left.now c.args.tokens.now c.in_ok-op.inner.now c.in_ok-op.op c.in_ok-op.ensures c.floor.result
    (judged fix c.args.room c.args.floor c.args.left.now c.in_ok-op.op c.fixity_of-fixity.result c.top_fixity-top.result c.higher.result c.judge.result c.fixity_of-fixity.ensures c.top_fixity-top.ensures c.higher.ensures c.judge.ensures ∙ c.in_default.is)
    (floor_is fix c.in_ok-op.op c.fixity_of-fixity.result c.floor.result c.fixity_of-fixity.ensures c.floor.ensures) c.in_ok-right.right c.in_ok-right.rest.now c.in_ok-right.ensures
