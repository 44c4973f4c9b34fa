use Rattle.std.proofs.Common.{◌≡◌, sym, ap, subst, ◌∙◌}
use Rattle.std.proofs.lemmas.Result.{err_from_is_err_and}
use Rattle.readers.specs.Reader.{token_by}
use Rattle.readers.specs.Given.{Fails}
use Rattle.sml_fix.specs.Fixities.{Settings}
use Rattle.sml_grammar.specs.Tokens.{operator}
use Rattle.sml_scan.specs.Fixed.{fixity_at}
use Rattle.sml_grammar_exp.specs.Decs.{fixed}
use Rattle.sml_parse_exp.specs.Trees as trees
use Rattle.sml_parse_exp.proofs.RowSteps.{judged, floor_is, no_operator, operation_barred, operation_gives, operation_fails}
use Rattle.sml_parse_exp.proofs.inside.Inside.operation.Goals as goal

pub returns-in_err-op-clause-gives : goal.returns-in_err-op-clause-gives
returns-in_err-op-clause-gives g c =
    let p = err_from_is_err_and c.from_residual.result c.from_residual.ensures.1 in
    rw (p.1, p.2) (no_operator c.args.scope.now c.args.room c.args.floor c.in_err-op.field-0.0 (trees.seen c.args.left.now) c.args.tokens.now c.requires.comes
    (subst (λ (f : Settings). Fails c.in_err-op.field-0.0 (token_by (operator f) c.args.tokens.now)) c.fixities-fix.ensures c.in_err-op.ensures))

pub returns-in-Some-clause-gives : goal.returns-in-Some-clause-gives
returns-in-Some-clause-gives g c =
    let same = c.fixities-fix.ensures in
    let op = ap (λ (f : Settings). token_by (operator f) c.args.tokens.now) (sym same) ∙ c.in_ok-op.ensures in
    let binds = c.fixity_of-fixity.ensures ∙ ap (λ (f : Settings). fixity_at f c.in_ok-op.op.1) same in
    let verdict = judged (fixed c.args.scope.now) c.args.room c.args.floor (trees.seen c.args.left.now) c.in_ok-op.op c.fixity_of-fixity.result c.top_fixity-top.result c.higher.result c.judge.result binds
    (c.top_fixity-top.ensures ∙ ap (λ (f : Settings). trees.top_fixity f c.args.left.now.tree) same) c.higher.ensures c.judge.ensures in
    operation_barred c.args.scope.now c.args.room c.args.floor (trees.seen c.args.left.now) c.args.tokens.now c.in_ok-op.inner.now c.in_ok-op.op op c.in-Some.code (verdict ∙ c.in-Some.is)

pub returns-in_err-right-clause-gives : goal.returns-in_err-right-clause-gives
returns-in_err-right-clause-gives g c =
    let same = c.fixities-fix.ensures in
    let op = ap (λ (f : Settings). token_by (operator f) c.args.tokens.now) (sym same) ∙ c.in_ok-op.ensures in
    let binds = c.fixity_of-fixity.ensures ∙ ap (λ (f : Settings). fixity_at f c.in_ok-op.op.1) same in
    let verdict = judged (fixed c.args.scope.now) c.args.room c.args.floor (trees.seen c.args.left.now) c.in_ok-op.op c.fixity_of-fixity.result c.top_fixity-top.result c.higher.result c.judge.result binds
    (c.top_fixity-top.ensures ∙ ap (λ (f : Settings). trees.top_fixity f c.args.left.now.tree) same) c.higher.ensures c.judge.ensures in
    let p = err_from_is_err_and c.from_residual-in_err-right.result c.from_residual-in_err-right.ensures.1 in
    rw (p.1, p.2) (operation_fails c.args.scope.now c.args.room c.args.floor (trees.seen c.args.left.now) c.args.tokens.now c.in_ok-op.inner.now c.in_ok-op.op op c.floor.result (verdict ∙ c.in_default.is) (floor_is (fixed c.args.scope.now) c.in_ok-op.op c.fixity_of-fixity.result c.floor.result binds c.floor.ensures) c.in_err-right.field-0.0 c.in_err-right.ensures.gives)

pub returns-clause-gives : goal.returns-clause-gives
returns-clause-gives g c =
    let same = c.fixities-fix.ensures in
    let op = ap (λ (f : Settings). token_by (operator f) c.args.tokens.now) (sym same) ∙ c.in_ok-op.ensures in
    let binds = c.fixity_of-fixity.ensures ∙ ap (λ (f : Settings). fixity_at f c.in_ok-op.op.1) same in
    let verdict = judged (fixed c.args.scope.now) c.args.room c.args.floor (trees.seen c.args.left.now) c.in_ok-op.op c.fixity_of-fixity.result c.top_fixity-top.result c.higher.result c.judge.result binds
    (c.top_fixity-top.ensures ∙ ap (λ (f : Settings). trees.top_fixity f c.args.left.now.tree) same) c.higher.ensures c.judge.ensures in
    operation_gives c.args.scope.now c.args.room c.args.floor (trees.seen c.args.left.now) c.args.tokens.now c.in_ok-op.inner.now c.in_ok-op.op op c.floor.result (verdict ∙ c.in_default.is) (floor_is (fixed c.args.scope.now) c.in_ok-op.op c.fixity_of-fixity.result c.floor.result binds c.floor.ensures) (trees.seen c.in_ok-right.right) c.in_ok-right.rest.now c.in_ok-right.ensures.gives
