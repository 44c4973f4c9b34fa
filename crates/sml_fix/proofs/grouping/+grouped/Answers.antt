use Rattle.std.proofs.Common.{◌-◌, sym, ap, ◌∙◌, arith}
use Rattle.std.proofs.lemmas.Result.{err_from_is_err_and}
use Rattle.readers.specs.Reader.{steps}
use Rattle.readers.proofs.StepLoop.{ended}
use Rattle.sml_fix.specs.declared.row.Grown.{Grown}
use Rattle.sml_fix.specs.Reading.{taken, joined, suffix}
use Rattle.sml_fix.proofs.Loops.{no_room, first_fails, row_first, row_turn, row_barred, row_inner, row_less, row_end, judged_by, on_floor, fails_on_floor}
use Rattle.sml_fix.proofs.grouping.+grouped.Goals as goal

pub returns-then-room-eq0 : goal.returns-then-room-eq0
returns-then-room-eq0 t c = no_room c.args.room c.args.floor c.args.cells.now c.is_atom.result c.refusal.result c.if-room-eq0.true c.is_atom.ensures c.refusal.ensures

pub returns-in_err-found : goal.returns-in_err-found
returns-in_err-found t c =
    let p = err_from_is_err_and c.from_residual.result c.from_residual.ensures.1 in
    rw (p.1, p.2) (first_fails c.in_err-found.field-0.0 c.args.room c.args.floor c.args.cells.now (let some = c.if-room-eq0.false in omega arith) c.in_err-found.ensures)

pub operators-init : goal.operators-init
operators-init t c = row_first c.args.room c.args.floor c.args.cells.now c.in_ok-found.rest.now c.in_ok-found.found (let some = c.if-room-eq0.false in omega arith) c.in_ok-found.ensures

pub returns-in-Some : goal.returns-in-Some
returns-in-Some t c =
    row_barred (c.args.room - 1) c.args.floor _ c.operators.found c.operators.rest.now c.in_ok-op.inner.now c.in_ok-op.op c.operators.invariant (sym c.is_taken.ensures ∙ c.operators-test.true) c.in_ok-op.ensures
    c.in-Some.code (judged_by (c.args.room - 1) c.args.floor c.operators.found c.in_ok-op.op c.top_fixity.result c.tall.result c.judge.result c.top_fixity.ensures c.tall.ensures c.judge.ensures ∙ c.in-Some.is)

pub returns-in_err-right : goal.returns-in_err-right
returns-in_err-right t c =
    let p = err_from_is_err_and c.from_residual-in_err-right.result c.from_residual-in_err-right.ensures.1 in
    rw (p.1, p.2) (row_inner (c.args.room - 1) c.args.floor _ c.operators.found c.operators.rest.now c.in_ok-op.inner.now c.in_ok-op.op c.operators.invariant (sym c.is_taken.ensures ∙ c.operators-test.true) c.in_ok-op.ensures
    c.in_err-right.field-0.0 (judged_by (c.args.room - 1) c.args.floor c.operators.found c.in_ok-op.op c.top_fixity.result c.tall.result c.judge.result c.top_fixity.ensures c.tall.ensures c.judge.ensures ∙ c.in_default.is)
    (fails_on_floor c.in_err-right.field-0.0 (c.args.room - 1) c.in_ok-op.op c.floor.result c.in_ok-op.inner.now c.floor.ensures c.in_err-right.ensures))

pub operators-smaller : goal.operators-smaller
operators-smaller t c =
    row_less (c.args.room - 1) c.args.floor _ c.operators.found c.operators.rest.now c.in_ok-op.inner.now c.in_ok-op.op c.operators.invariant (sym c.is_taken.ensures ∙ c.operators-test.true) c.in_ok-op.ensures
    c.in_ok-right.right c.in_ok-right.others.now (judged_by (c.args.room - 1) c.args.floor c.operators.found c.in_ok-op.op c.top_fixity.result c.tall.result c.judge.result c.top_fixity.ensures c.tall.ensures c.judge.ensures ∙ c.in_default.is)
    (on_floor (c.args.room - 1) c.in_ok-op.op c.floor.result c.in_ok-op.inner.now (c.in_ok-right.right, c.in_ok-right.others.now) c.floor.ensures c.in_ok-right.ensures)

pub operators-preserved : goal.operators-preserved
operators-preserved t c =
    row_turn (c.args.room - 1) c.args.floor _ c.operators.found c.operators.rest.now c.in_ok-op.inner.now c.in_ok-op.op c.operators.invariant (sym c.is_taken.ensures ∙ c.operators-test.true) c.in_ok-op.ensures
    c.in_ok-right.right c.in_ok-right.others.now (judged_by (c.args.room - 1) c.args.floor c.operators.found c.in_ok-op.op c.top_fixity.result c.tall.result c.judge.result c.top_fixity.ensures c.tall.ensures c.judge.ensures ∙ c.in_default.is)
    (on_floor (c.args.room - 1) c.in_ok-op.op c.floor.result c.in_ok-op.inner.now (c.in_ok-right.right, c.in_ok-right.others.now) c.floor.ensures c.in_ok-right.ensures)
    ∙ ap (λ (x : Grown). ended joined x (steps (taken c.args.floor) joined (suffix (c.args.room - 1) c.args.floor) x c.in_ok-right.others.now)) (sym c.in_ok-found-2.ensures)

pub returns : goal.returns
returns t c = row_end (c.args.room - 1) c.args.floor _ c.operators.found c.operators.rest.now c.operators.invariant (sym c.is_taken.ensures ∙ c.operators-test.false)
