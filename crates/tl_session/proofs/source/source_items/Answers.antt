use Rattle.std.proofs.lemmas.Result.{err_from_is_err_and}
use Rattle.sml_fix.specs.Fixities.{settings}
use Rattle.tl_session.proofs.SourceItems.{text_refused, text_fails, leaves_only, program_refused, program_fails, built_passes}
use Rattle.tl_session.proofs.source.source_items.Goals as goal

pub returns-in_err-program-clause-refused : goal.returns-in_err-program-clause-refused
returns-in_err-program-clause-refused c =
    let p = err_from_is_err_and c.from_residual.result c.from_residual.ensures.1 in
    rw (p.1, p.2) (text_refused c.args.number (settings c.args.fix.now) c.args.bytes.now c.in_err-program.field-0.0 c.in_err-program.ensures.refused)

pub returns-in_err-program-clause-fails : goal.returns-in_err-program-clause-fails
returns-in_err-program-clause-fails c =
    let p = err_from_is_err_and c.from_residual.result c.from_residual.ensures.1 in
    rw (p.1, p.2) (text_fails c.args.number (settings c.args.fix.now) c.args.bytes.now c.in_err-program.field-0.0 c.in_err-program.ensures.only c.in_err-program.ensures.refuses)

pub returns-in_err-items-clause-refused : goal.returns-in_err-items-clause-refused
returns-in_err-items-clause-refused c =
    let p = err_from_is_err_and c.from_residual-in_err-items.result c.from_residual-in_err-items.ensures.1 in
    rw (p.1, p.2) (program_refused c.args.number (settings c.args.fix.now) c.args.bytes.now c.in_ok-program.program c.in_ok-program.left
    c.in_ok-program.ensures.found c.in_err-items.field-0.0 c.in_err-items.ensures)

pub returns-in_err-items-clause-fails : goal.returns-in_err-items-clause-fails
returns-in_err-items-clause-fails c =
    let p = err_from_is_err_and c.from_residual-in_err-items.result c.from_residual-in_err-items.ensures.1 in
    rw (p.1, p.2) (program_fails c.args.number (settings c.args.fix.now) c.args.bytes.now c.in_ok-program.program c.in_ok-program.left
    c.in_ok-program.ensures.only c.in_ok-program.ensures.refuses c.in_err-items.field-0.0 c.in_err-items.ensures)

pub returns-clause-only : goal.returns-clause-only
returns-clause-only c =
    leaves_only c.args.number (settings c.args.fix.now) c.args.bytes.now c.in_ok-program.program c.in_ok-program.left c.in_ok-program.ensures.only

pub returns-clause-fails : goal.returns-clause-fails
returns-clause-fails c =
    built_passes c.args.number (settings c.args.fix.now) c.args.bytes.now c.in_ok-program.program c.in_ok-program.left
    c.in_ok-program.ensures.only c.in_ok-program.ensures.refuses c.in_ok-items.items c.in_ok-items.ensures
