use Rattle.std.proofs.Common.{sym, ap, ◌∙◌, arith}
use Rattle.std.proofs.lemmas.Result.{err_from_is_err_and}
use Rattle.readers.specs.Reader.{steps}
use Rattle.readers.specs.Forms.{at_least}
use Rattle.readers.proofs.StepLoop.{ended}
use Rattle.sml_grammar.specs.Words.{COLON}
use Rattle.sml_grammar.specs.Tokens.{is}
use Rattle.sml_grammar.specs.Pats.{Pt, typed_of}
use Rattle.sml_scan.proofs.Grown.{next, grown_turn, grown_end, grown_deep, grown_fails}
use Rattle.sml_parse_pat.specs.Levels as levels
use Rattle.sml_parse_pat.proofs.Steps.{annotation_less}
use Rattle.sml_parse_pat.proofs.inside.Inside.typed.Goals as goal

pub returns-then-room-least : goal.returns-then-room-least
returns-then-room-least g c =
    grown_deep (is COLON) (at_least 2) typed_of (levels.annotation c.args.room) c.args.room (annotation_less c.args.room) c.types.found c.types.rest.now _ c.types.invariant
    (sym c.is_next.ensures ∙ c.types-test.true) (let e = c.higher-least.ensures in let lt = c.if-room-least.true in omega arith)

pub types-preserved : goal.types-preserved
types-preserved g c =
    grown_turn (is COLON) (at_least 2) typed_of (levels.annotation c.args.room) c.args.room (annotation_less c.args.room) c.types.found c.types.rest.now (c.in_ok-ty.ty, c.in_ok-ty.after.now) _
    c.types.invariant (sym c.is_next.ensures ∙ c.types-test.true) (let e = c.higher-least.ensures in let le = c.if-room-least.false in omega arith) c.in_ok-ty.ensures
    ∙ ap (λ (x : Pt). ended typed_of x (steps (is COLON) typed_of (next (is COLON) (at_least 2) typed_of (levels.annotation c.args.room) c.args.room) x c.in_ok-ty.after.now)) (sym c.in_ok-found-2.ensures)

pub returns-in_err-ty : goal.returns-in_err-ty
returns-in_err-ty g c =
    let p = err_from_is_err_and c.from_residual-in_err-ty.result c.from_residual-in_err-ty.ensures.1 in
    rw (p.1, p.2) (grown_fails (is COLON) (at_least 2) typed_of (levels.annotation c.args.room) c.args.room (annotation_less c.args.room) c.in_err-ty.field-0.0 c.types.found c.types.rest.now _ c.types.invariant
    (sym c.is_next.ensures ∙ c.types-test.true) (let e = c.higher-least.ensures in let le = c.if-room-least.false in omega arith) c.in_err-ty.ensures)

pub types-smaller : goal.types-smaller
types-smaller g c = annotation_less c.args.room c.types.rest.now (c.in_ok-ty.ty, c.in_ok-ty.after.now) c.in_ok-ty.ensures

pub returns : goal.returns
returns g c =
    grown_end (is COLON) (at_least 2) typed_of (levels.annotation c.args.room) c.args.room (annotation_less c.args.room) c.types.found c.types.rest.now _ c.types.invariant
    (sym c.is_next.ensures ∙ c.types-test.false)
