use Rattle.std.proofs.lemmas.Result.{err_from_is_err_and}
use Rattle.sml_fix.specs.Fixities.{settings}
use Rattle.sml_parse_mod.specs.Promise.{told}
use Rattle.sml_front.proofs.Told.{told_leaves}
use Rattle.sml_front.proofs.Steps.{lex_only, lex_refused, lex_refuses, parse_only, parse_refused, parse_refuses, break_only, break_refused, break_refuses, source_refuses, source_found, source_only}
use Rattle.sml_front.proofs.source.read_source.Goals as goal

pub returns-in_err-tokens-clause-only : goal.returns-in_err-tokens-clause-only
returns-in_err-tokens-clause-only c =
    let p = err_from_is_err_and c.from_residual.result c.from_residual.ensures.1 in
    rw (p.1, p.2) (lex_only c.args.number (told c.args.fix.now) c.args.bytes.now (settings c.args.fix.now) (told_leaves c.args.fix.now) c.in_err-tokens.field-0.0 c.in_err-tokens.ensures.only_tokens)

pub returns-in_err-tokens-clause-refused : goal.returns-in_err-tokens-clause-refused
returns-in_err-tokens-clause-refused c =
    let p = err_from_is_err_and c.from_residual.result c.from_residual.ensures.1 in
    rw (p.1, p.2) (lex_refused c.args.number (told c.args.fix.now) c.args.bytes.now (settings c.args.fix.now) (told_leaves c.args.fix.now) c.in_err-tokens.field-0.0 c.in_err-tokens.ensures.refused)

pub returns-in_err-tokens-clause-refuses : goal.returns-in_err-tokens-clause-refuses
returns-in_err-tokens-clause-refuses c =
    let p = err_from_is_err_and c.from_residual.result c.from_residual.ensures.1 in
    rw (p.1, p.2) (lex_refuses c.args.number (told c.args.fix.now) c.args.bytes.now (settings c.args.fix.now) (told_leaves c.args.fix.now) c.in_err-tokens.field-0.0 c.in_err-tokens.ensures.only_tokens c.in_err-tokens.ensures.only_refusal)

pub returns-in_err-program-clause-only : goal.returns-in_err-program-clause-only
returns-in_err-program-clause-only c =
    let p = err_from_is_err_and c.from_residual-in_err-program.result c.from_residual-in_err-program.ensures.1 in
    rw (p.1, p.2) (parse_only c.args.number (told c.args.fix.now) c.args.bytes.now (settings c.args.fix.now) (told_leaves c.args.fix.now) c.in_ok-tokens.tokens c.in_ok-tokens.ensures.accepted c.in_ok-tokens.ensures.only_tokens c.in_ok-tokens.ensures.only_refusal c.in_err-program.field-0.0 c.in_err-program.ensures.only)

pub returns-in_err-program-clause-refused : goal.returns-in_err-program-clause-refused
returns-in_err-program-clause-refused c =
    let p = err_from_is_err_and c.from_residual-in_err-program.result c.from_residual-in_err-program.ensures.1 in
    rw (p.1, p.2) (parse_refused c.args.number (told c.args.fix.now) c.args.bytes.now (settings c.args.fix.now) (told_leaves c.args.fix.now) c.in_ok-tokens.tokens c.in_ok-tokens.ensures.accepted c.in_ok-tokens.ensures.only_tokens c.in_ok-tokens.ensures.only_refusal c.in_err-program.field-0.0 c.in_err-program.ensures.refused)

pub returns-in_err-program-clause-refuses : goal.returns-in_err-program-clause-refuses
returns-in_err-program-clause-refuses c =
    let p = err_from_is_err_and c.from_residual-in_err-program.result c.from_residual-in_err-program.ensures.1 in
    rw (p.1, p.2) (parse_refuses c.args.number (told c.args.fix.now) c.args.bytes.now (settings c.args.fix.now) (told_leaves c.args.fix.now) c.in_ok-tokens.tokens c.in_ok-tokens.ensures.accepted c.in_ok-tokens.ensures.only_tokens c.in_ok-tokens.ensures.only_refusal c.in_err-program.field-0.0 c.in_err-program.ensures.refused)

pub returns-in-Err-clause-only : goal.returns-in-Err-clause-only
returns-in-Err-clause-only c =
    break_only c.args.number (told c.args.fix.now) c.args.bytes.now (settings c.args.fix.now) (told_leaves c.args.fix.now) c.in_ok-tokens.tokens c.in_ok-tokens.ensures.accepted c.in_ok-tokens.ensures.only_tokens c.in_ok-tokens.ensures.only_refusal c.in_ok-program.program c.in_ok-program.left (settings c.in_ok-program.left) c.in_ok-program.ensures.found c.in-Err.refusal c.in-Err.ensures.exact

pub returns-in-Err-clause-refused : goal.returns-in-Err-clause-refused
returns-in-Err-clause-refused c =
    break_refused c.args.number (told c.args.fix.now) c.args.bytes.now (settings c.args.fix.now) (told_leaves c.args.fix.now) c.in_ok-tokens.tokens c.in_ok-tokens.ensures.accepted c.in_ok-tokens.ensures.only_tokens c.in_ok-tokens.ensures.only_refusal c.in_ok-program.program c.in_ok-program.left (settings c.in_ok-program.left) c.in_ok-program.ensures.found c.in-Err.refusal c.in-Err.ensures.exact

pub returns-in-Err-clause-refuses : goal.returns-in-Err-clause-refuses
returns-in-Err-clause-refuses c =
    break_refuses c.args.number (told c.args.fix.now) c.args.bytes.now (settings c.args.fix.now) (told_leaves c.args.fix.now) c.in_ok-tokens.tokens c.in_ok-tokens.ensures.accepted c.in_ok-tokens.ensures.only_tokens c.in_ok-tokens.ensures.only_refusal c.in_ok-program.program c.in_ok-program.left (settings c.in_ok-program.left) c.in_ok-program.ensures.found c.in-Err.refusal c.in-Err.ensures.exact

pub returns-clause-found : goal.returns-clause-found
returns-clause-found c =
    source_found c.args.number (told c.args.fix.now) c.args.bytes.now (settings c.args.fix.now) (told_leaves c.args.fix.now) c.in_ok-tokens.tokens c.in_ok-tokens.ensures.accepted c.in_ok-tokens.ensures.only_tokens c.in_ok-tokens.ensures.only_refusal c.in_ok-program.program c.in_ok-program.left (settings c.in_ok-program.left) c.in_ok-program.ensures.found c.in_default.ensures.exact c.in_ok-derive.field-0 c.in_ok-derive.ensures

pub returns-clause-only : goal.returns-clause-only
returns-clause-only c =
    source_only c.args.number (told c.args.fix.now) c.args.bytes.now (settings c.args.fix.now) (told_leaves c.args.fix.now) c.in_ok-tokens.tokens c.in_ok-tokens.ensures.accepted c.in_ok-tokens.ensures.only_tokens c.in_ok-tokens.ensures.only_refusal c.in_ok-program.program c.in_ok-program.left (settings c.in_ok-program.left) c.in_ok-program.ensures.found c.in_default.ensures.exact c.in_ok-derive.field-0 c.in_ok-derive.ensures c.in_ok-program.ensures.only

pub returns-clause-refuses : goal.returns-clause-refuses
returns-clause-refuses c =
    source_refuses c.args.number (told c.args.fix.now) c.args.bytes.now (settings c.args.fix.now) (told_leaves c.args.fix.now) c.in_ok-tokens.tokens c.in_ok-tokens.ensures.accepted c.in_ok-tokens.ensures.only_tokens c.in_ok-tokens.ensures.only_refusal c.in_ok-program.program c.in_ok-program.left (settings c.in_ok-program.left) c.in_ok-program.ensures.found c.in_default.ensures.exact
