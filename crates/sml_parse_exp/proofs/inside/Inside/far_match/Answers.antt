use Rattle.std.proofs.Common.{false, sym, ◌∙◌, arith}
use Rattle.sml_grammar.specs.Words.{CASE, FN}
use Rattle.sml_grammar_exp.specs.Exps.{case_of, fn_of}
use Rattle.readers.specs.Reader.{mapped, both, token_by, only, else_by}
use Rattle.sml_grammar.specs.Tokens.{is, the}
use Rattle.sml_parse_bind.proofs.Nodes.{only_node, else_node, only_closed, else_closed, else_skip}
use Rattle.sml_parse_exp.specs.Levels as levels
use Rattle.sml_parse_exp.proofs.inside.Inside.far_match.Goals as goal

pub returns-then-is_next-clause-gives : goal.returns-then-is_next-clause-gives
returns-then-is_next-clause-gives g c =
    rw (else_node CASE 3 case_of (levels.case_parts c.args.scope.now c.args.room) c.args.room c.args.tokens.now c.in_ok-place.rest.now c.in_ok-place.place (sym c.is_next.ensures ∙ c.if-is_next.true) (let le = c.if-room-lt3.false in omega arith) c.in_ok-place.ensures (only (is FN) 3 (mapped fn_of (both (token_by (the FN)) (levels.rules c.args.scope.now c.args.room))) c.args.room)) c.case_exp.ensures.gives

pub returns-clause-gives : goal.returns-clause-gives
returns-clause-gives g c =
    rw (else_skip (is CASE) 3 (mapped case_of (both (token_by (the CASE)) (levels.case_parts c.args.scope.now c.args.room))) (only (is FN) 3 (mapped fn_of (both (token_by (the FN)) (levels.rules c.args.scope.now c.args.room))) c.args.room) c.args.room c.args.tokens.now (sym c.is_next.ensures ∙ c.if-is_next.false))
    (rw (only_node FN 3 fn_of (levels.rules c.args.scope.now c.args.room) c.args.room c.args.tokens.now c.in_ok-place-2.rest.now c.in_ok-place-2.place (sym c.is_next-2.ensures ∙ c.if-not-is_next.false) (let le = c.if-room-lt3-2.false in omega arith) c.in_ok-place-2.ensures) c.fn_exp.ensures.gives)
