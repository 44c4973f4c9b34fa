use Rattle.std.proofs.Common.{false, sym, ◌∙◌, arith}
use Rattle.sml_grammar.specs.Words.{IF, WHILE}
use Rattle.sml_grammar_exp.specs.Exps.{if_of, while_of}
use Rattle.readers.specs.Reader.{mapped, both, token_by, only, else_by}
use Rattle.sml_grammar.specs.Tokens.{is, the}
use Rattle.sml_parse_bind.proofs.Nodes.{only_node, else_node, only_closed, else_closed, else_skip}
use Rattle.sml_parse_exp.specs.Levels as levels
use Rattle.sml_parse_exp.proofs.inside.Inside.far_choice.Goals as goal

pub returns-then-is_next-clause-gives : goal.returns-then-is_next-clause-gives
returns-then-is_next-clause-gives g c =
    rw (else_node IF 2 if_of (levels.conditional c.args.scope.now c.args.room) c.args.room c.args.tokens.now c.in_ok-place.rest.now c.in_ok-place.place (sym c.is_next.ensures ∙ c.if-is_next.true) (let le = c.if-room-lt2.false in omega arith) c.in_ok-place.ensures (else_by (is WHILE) 2 (mapped while_of (both (token_by (the WHILE)) (levels.repetition c.args.scope.now c.args.room))) (levels.far_match c.args.scope.now c.args.room) c.args.room)) c.if_exp.ensures.gives

pub returns-then-is_next-2-clause-gives : goal.returns-then-is_next-2-clause-gives
returns-then-is_next-2-clause-gives g c =
    rw (else_skip (is IF) 2 (mapped if_of (both (token_by (the IF)) (levels.conditional c.args.scope.now c.args.room))) (else_by (is WHILE) 2 (mapped while_of (both (token_by (the WHILE)) (levels.repetition c.args.scope.now c.args.room))) (levels.far_match c.args.scope.now c.args.room) c.args.room) c.args.room c.args.tokens.now (sym c.is_next.ensures ∙ c.if-is_next.false))
    (rw (else_node WHILE 2 while_of (levels.repetition c.args.scope.now c.args.room) c.args.room c.args.tokens.now c.in_ok-place-2.rest.now c.in_ok-place-2.place (sym c.is_next-2.ensures ∙ c.if-is_next-2.true) (let le = c.if-room-lt2-2.false in omega arith) c.in_ok-place-2.ensures (levels.far_match c.args.scope.now c.args.room)) c.while_exp.ensures.gives)
