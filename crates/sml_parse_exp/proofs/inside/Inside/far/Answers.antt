use Rattle.std.proofs.Common.{false, sym, ◌∙◌, arith}
use Rattle.sml_grammar.specs.Words.{RAISE}
use Rattle.sml_grammar_exp.specs.Exps.{raise_of}
use Rattle.sml_parse_bind.proofs.Nodes.{only_node, else_node, only_closed, else_closed, else_skip}
use Rattle.sml_parse_exp.specs.Levels as levels
use Rattle.sml_parse_exp.proofs.inside.Inside.far.Goals as goal

pub returns-then-is_next-clause-gives : goal.returns-then-is_next-clause-gives
returns-then-is_next-clause-gives g c =
    rw (else_node RAISE 2 raise_of (levels.exp c.args.scope.now c.args.room) c.args.room c.args.tokens.now c.in_ok-place.rest.now c.in_ok-place.place (sym c.is_next.ensures ∙ c.if-is_next.true) (let le = c.if-room-lt2.false in omega arith) c.in_ok-place.ensures (levels.far_choice c.args.scope.now c.args.room)) c.raise_exp.ensures.gives
