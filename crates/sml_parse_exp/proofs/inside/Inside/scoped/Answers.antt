use Rattle.std.proofs.Common.{false, sym, ◌∙◌, arith}
use Rattle.sml_grammar.specs.Words.{LET}
use Rattle.sml_grammar_exp.specs.Exps.{let_of}
use Rattle.sml_parse_bind.proofs.Nodes.{only_node, else_node, only_closed, else_closed, else_skip}
use Rattle.sml_parse_exp.specs.Levels as levels
use Rattle.sml_parse_exp.proofs.inside.Inside.scoped.Goals as goal

pub returns-clause-gives : goal.returns-clause-gives
returns-clause-gives g c =
    rw (only_node LET 2 let_of (levels.let_body c.args.scope.now c.args.room) c.args.room c.args.tokens.now c.in_ok-place.rest.now c.in_ok-place.place (sym c.is_next.ensures ∙ c.if-not-is_next.false) (let le = c.if-room-lt2.false in omega arith) c.in_ok-place.ensures) c.let_exp.ensures.gives
