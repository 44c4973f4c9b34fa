use Rattle.std.proofs.Common.{◌≡◌, Ok, sym, ap, subst, ◌∙◌, arith}
use Rattle.std.proofs.lemmas.Result.{err_from_is_err_and}
use Rattle.readers.specs.Given.{Fails}
use Rattle.readers.specs.Reader.{mapped}
use Rattle.readers.specs.Forms.{at_least}
use Rattle.readers.proofs.Choice.{remade}
use Rattle.sml_grammar.specs.Words.{HANDLE}
use Rattle.sml_grammar.specs.Tokens.{is}
use Rattle.sml_grammar_exp.specs.Decs.{Changes}
use Rattle.sml_grammar_exp.specs.Exps.{Ex, is_near, handle_of}
use Rattle.sml_parse_bind.proofs.Steps.{mapped_mapped}
use Rattle.sml_parse_exp.specs.Levels as levels
use Rattle.sml_parse_exp.specs.Trees as trees
use Rattle.sml_parse_exp.proofs.Near.{once_no_base, once_none, once_barred, once_deep, once_more}
use Rattle.sml_parse_exp.proofs.Pairs.{node_fails}
use Rattle.sml_parse_exp.proofs.inside.Inside.handled.Goals as goal

pub returns-in_err-found-clause-gives : goal.returns-in_err-found-clause-gives
returns-in_err-found-clause-gives g c =
    let p = err_from_is_err_and c.from_residual.result c.from_residual.ensures.1 in
    rw (p.1, p.2) (once_no_base (is HANDLE) is_near (at_least 3) handle_of (levels.handle_suffix c.args.scope.now c.args.room) c.args.room (levels.or_else c.args.scope.now c.args.room) c.in_err-found.field-0.0 c.args.tokens.now c.in_err-found.ensures.gives)

pub returns-then-not-is_next-clause-gives : goal.returns-then-not-is_next-clause-gives
returns-then-not-is_next-clause-gives g c = once_none (is HANDLE) is_near (at_least 3) handle_of (levels.handle_suffix c.args.scope.now c.args.room) c.args.room (levels.or_else c.args.scope.now c.args.room) c.args.tokens.now c.in_ok-found.rest.now (trees.seen c.in_ok-found.found) c.in_ok-found.ensures.gives (sym c.is_next.ensures ∙ c.if-not-is_next.true)

pub returns-then-not-is_near-clause-gives : goal.returns-then-not-is_near-clause-gives
returns-then-not-is_near-clause-gives g c = once_barred (is HANDLE) is_near (at_least 3) handle_of (levels.handle_suffix c.args.scope.now c.args.room) c.args.room (levels.or_else c.args.scope.now c.args.room) c.args.tokens.now c.in_ok-found.rest.now (trees.seen c.in_ok-found.found) c.in_ok-found.ensures.gives (sym c.is_next.ensures ∙ c.if-not-is_next.false) (sym c.is_near.ensures ∙ c.if-not-is_near.true)

pub returns-then-room-least-clause-gives : goal.returns-then-room-least-clause-gives
returns-then-room-least-clause-gives g c = once_deep (is HANDLE) is_near (at_least 3) handle_of (levels.handle_suffix c.args.scope.now c.args.room) c.args.room (levels.or_else c.args.scope.now c.args.room) c.args.tokens.now c.in_ok-found.rest.now (trees.seen c.in_ok-found.found) c.in_ok-found.ensures.gives (sym c.is_next.ensures ∙ c.if-not-is_next.false) (sym c.is_near.ensures ∙ c.if-not-is_near.false) (let e = c.higher-least.ensures in let lt = c.if-room-least.true in omega arith)

pub returns-in_err-rules-clause-gives : goal.returns-in_err-rules-clause-gives
unfolding Rattle.sml_ast.specs.declared.exp.AtExp.TheViews.roll-Exp denote.Hole.Carrier.roll
returns-in_err-rules-clause-gives g c =
    let p = err_from_is_err_and c.from_residual-in_err-rules.result c.from_residual-in_err-rules.ensures.1 in
    let more = once_more (is HANDLE) is_near (at_least 3) handle_of (levels.handle_suffix c.args.scope.now c.args.room) c.args.room (levels.or_else c.args.scope.now c.args.room) c.args.tokens.now c.in_ok-found.rest.now (trees.seen c.in_ok-found.found) c.in_ok-found.ensures.gives (sym c.is_next.ensures ∙ c.if-not-is_next.false) (sym c.is_near.ensures ∙ c.if-not-is_near.false) (let e = c.higher-least.ensures in let le = c.if-room-least.false in omega arith) in
    rw (p.1, p.2) (node_fails (trees.handled (trees.seen c.in_ok-found.found)) c.in_err-rules.field-0.0 _ _ (more ∙ sym (mapped_mapped trees.rules_of (trees.handled (trees.seen c.in_ok-found.found)) (levels.handle_suffix c.args.scope.now c.args.room) c.in_ok-found.rest.now))
    (subst (λ (cs : Changes). Fails c.in_err-rules.field-0.0 (mapped trees.rules_of (levels.handle_suffix cs c.args.room) c.in_ok-found.rest.now)) c.in_ok-found.ensures.keeps c.in_err-rules.ensures.gives))

pub returns-clause-gives : goal.returns-clause-gives
unfolding Rattle.sml_ast.specs.declared.exp.AtExp.TheViews.roll-Exp denote.Hole.Carrier.roll
returns-clause-gives g c =
    let more = once_more (is HANDLE) is_near (at_least 3) handle_of (levels.handle_suffix c.args.scope.now c.args.room) c.args.room (levels.or_else c.args.scope.now c.args.room) c.args.tokens.now c.in_ok-found.rest.now (trees.seen c.in_ok-found.found) c.in_ok-found.ensures.gives (sym c.is_next.ensures ∙ c.if-not-is_next.false) (sym c.is_near.ensures ∙ c.if-not-is_near.false) (let e = c.higher-least.ensures in let le = c.if-room-least.false in omega arith) in
    more ∙ (sym (mapped_mapped trees.rules_of (trees.handled (trees.seen c.in_ok-found.found)) (levels.handle_suffix c.args.scope.now c.args.room) c.in_ok-found.rest.now)
    ∙ (ap (remade (trees.handled (trees.seen c.in_ok-found.found))) (ap (λ (cs : Changes). mapped trees.rules_of (levels.handle_suffix cs c.args.room) c.in_ok-found.rest.now) (sym c.in_ok-found.ensures.keeps) ∙ c.in_ok-rules.ensures.gives) ∙ ap (λ (x : Ex). Ok (x, c.in_ok-rules.rest.now)) (sym c.in_ok-handled.ensures)))
