use Rattle.std.proofs.Common.{◌≡◌, [], List, Option, Some, None, Ok, sym, ap, subst, ◌∙◌}
use Rattle.readers.specs.Given.{Fails}
use Rattle.sml_lex.specs.declared.token.Token.{Token}
use Rattle.sml_grammar_exp.specs.Decs.{Changes}
use Rattle.sml_grammar_mod.specs.Programs.{left_in}
use Rattle.sml_parse_mod.specs.Late.{unsupported}
use Rattle.sml_parse_mod.specs.Levels as levels
use Rattle.sml_parse_mod.specs.Promise.{told}
use Rattle.sml_parse_mod.proofs.Whole.{fault_only, fault_right, found_program, only_program, unsupported_only, unsupported_right}
use Rattle.sml_parse_mod.proofs.source.parse.Goals as goal

pub returns-in-Err-clause-only : goal.returns-in-Err-clause-only
returns-in-Err-clause-only c q left d =
    let P : Changes → Type 0 = λ cs. Fails c.in-Err.error (levels.whole cs c.args.tokens.now) in
    let Q : List Token → Type 0 = λ s. Fails c.in-Err.error (levels.whole c.in_ok-scope.scope s) in
    fault_only (told c.args.fix.now) c.args.tokens.now c.in-Err.error c.fault.result c.fault.ensures (subst P c.in_ok-scope.ensures (subst Q c.items-tokens.ensures c.in-Err.ensures.gives)) q left d

pub returns-in-Err-clause-refused : goal.returns-in-Err-clause-refused
returns-in-Err-clause-refused c =
    let P : Changes → Type 0 = λ cs. Fails c.in-Err.error (levels.whole cs c.args.tokens.now) in
    let Q : List Token → Type 0 = λ s. Fails c.in-Err.error (levels.whole c.in_ok-scope.scope s) in
    fault_right (told c.args.fix.now) c.args.tokens.now c.in-Err.error c.fault.result c.fault.ensures (subst P c.in_ok-scope.ensures (subst Q c.items-tokens.ensures c.in-Err.ensures.gives))

pub returns-in-Some-clause-only : goal.returns-in-Some-clause-only
returns-in-Some-clause-only c q left d =
    let i = ap (λ (cs : Changes). levels.whole cs c.args.tokens.now) (sym c.in_ok-scope.ensures) ∙ (ap (levels.whole c.in_ok-scope.scope) (sym c.items-tokens.ensures) ∙ c.in-Ok.ensures.gives) in
    unsupported_only (told c.args.fix.now) c.args.tokens.now c.in-Ok.found i c.in-Some.refusal (ap (λ (s : List Token). unsupported s c.in-Ok.found) (sym c.items-tokens.ensures) ∙ sym c.in-Some.ensures) q left d

pub returns-in-Some-clause-refused : goal.returns-in-Some-clause-refused
returns-in-Some-clause-refused c =
    let i = ap (λ (cs : Changes). levels.whole cs c.args.tokens.now) (sym c.in_ok-scope.ensures) ∙ (ap (levels.whole c.in_ok-scope.scope) (sym c.items-tokens.ensures) ∙ c.in-Ok.ensures.gives) in
    unsupported_right (told c.args.fix.now) c.args.tokens.now c.in-Ok.found i _ c.in-Some.refusal (c.in-Ok.ensures.moves ∙ ap (λ (cs : Changes). left_in cs c.in-Ok.found) c.in_ok-scope.ensures)
    (ap (λ (s : List Token). unsupported s c.in-Ok.found) (sym c.items-tokens.ensures) ∙ sym c.in-Some.ensures)

pub returns-clause-found : goal.returns-clause-found
returns-clause-found c =
    let i = ap (λ (cs : Changes). levels.whole cs c.args.tokens.now) (sym c.in_ok-scope.ensures) ∙ (ap (levels.whole c.in_ok-scope.scope) (sym c.items-tokens.ensures) ∙ c.in-Ok.ensures.gives) in
    found_program (told c.args.fix.now) c.args.tokens.now c.in-Ok.found i _ _ (c.in-Ok.ensures.moves ∙ ap (λ (cs : Changes). left_in cs c.in-Ok.found) c.in_ok-scope.ensures)
    (c.in_ok-copy-in-None.ensures ∙ c.fixities.ensures) (ap (λ (s : List Token). unsupported s c.in-Ok.found) (sym c.items-tokens.ensures) ∙ sym c.in-None.ensures)

pub returns-clause-only : goal.returns-clause-only
returns-clause-only c q left d =
    let i = ap (λ (cs : Changes). levels.whole cs c.args.tokens.now) (sym c.in_ok-scope.ensures) ∙ (ap (levels.whole c.in_ok-scope.scope) (sym c.items-tokens.ensures) ∙ c.in-Ok.ensures.gives) in
    only_program (told c.args.fix.now) c.args.tokens.now c.in-Ok.found i c.in_ok-copy-in-None.field-0 _ (c.in-Ok.ensures.moves ∙ ap (λ (cs : Changes). left_in cs c.in-Ok.found) c.in_ok-scope.ensures) (c.in_ok-copy-in-None.ensures ∙ c.fixities.ensures) q left d
