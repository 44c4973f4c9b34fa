use Rattle.std.proofs.Common.{false, ◌++◌, ◌∷◌, [], sym, ap, ◌∙◌, append_assoc, List, max}
use Rattle.std.proofs.lemmas.Result.{err_from_is_err_and}
use Rattle.readers.specs.Reader.{Reader, mapped, steps}
use Rattle.readers.specs.Forms.{height_of}
use Rattle.sml_lex.specs.declared.token.Token.{Token}
use Rattle.sml_ast.specs.declared.program.StrDec.{StrDec}
use Rattle.sml_scan.proofs.Rows.{gathered}
use Rattle.sml_grammar_exp.specs.Decs.{Changes}
use Rattle.sml_grammar_mod.specs.Strs.{Sd, str_after, strdec_changes}
use Rattle.sml_grammar_mod.specs.ReadStrs.{begins_strdec, str_item_read, strdec_read}
use Rattle.sml_parse_mod.specs.Levels as levels
use Rattle.sml_parse_mod.specs.Trees as trees
use Rattle.sml_parse_mod.proofs.Scopes.{all_more}
use Rattle.sml_parse_exp.proofs.StepRows.{steps_turn, steps_end, steps_item_fails}
use Rattle.sml_parse_mod.proofs.Steps.{str_item_less}
use Rattle.sml_parse_mod.proofs.inside.Inside.row_of_decs.Goals as goal

pub returns-in_err-other-clause-gives : goal.returns-in_err-other-clause-gives
returns-in_err-other-clause-gives g c =
    let p = err_from_is_err_and c.from_residual.result c.from_residual.ensures.1 in
    let q : Changes → Reader Token Sd = λ cs. str_item_read (strdec_read c.args.room false cs) in
    rw (p.1, p.2) (steps_item_fails begins_strdec str_after q (str_item_less c.args.room) trees.strdec_tree height_of c.items.found c.items.height c.items.scope c.items.rest.now (mapped trees.strdecs (levels.row_of_decs c.args.scope.now c.args.room) c.args.tokens.now) c.items.invariant.0 c.in_err-other.field-0.0 (sym c.begins_strdec.ensures ∙ c.items-test.true) c.in_err-other.ensures.gives)

pub items-smaller : goal.items-smaller
items-smaller g c = str_item_less c.args.room c.items.scope c.items.rest.now (c.in_ok-other.other, c.in_ok-other.after.now) c.in_ok-other.ensures.gives

pub items-preserved : goal.items-preserved
items-preserved g c =
    let q : Changes → Reader Token Sd = λ cs. str_item_read (strdec_read c.args.room false cs) in
    let more = c.in_ok-other.ensures.moves in
    let found = c.in_ok-push.ensures.ok in (
      rw (found, c.higher-height.ensures) (steps_turn begins_strdec str_after q (str_item_less c.args.room) trees.strdec_tree height_of c.items.found c.items.height c.items.scope c.items.rest.now (mapped trees.strdecs (levels.row_of_decs c.args.scope.now c.args.room) c.args.tokens.now) c.items.invariant.0 (c.in_ok-other.other, c.in_ok-other.after.now) (sym c.begins_strdec.ensures ∙ c.items-test.true) c.in_ok-other.ensures.gives
          ∙ ap (λ (cs : Changes). gathered trees.strdec_tree height_of (c.items.found ++ c.in_ok-other.other.0 ∷ []) (max c.items.height c.in_ok-other.other.1) (steps begins_strdec str_after q cs c.in_ok-other.after.now)) (sym more)),
      more ∙ (ap (λ (cs : Changes). cs ++ strdec_changes c.in_ok-other.other.0) c.items.invariant.1 ∙ (append_assoc c.args.scope.now (trees.all_changes c.items.found) (strdec_changes c.in_ok-other.other.0)
          ∙ (ap (λ (cs : Changes). c.args.scope.now ++ cs) (sym (all_more c.items.found c.in_ok-other.other.0)) ∙ ap (λ (ds : List StrDec). c.args.scope.now ++ trees.all_changes ds) (sym found)))),
    )

pub returns-clause-gives : goal.returns-clause-gives
returns-clause-gives g c = steps_end begins_strdec str_after (λ (cs : Changes). str_item_read (strdec_read c.args.room false cs)) (str_item_less c.args.room) trees.strdec_tree height_of c.items.found c.items.height c.items.scope c.items.rest.now (mapped trees.strdecs (levels.row_of_decs c.args.scope.now c.args.room) c.args.tokens.now) c.items.invariant.0 (sym c.begins_strdec.ensures ∙ c.items-test.false)

pub returns-clause-moves : goal.returns-clause-moves
returns-clause-moves g c = c.items.invariant.1
