use Rattle.std.proofs.Common.{false, ◌++◌, ◌∷◌, [], sym, ap, ◌∙◌, append_assoc, List, max}
use Rattle.std.proofs.lemmas.Result.{err_from_is_err_and}
use Rattle.readers.specs.Reader.{steps}
use Rattle.readers.specs.Forms.{height_of}
use Rattle.sml_ast.specs.declared.exp.Dec.{Dec}
use Rattle.sml_scan.proofs.Rows.{gathered}
use Rattle.sml_grammar_exp.specs.Decs.{Changes, changes, after}
use Rattle.sml_grammar_exp.specs.ReadDecs.{begins_dec, item_read}
use Rattle.sml_grammar_exp.specs.ReadLevels.{dec_read}
use Rattle.sml_parse_exp.specs.Trees as trees
use Rattle.sml_parse_exp.proofs.Scopes.{all_more}
use Rattle.sml_parse_exp.proofs.StepRows.{steps_turn, steps_end, steps_item_fails}
use Rattle.sml_parse_exp.proofs.Steps.{item_less}
use Rattle.sml_parse_exp.proofs.inside.Inside.row_of_decs.Goals as goal

pub returns-in_err-other-clause-gives : goal.returns-in_err-other-clause-gives
returns-in_err-other-clause-gives g c =
    let p = err_from_is_err_and c.from_residual.result c.from_residual.ensures.1 in
    rw (p.1, p.2) (steps_item_fails begins_dec after (λ (cs : Changes). item_read (dec_read c.args.room false cs)) (λ (cs : Changes). item_less c.args.room cs) trees.dec_tree height_of c.items.found c.items.height c.items.scope c.items.rest.now _ c.items.invariant.0 c.in_err-other.field-0.0 (sym c.begins_dec.ensures ∙ c.items-test.true) c.in_err-other.ensures.gives)

pub items-smaller : goal.items-smaller
items-smaller g c = item_less c.args.room c.items.scope c.items.rest.now (c.in_ok-other.other, c.in_ok-other.after.now) c.in_ok-other.ensures.gives

pub items-preserved : goal.items-preserved
items-preserved g c =
    let more = c.in_ok-other.ensures.moves in
    let found = c.in_ok-push.ensures.ok in (
      rw (found, c.higher-height.ensures) (steps_turn begins_dec after (λ (cs : Changes). item_read (dec_read c.args.room false cs)) (λ (cs : Changes). item_less c.args.room cs) trees.dec_tree height_of c.items.found c.items.height c.items.scope c.items.rest.now _ c.items.invariant.0 (c.in_ok-other.other, c.in_ok-other.after.now) (sym c.begins_dec.ensures ∙ c.items-test.true) c.in_ok-other.ensures.gives
          ∙ ap (λ (cs : Changes). gathered trees.dec_tree height_of (c.items.found ++ c.in_ok-other.other.0 ∷ []) (max c.items.height c.in_ok-other.other.1) (steps begins_dec after (λ (cs : Changes). item_read (dec_read c.args.room false cs)) cs c.in_ok-other.after.now)) (sym more)),
      more ∙ (ap (λ (cs : Changes). cs ++ changes c.in_ok-other.other.0) c.items.invariant.1 ∙ (append_assoc c.args.scope.now (trees.all_changes c.items.found) (changes c.in_ok-other.other.0)
          ∙ (ap (λ (cs : Changes). c.args.scope.now ++ cs) (sym (all_more c.items.found c.in_ok-other.other.0)) ∙ ap (λ (ds : List Dec). c.args.scope.now ++ trees.all_changes ds) (sym found)))),
    )

pub returns-clause-gives : goal.returns-clause-gives
returns-clause-gives g c = steps_end begins_dec after (λ (cs : Changes). item_read (dec_read c.args.room false cs)) (λ (cs : Changes). item_less c.args.room cs) trees.dec_tree height_of c.items.found c.items.height c.items.scope c.items.rest.now _ c.items.invariant.0 (sym c.begins_dec.ensures ∙ c.items-test.false)

pub returns-clause-moves : goal.returns-clause-moves
returns-clause-moves g c = c.items.invariant.1
