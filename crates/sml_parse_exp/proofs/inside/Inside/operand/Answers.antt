use Rattle.std.proofs.Common.{◌≡◌, false, sym, ap, subst, ◌∙◌, Ok}
use Rattle.std.proofs.lemmas.Result.{err_from_is_err_and}
use Rattle.readers.specs.Reader.{first, head_is}
use Rattle.readers.specs.Given.{Fails}
use Rattle.sml_fix.specs.Fixities.{Settings}
use Rattle.sml_grammar_exp.specs.Decs.{Changes, fixed}
use Rattle.sml_grammar_exp.specs.Exps.{Ex}
use Rattle.sml_grammar_exp.specs.ReadExps.{begins_at}
use Rattle.sml_grammar_exp.specs.ReadLevels.{at_exp_read}
use Rattle.sml_parse_exp.proofs.Atoms.{atoms_first, atoms_turn, atoms_end, atoms_fail}
use Rattle.sml_parse_exp.proofs.Steps.{at_less}
use Rattle.sml_parse_exp.proofs.inside.Inside.operand.Goals as goal

pub items-init : goal.items-init
items-init g c = (
  rw (c.in_ok-push.ensures.ok, c.new-found.ensures, c.at_place-place.ensures) (atoms_first (begins_at (fixed c.args.scope.now)) (at_exp_read c.args.room false c.args.scope.now) c.args.tokens.now (c.in_ok-first.first, c.in_ok-first.rest.now) c.in_ok-first.ensures.gives),
  c.in_ok-first.ensures.keeps,
)

pub returns-in_err-other-clause-gives : goal.returns-in_err-other-clause-gives
returns-in_err-other-clause-gives g c =
    let p = err_from_is_err_and c.from_residual-in_err-other.result c.from_residual-in_err-other.ensures.1 in
    rw (p.1, p.2) (atoms_fail (begins_at (fixed c.args.scope.now)) (at_exp_read c.args.room false c.args.scope.now) (at_less c.args.scope.now c.args.room) c.at_place-place.result c.items.found c.items.height c.items.rest.now _ c.items.invariant.0 c.in_err-other.field-0.0 (ap (λ (f : Settings). head_is (begins_at f) (first c.items.rest.now)) (ap fixed (sym c.items.invariant.1) ∙ sym c.fixities.ensures) ∙ (sym c.begins_at.ensures ∙ c.items-test.true)) (subst (λ (cs : Changes). Fails c.in_err-other.field-0.0 (at_exp_read c.args.room false cs c.items.rest.now)) c.items.invariant.1 c.in_err-other.ensures.gives))

pub items-smaller : goal.items-smaller
items-smaller g c = at_less c.args.scope.now c.args.room c.items.rest.now (c.in_ok-other.other, c.in_ok-other.after.now) (ap (λ (cs : Changes). at_exp_read c.args.room false cs c.items.rest.now) (sym c.items.invariant.1) ∙ c.in_ok-other.ensures.gives)

pub items-preserved : goal.items-preserved
items-preserved g c = (
  rw (c.in_ok-push-2.ensures.ok, c.higher-height.ensures) (atoms_turn (begins_at (fixed c.args.scope.now)) (at_exp_read c.args.room false c.args.scope.now) (at_less c.args.scope.now c.args.room) c.at_place-place.result c.items.found c.items.height c.items.rest.now _ c.items.invariant.0 (c.in_ok-other.other, c.in_ok-other.after.now) (ap (λ (f : Settings). head_is (begins_at f) (first c.items.rest.now)) (ap fixed (sym c.items.invariant.1) ∙ sym c.fixities.ensures) ∙ (sym c.begins_at.ensures ∙ c.items-test.true)) (ap (λ (cs : Changes). at_exp_read c.args.room false cs c.items.rest.now) (sym c.items.invariant.1) ∙ c.in_ok-other.ensures.gives)),
  c.in_ok-other.ensures.keeps ∙ c.items.invariant.1,
)

pub returns-clause-gives : goal.returns-clause-gives
returns-clause-gives g c = atoms_end (begins_at (fixed c.args.scope.now)) (at_exp_read c.args.room false c.args.scope.now) (at_less c.args.scope.now c.args.room) c.at_place-place.result c.items.found c.items.height c.items.rest.now _ c.items.invariant.0 (ap (λ (f : Settings). head_is (begins_at f) (first c.items.rest.now)) (ap fixed (sym c.items.invariant.1) ∙ sym c.fixities.ensures) ∙ (sym c.begins_at.ensures ∙ c.items-test.false)) ∙ ap (λ (x : Ex). Ok (x, c.items.rest.now)) (sym c.in_ok-tree.ensures)

pub returns-clause-keeps : goal.returns-clause-keeps
returns-clause-keeps g c = c.items.invariant.1
