use Rattle.std.proofs.Common.{◌≡◌, suc, sym, ap, ◌∙◌, arith}
use Rattle.readers.specs.Reader.{row, token_by}
use Rattle.sml_fix.specs.Grouping.{atom}
use Rattle.sml_fix.specs.Reading.{is_atom, spanned}
use Rattle.sml_fix.proofs.Loops.{span_turn, span_end}
use Rattle.sml_fix.proofs.grouping.atoms.Goals as goal

pub others-preserved : goal.others-preserved
others-preserved c =
    let next : c.in_ok-end-2.end ≡ suc c.others.end = omega (arith, c.in_ok-end-2.ensures) in
    span_turn _ c.in_ok-start.start c.others.end _ c.others.rest.now c.in_ok-others.others.now c.others.invariant (sym c.is_atom.ensures ∙ c.others-test.true) c.in_ok-others.ensures
    ∙ ap (λ n. spanned c.in_ok-start.start n (row is_atom (token_by atom) c.in_ok-others.others.now)) (sym next)

pub returns : goal.returns
returns c = span_end _ c.in_ok-start.start c.others.end c.others.rest.now c.others.invariant (sym c.is_atom.ensures ∙ c.others-test.false)
