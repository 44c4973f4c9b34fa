use Rattle.std.proofs.Common.{arith, sym, ◌∙◌}
use Rattle.sml_restrict_core.specs.Patterns.{pat_tyvars}
use Rattle.sml_restrict_core.specs.Types.{opt_tyvars}
use Rattle.sml_restrict_core.proofs.After.{contains_first}
use Rattle.sml_restrict_core.proofs.Folds.{pats}
use Rattle.sml_restrict_core.proofs.pat.+occurs_in_pat.Goals as goal

pub occurs_in_field-returns-then-occurs_in_opt_ty : goal.occurs_in_field-returns-then-occurs_in_opt_ty
occurs_in_field-returns-then-occurs_in_opt_ty t c =
    let first = contains_first c.args.name.now (opt_tyvars c.in-Pun.ty) (pat_tyvars c.in-Some.pat) (sym c.occurs_in_opt_ty-in-Some.ensures ∙ c.if-occurs_in_opt_ty.true) in
    grind (arith, pats)
