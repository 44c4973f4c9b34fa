use Rattle.std.proofs.Common.{sym, subst}
use Rattle.oc_ast.specs.Plain.{PItems}
use Rattle.oc_rules.specs.Allowed.{Allowed}
use Rattle.tl_session.proofs.Lawful.{unit_allowed}
use Rattle.tl_session.proofs.unit.unit_text.Goals as goal

pub print-requires : goal.print-requires
print-requires c =
    let P : PItems → Type 0 = λ text. Allowed text in
    subst P (sym c.in_ok-tree.ensures) (unit_allowed c.args.number c.args.name.now c.args.items.now c.requires)
