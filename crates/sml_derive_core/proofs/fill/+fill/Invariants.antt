use Rattle.std.proofs.Common.{◌≡◌, ◌++◌, ◌+◌, ◌*◌, drop, map}
use Rattle.tl_text.specs.Pairs.{map_second}
use Rattle.sml_ast.specs.declared.bare_ty.BareTy.TheViews.{size-BareTy, weight-BareTy-TFields-1, weight-BareTy-TCon-1}
use Rattle.sml_derive_core.specs.Withtype.{filled}
use Rattle.sml_derive_core.proofs.fill.+fill.Given as goal

abbrev pub decreases-fill : goal.decreases-fill
decreases-fill l = 2 * size-BareTy l.ty.now

abbrev pub decreases-fill_fields : goal.decreases-fill_fields
decreases-fill_fields l = 2 * weight-BareTy-TFields-1 l.fields.now + 1

abbrev pub decreases-fill_tys : goal.decreases-fill_tys
decreases-fill_tys l = 2 * weight-BareTy-TCon-1 l.tys.now + 1

abbrev pub invariant-fill_tys-loop-one : goal.invariant-fill_tys-loop-one
invariant-fill_tys-loop-one l = l.done ++ map (filled l.params l.args) (drop l.one-index l.tys) ≡ map (filled l.params l.args) l.tys

abbrev pub invariant-fill_fields-loop-one : goal.invariant-fill_fields-loop-one
invariant-fill_fields-loop-one l = l.done ++ map_second (filled l.params l.args) (drop l.one-index l.fields) ≡ map_second (filled l.params l.args) l.fields
