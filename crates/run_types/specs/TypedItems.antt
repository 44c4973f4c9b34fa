-- The typing of a row of items, and the values of a scope.
pub use Rattle.run_types.specs.Types.{ScopeTy, no_scope_ty, reached_ty, under_ty, joined, exn_ctx, with_struct_ty, inside_ty, Weaker, HasItems}
use Rattle.run_types.specs.Types.{no_ctx, World, Puts}
use Rattle.runs.specs.Items.{Scope}

-- the values of a scope have its schemes
abbrev pub scope_has : ScopeTy → World → Scope → Type 0
scope_has d w c = Puts w d.env no_ctx c.env × Puts w d.own no_ctx c.own
