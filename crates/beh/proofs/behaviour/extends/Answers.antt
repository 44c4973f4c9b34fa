use Rattle.std.proofs.Common.{ap, ap₂, ◌∙◌}
use Rattle.std.specs.List.{starts_with}
use lib.Dec.{eqb}
use Rattle.beh.specs.View.{view, view_end}
use Rattle.beh.proofs.Prefix.{open_extends}
use Rattle.beh.proofs.behaviour.extends.Goals as goal

pub returns-in_default-More : goal.returns-in_default-More
returns-in_default-More c =
    open_extends (view c.args.long.now) (view c.args.short.now) c.starts_with.result (ap view_end c.in_default-More.is-1)
    (c.starts_with.ensures.value ∙ ap₂ (λ a b. starts_with eqb a b) c.items.ensures c.items-in_default-More.ensures)
