-- What holds of the items that are built: names are free, literals and strings are in their ranges.
use Rattle.std.specs.Prelude.{◌≡◌, true, List, [], ◌∷◌}
use Rattle.built_items.specs.declared.item.SourceItem.{SourceItem}
use Rattle.built_items.specs.declared.item.Target.{Target}
use Rattle.built_items.specs.declared.item.Target.TheVariants as target
use Rattle.built_items.specs.declared.item.Value.{Value}
use Rattle.built_items.specs.declared.item.Value.TheVariants as value
use Rattle.built_items.specs.Built.{is_free, is_literal, are_bytes}

abbrev pub LawfulTarget : Target → Type 0
LawfulTarget target.Wild = Unit {0}
LawfulTarget (target.Var x) = is_free x ≡ true

abbrev pub LawfulValue : Value → Type 0
LawfulValue (value.Literal l) = is_literal l ≡ true
LawfulValue (value.Printed s) = are_bytes s ≡ true

abbrev pub LawfulItem : SourceItem → Type 0
LawfulItem item = LawfulTarget item.target × LawfulValue item.value

abbrev pub LawfulItems : List SourceItem → Type 0
LawfulItems [] = Unit {0}
LawfulItems (item ∷ items) = LawfulItem item × LawfulItems items
