-- What was read, as the items that it is.
use Rattle.std.specs.Prelude.{List, [], ◌∷◌, Option, Some, None, option_map}
use Rattle.sml_ast.specs.declared.bare_pat.BarePat.{BarePat, out-BarePat}
use Rattle.sml_ast.specs.declared.bare_exp.BareExp.{BareExp, out-BareExp}
use Rattle.built_items.specs.Built.{item_of, target_of, value_of}
use Rattle.built_items.specs.declared.item.SourceItem.{SourceItem}
use Rattle.built_items.specs.declared.forms.Reading.{Reading}
use Rattle.built_items.specs.declared.forms.Reading.TheVariants.{Item, Directive, Unbuilt}

abbrev pub items_read : Reading → Option (List SourceItem)
items_read (Item i) = Some (i ∷ [])
items_read Directive = Some []
items_read Unbuilt = None

-- the item of `val pat = exp`
abbrev pub items_of_binding : BarePat → BareExp → Option (List SourceItem)
items_of_binding pat exp = option_map (λ i. i ∷ []) (item_of (target_of (out-BarePat pat)) (value_of (out-BareExp exp)))
