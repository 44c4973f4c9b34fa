-- Units as rows of items that run.
use Rattle.std.specs.Prelude.{ℕ, List, [], ◌∷◌, ◌++◌}
use Rattle.runs.specs.Items.{after}
use Rattle.runs.specs.Names.{Part}
use Rattle.runs.specs.Tree as run
use Rattle.mid_rules.specs.Basis.{bind_exn}
use Rattle.mid_rules.specs.Core.{Dec, Vals, Funs, NoValue, NewExn, SameExn, Binds, NoBinds, MoreBinds, Item, Core, Module, NoItem, Items, NoItems, MoreItems, Mod, Body, AtPath, NoMod}
use Rattle.mid_rules.specs.Erased.{abstracted, exp_tree, members, names_bound, no_rule, pat_tree}
use Rattle.mid_rules.specs.Names.{binder_path, local_name}

-- the identifiers are bound together, to the values of their binders, before the items after them
abbrev pub names_given : List (Part × ℕ) → run.Items → run.Items
names_given [] more = more
names_given (n ∷ ns) more = run.Value run.Stuck (run.PVar (binder_path n.0)) (run.Var (local_name n.1)) (names_given ns more)

abbrev pub all_names : Binds → List (Part × ℕ)
all_names NoBinds = []
all_names (MoreBinds p k a bs) = names_bound p ++ all_names bs

-- each right side is evaluated and matched before the next
abbrev pub values_bound : Binds → run.Items → run.Items
values_bound NoBinds more = more
values_bound (MoreBinds p k a bs) more = run.Value (run.Raises bind_exn) (pat_tree p) (abstracted k 0 (λ e. exp_tree e a)) (values_bound bs more)

-- a declaration at structure level
abbrev pub dec_items : Dec → run.Items → run.Items
dec_items (Vals bs) more = values_bound bs (names_given (all_names bs) more)
dec_items (Funs bs) more = run.Functions (members 0 bs) (names_given (all_names bs) more)
dec_items NoValue more = more
dec_items (NewExn q) more = run.Exception q more
dec_items (SameExn q r) more = run.Value run.Stuck (run.PVar q) (run.Var r) more

-- what has no rule has no step
abbrev pub without_rule : run.Items → run.Items
without_rule more = run.Value run.Stuck run.PAny no_rule more

abbrev mutual
  pub item_tree : Item → run.Items → run.Items
  item_tree (Core d) more = dec_items d more
  item_tree (Module x m) more = mod_tree x m more
  item_tree NoItem more = without_rule more

  pub items_tree : Items → run.Items
  items_tree NoItems = run.End
  items_tree (MoreItems i is) = item_tree i (items_tree is)

  pub mod_tree : Part → Mod → run.Items → run.Items
  mod_tree x (Body is) more = run.Struct x (items_tree is) more
  mod_tree x (AtPath path) more = run.Alias x path more
  mod_tree x NoMod more = without_rule more

-- units one after another, as one row: before the homes are placed they are declarations in one environment
abbrev pub units_tree : List Items → run.Items
units_tree [] = run.End
units_tree (u ∷ us) = after (items_tree u) (units_tree us)

-- units whose homes are placed: each is a structure of its name
abbrev pub placed_tree : List (Part × Items) → run.Items
placed_tree [] = run.End
placed_tree (u ∷ us) = run.Struct u.0 (items_tree u.1) (placed_tree us)
