-- What is written for sources: the module of each source, and the module `Rt`.
use Rattle.std.specs.Prelude.{ℕ, ◌==◌, if◌then◌else◌, pos, List, [], ◌∷◌, ◌++◌, map, codes}
use Rattle.std.specs.Char.{is_ascii_alphanumeric}
use Rattle.std.specs.List.{list_any}
use Rattle.std.specs.Fmt.{decimal}
use Rattle.tl_text.specs.declared.lit.Lit.{Lit}
use Rattle.tl_text.specs.declared.lit.Lit.TheVariants as lit
use Rattle.built_items.specs.declared.item.SourceItem.{SourceItem}
use Rattle.built_items.specs.declared.item.Target.{Target}
use Rattle.built_items.specs.declared.item.Target.TheVariants as target
use Rattle.built_items.specs.declared.item.Value.{Value}
use Rattle.built_items.specs.declared.item.Value.TheVariants as value
use Rattle.oc_names.specs.Mangled.{mangled}
use Rattle.oc_names.specs.declared.names.NameKind.TheVariants as kind
use Rattle.oc_ast.specs.declared.literal.OcLit.{OcLit}
use Rattle.oc_ast.specs.declared.literal.OcLit.TheVariants as oc
use Rattle.oc_ast.specs.View.{row_of_items}
use Rattle.oc_ast.specs.Plain.{TAt, TCon, NoTys, Alias, Any, PVar, PAt, Const, Val, PPat, Is, PSimple, One, Call, Fun, PItem, Let, Types, Module, Struct, PItems, NoItems, MoreItems}

-- what follows the last slash of a name, or the whole name
abbrev pub after_slash : List ℕ → List ℕ
after_slash [] = []
after_slash (b ∷ rest) = if list_any (λ c. c == 47) (b ∷ rest) then after_slash rest else b ∷ rest

-- what stands before the first dot, or all
abbrev pub before_dot : List ℕ → List ℕ
before_dot [] = []
before_dot (b ∷ rest) = if b == 46 then [] else b ∷ before_dot rest

-- an ASCII letter or digit as it is, any other byte as _
abbrev pub plain_byte : ℕ → ℕ
plain_byte b = if is_ascii_alphanumeric b then b else 95

-- the base of a source's name: after the last slash, before the first dot in that, other bytes as _
abbrev pub base_of : List ℕ → List ℕ
base_of name = map plain_byte (before_dot (after_slash name))

-- the name of the module of source k: U, k in decimal, _ and the base
abbrev pub unit_name : ℕ → List ℕ → List ℕ
unit_name k base = 85 ∷ (decimal k ++ 95 ∷ base)

-- the literal of a source's literal; a word is its number
abbrev pub literal_of : Lit → OcLit
literal_of (lit.Int z) = oc.Int z
literal_of (lit.Word n) = oc.Int (pos n)
literal_of (lit.Char c) = oc.Char c
literal_of (lit.Text bytes) = oc.Text bytes

-- _, or the written name of a variable
abbrev pub target_tree : Target → PPat
target_tree target.Wild = PAt Any
target_tree (target.Var x) = PAt (PVar (mangled kind.Value x))

-- a literal, or Rt.print "s"
abbrev pub value_tree : Value → PSimple
value_tree (value.Literal l) = One (Const (literal_of l))
value_tree (value.Printed s) = Call (Val (codes "Rt" ∷ codes "print" ∷ [])) (Const (oc.Text s))

-- the item of an item: let pat = exp
abbrev pub item_tree : SourceItem → PItem
item_tree item = Let (target_tree item.target) (value_tree item.value)

-- the items of a row of items
abbrev pub items_tree : List SourceItem → PItems
items_tree items = row_of_items (map item_tree items)

-- the unit of source k: one module with the items of the source
abbrev pub unit_tree : ℕ → List ℕ → List SourceItem → PItems
unit_tree k base items = MoreItems (Module (unit_name k base) (Struct (items_tree items))) NoItems

-- type word = int
abbrev pub word_item : PItem
word_item = Types (Alias [] (codes "word") (TAt (TCon NoTys (codes "int" ∷ []))) ∷ [])

-- let print = fun s -> print_string s
abbrev pub print_item : PItem
print_item = Let (PAt (PVar (codes "print"))) (Fun (PVar (codes "s")) (Is (Call (Val (codes "print_string" ∷ [])) (Val (codes "s" ∷ [])))))

-- the module Rt
abbrev pub rt_tree : PItems
rt_tree = MoreItems (Module (codes "Rt") (Struct (MoreItems word_item (MoreItems print_item NoItems)))) NoItems

-- one row of items after another
abbrev pub join : PItems → PItems → PItems
join NoItems more = more
join (MoreItems i rest) more = MoreItems i (join rest more)
