-- What a tree has under a name.
use Rattle.std.specs.Prelude.{◌≡◌, ℕ, ◌==◌, ◌/◌, ◌%◌, cond, List, Option, Some, None}
use Rattle.std.specs.Option.{option_map, option_and_then, option_or}
use Rattle.std.specs.Str.{bytes_eq}
use Rattle.sml_static.specs.Lookups.{last_named}
use Rattle.env_arena.specs.declared.node.ValNode.{ValNode}
use Rattle.env_arena.specs.declared.node.TyNode.{TyNode}
use Rattle.env_arena.specs.declared.node.StrNode.{StrNode}
use Rattle.env_scope.specs.declared.tree.Binding.{Binding}
use Rattle.env_scope.specs.declared.tree.Tree.{Tree, fold-Tree}
use Rattle.env_scope.specs.declared.tree.Tree.TheOpen.{Tree-F}
use Rattle.env_scope.specs.Numbers.{number_of}

-- one level of `found`
abbrev pub found_step : Tree-F (ℕ → List ℕ → Option Binding) → ℕ → List ℕ → Option Binding
found_step Tree-F.Empty bits name = None
found_step (Tree-F.One b rest) bits name = cond (bytes_eq b.now.name.now name) (Some b.now) (rest.now bits name)
found_step (Tree-F.Fork even odd) bits name = cond (bits % 2 == 0) (even.now (bits / 2) name) (odd.now (bits / 2) name)

-- the binding of a name with these bits
abbrev pub found : Tree → ℕ → List ℕ → Option Binding
found = fold-Tree (ℕ → List ℕ → Option Binding) found_step

-- the binding of a name
abbrev pub bound : Tree → List ℕ → Option Binding
bound tree name = found tree (number_of name) name

-- its parts
abbrev pub val_of : Option Binding → Option ValNode
val_of = option_and_then (λ b. option_map (λ v. v.now) b.val)

abbrev pub tycon_of : Option Binding → Option TyNode
tycon_of = option_and_then (λ b. option_map (λ t. t.now) b.tycon)

abbrev pub str_of : Option Binding → Option StrNode
str_of = option_and_then (λ b. option_map (λ s. s.now) b.str)

-- the same part is found under each name
abbrev pub Keeps : {A : Type 0} → (Option Binding → Option A) → Tree → Tree → Type 0
Keeps part old new = (n : List ℕ) → part (bound new n) ≡ part (bound old n)

-- an item is found under its name, and else what was found before
abbrev pub Adds : {A : Type 0} → (Option Binding → Option A) → (A → List ℕ) → A → Tree → Tree → Type 0
Adds part name_of item old new = (n : List ℕ) → part (bound new n) ≡ cond (bytes_eq (name_of item) n) (Some item) (part (bound old n))

-- the last item of a name is found, and else what was found before
abbrev pub AddsAll : {A : Type 0} → (Option Binding → Option A) → (A → List ℕ) → List A → Tree → Tree → Type 0
AddsAll part name_of items old new = (n : List ℕ) → part (bound new n) ≡ option_or (last_named name_of n items) (part (bound old n))
