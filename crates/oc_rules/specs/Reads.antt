-- When bytes are the text of a tree.
use Rattle.std.specs.Prelude.{ℕ, List}
use Rattle.oc_ast.specs.Plain.{PItems}
use Rattle.oc_rules.specs.Lexes.{Lexes}
use Rattle.oc_rules.specs.Tokens.{items}
use Rattle.oc_rules.specs.Allowed.{Allowed}

-- the bytes are tokens that the text derives by the grammar, and the text keeps the grammar's rules
abbrev pub Reads : List ℕ → PItems → Type 0
Reads bytes text = Allowed text × Lexes bytes (items text)
