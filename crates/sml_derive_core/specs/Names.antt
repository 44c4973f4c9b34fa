-- The names and labels that derived forms bring in.
use Rattle.std.specs.Prelude.{ℕ, ◌+◌, List, [], ◌∷◌, decimal}
use Rattle.tl_text.specs.declared.place.Place.{Place}
use Rattle.tl_text.specs.declared.name.Name.{Name}
use Rattle.sml_ast.specs.declared.name.Lab.{Lab}
use Rattle.sml_ast.specs.declared.name.Lab.TheVariants as lab

-- the name of a number: it begins with a digit, and so no identifier of a source is spelled like it
abbrev pub fresh_name : ℕ → Name
fresh_name n = decimal n

-- a row under the labels n, n + 1 and so on, which stand at p
abbrev pub numbered : {T : Type 0} → Place → ℕ → List T → List ((Place × Lab) × T)
numbered p n [] = []
numbered p n (x ∷ xs) = ((p, lab.Num n), x) ∷ numbered p (n + 1) xs
