-- The predefined values of OCaml that texts may name, each with its row.
use Rattle.std.specs.Prelude.{ℕ, List, [], ◌∷◌, codes}

-- in the order of the rows, which are numbered from 0
abbrev pub values : List (List ℕ)
values =
    codes "ref" ∷ codes "!" ∷ codes "raise" ∷ codes "not" ∷ codes "print_string" ∷ codes "string_of_int" ∷
    codes "String.length" ∷ codes "String.get" ∷ codes "String.sub" ∷ codes "String.make" ∷
    codes "Char.code" ∷ codes "Char.chr" ∷ codes "+" ∷ codes "-" ∷ codes "*" ∷ codes "/" ∷ codes "mod" ∷
    codes "land" ∷ codes "lor" ∷ codes "lxor" ∷ codes "lsl" ∷ codes "lsr" ∷ codes "=" ∷ codes "<" ∷
    codes "<=" ∷ codes ">" ∷ codes ">=" ∷ codes "==" ∷ codes ":=" ∷ codes "^" ∷ codes "&&" ∷ codes "||" ∷
    codes "::" ∷ []

-- the same by bytes, each with its row
abbrev pub value_rows : List (List ℕ × ℕ)
value_rows =
    (codes "!", 1) ∷ (codes "&&", 30) ∷ (codes "*", 14) ∷ (codes "+", 12) ∷ (codes "-", 13) ∷ (codes "/", 15) ∷
    (codes "::", 32) ∷ (codes ":=", 28) ∷ (codes "<", 23) ∷ (codes "<=", 24) ∷ (codes "=", 22) ∷
    (codes "==", 27) ∷ (codes ">", 25) ∷ (codes ">=", 26) ∷ (codes "Char.chr", 11) ∷ (codes "Char.code", 10) ∷
    (codes "String.get", 7) ∷ (codes "String.length", 6) ∷ (codes "String.make", 9) ∷ (codes "String.sub", 8) ∷
    (codes "^", 29) ∷ (codes "land", 17) ∷ (codes "lor", 18) ∷ (codes "lsl", 20) ∷ (codes "lsr", 21) ∷
    (codes "lxor", 19) ∷ (codes "mod", 16) ∷ (codes "not", 3) ∷ (codes "print_string", 4) ∷ (codes "raise", 2) ∷
    (codes "ref", 0) ∷ (codes "string_of_int", 5) ∷ (codes "||", 31) ∷ []
