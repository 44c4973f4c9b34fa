-- The words and symbols of both languages, as lists in their own order and as rows in the order of bytes.
use Rattle.std.specs.Prelude.{ℕ, List, [], ◌∷◌, codes}

-- the reserved words of Standard ML (the Definition, sections 2.1 and 3.1)
abbrev pub sml_list : List (List ℕ)
sml_list =
    codes "abstype" ∷ codes "andalso" ∷ codes "as" ∷ codes "case" ∷ codes "datatype" ∷ codes "do" ∷
    codes "else" ∷ codes "end" ∷ codes "exception" ∷ codes "fn" ∷ codes "fun" ∷ codes "handle" ∷
    codes "if" ∷ codes "in" ∷ codes "infix" ∷ codes "infixr" ∷ codes "let" ∷ codes "local" ∷
    codes "nonfix" ∷ codes "of" ∷ codes "op" ∷ codes "open" ∷ codes "orelse" ∷ codes "raise" ∷
    codes "rec" ∷ codes "then" ∷ codes "type" ∷ codes "val" ∷ codes "with" ∷ codes "withtype" ∷
    codes "while" ∷ codes "eqtype" ∷ codes "functor" ∷ codes "include" ∷ codes "sharing" ∷
    codes "sig" ∷ codes "signature" ∷ codes "struct" ∷ codes "structure" ∷ codes "where" ∷
    codes "(" ∷ codes ")" ∷ codes "[" ∷ codes "]" ∷ codes "{" ∷ codes "}" ∷ codes "," ∷ codes ":" ∷
    codes ":>" ∷ codes ";" ∷ codes "..." ∷ codes "_" ∷ codes "|" ∷ codes "=" ∷ codes "=>" ∷
    codes "->" ∷ codes "and" ∷ codes "#" ∷ []

-- the same by bytes, each with its number in the list
abbrev pub sml_rows : List (List ℕ × ℕ)
sml_rows =
    (codes "#", 57) ∷
    (codes "(", 40) ∷
    (codes ")", 41) ∷
    (codes ",", 46) ∷
    (codes "->", 55) ∷
    (codes "...", 50) ∷
    (codes ":", 47) ∷
    (codes ":>", 48) ∷
    (codes ";", 49) ∷
    (codes "=", 53) ∷
    (codes "=>", 54) ∷
    (codes "[", 42) ∷
    (codes "]", 43) ∷
    (codes "_", 51) ∷
    (codes "abstype", 0) ∷
    (codes "and", 56) ∷
    (codes "andalso", 1) ∷
    (codes "as", 2) ∷
    (codes "case", 3) ∷
    (codes "datatype", 4) ∷
    (codes "do", 5) ∷
    (codes "else", 6) ∷
    (codes "end", 7) ∷
    (codes "eqtype", 31) ∷
    (codes "exception", 8) ∷
    (codes "fn", 9) ∷
    (codes "fun", 10) ∷
    (codes "functor", 32) ∷
    (codes "handle", 11) ∷
    (codes "if", 12) ∷
    (codes "in", 13) ∷
    (codes "include", 33) ∷
    (codes "infix", 14) ∷
    (codes "infixr", 15) ∷
    (codes "let", 16) ∷
    (codes "local", 17) ∷
    (codes "nonfix", 18) ∷
    (codes "of", 19) ∷
    (codes "op", 20) ∷
    (codes "open", 21) ∷
    (codes "orelse", 22) ∷
    (codes "raise", 23) ∷
    (codes "rec", 24) ∷
    (codes "sharing", 34) ∷
    (codes "sig", 35) ∷
    (codes "signature", 36) ∷
    (codes "struct", 37) ∷
    (codes "structure", 38) ∷
    (codes "then", 25) ∷
    (codes "type", 26) ∷
    (codes "val", 27) ∷
    (codes "where", 39) ∷
    (codes "while", 30) ∷
    (codes "with", 28) ∷
    (codes "withtype", 29) ∷
    (codes "{", 44) ∷
    (codes "|", 52) ∷
    (codes "}", 45) ∷
    []

-- the words of OCaml that are no names (its manual, on lexical conventions), by bytes and numbered
abbrev pub oc_rows : List (List ℕ × ℕ)
oc_rows =
    (codes "and", 0) ∷
    (codes "as", 1) ∷
    (codes "asr", 2) ∷
    (codes "assert", 3) ∷
    (codes "begin", 4) ∷
    (codes "class", 5) ∷
    (codes "constraint", 6) ∷
    (codes "do", 7) ∷
    (codes "done", 8) ∷
    (codes "downto", 9) ∷
    (codes "effect", 10) ∷
    (codes "else", 11) ∷
    (codes "end", 12) ∷
    (codes "exception", 13) ∷
    (codes "external", 14) ∷
    (codes "false", 15) ∷
    (codes "for", 16) ∷
    (codes "fun", 17) ∷
    (codes "function", 18) ∷
    (codes "functor", 19) ∷
    (codes "if", 20) ∷
    (codes "in", 21) ∷
    (codes "include", 22) ∷
    (codes "inherit", 23) ∷
    (codes "initializer", 24) ∷
    (codes "land", 25) ∷
    (codes "lazy", 26) ∷
    (codes "let", 27) ∷
    (codes "lor", 28) ∷
    (codes "lsl", 29) ∷
    (codes "lsr", 30) ∷
    (codes "lxor", 31) ∷
    (codes "match", 32) ∷
    (codes "method", 33) ∷
    (codes "mod", 34) ∷
    (codes "module", 35) ∷
    (codes "mutable", 36) ∷
    (codes "new", 37) ∷
    (codes "nonrec", 38) ∷
    (codes "object", 39) ∷
    (codes "of", 40) ∷
    (codes "open", 41) ∷
    (codes "or", 42) ∷
    (codes "private", 43) ∷
    (codes "rec", 44) ∷
    (codes "sig", 45) ∷
    (codes "struct", 46) ∷
    (codes "then", 47) ∷
    (codes "to", 48) ∷
    (codes "true", 49) ∷
    (codes "try", 50) ∷
    (codes "type", 51) ∷
    (codes "val", 52) ∷
    (codes "virtual", 53) ∷
    (codes "when", 54) ∷
    (codes "while", 55) ∷
    (codes "with", 56) ∷
    []

-- the symbols of symbolic identifiers (the Definition, section 2.4)
abbrev pub symbol_list : List (List ℕ)
symbol_list =
    codes "!" ∷ codes "%" ∷ codes "&" ∷ codes "$" ∷ codes "#" ∷ codes "+" ∷ codes "-" ∷ codes "/" ∷
    codes ":" ∷ codes "<" ∷ codes "=" ∷ codes ">" ∷ codes "?" ∷ codes "@" ∷ (92 ∷ []) ∷ codes "~" ∷
    codes "`" ∷ codes "^" ∷ codes "|" ∷ codes "*" ∷ []

-- the same by bytes, each with its number in the list
abbrev pub symbol_rows : List (List ℕ × ℕ)
symbol_rows =
    (codes "!", 0) ∷
    (codes "#", 4) ∷
    (codes "$", 3) ∷
    (codes "%", 1) ∷
    (codes "&", 2) ∷
    (codes "*", 19) ∷
    (codes "+", 5) ∷
    (codes "-", 6) ∷
    (codes "/", 7) ∷
    (codes ":", 8) ∷
    (codes "<", 9) ∷
    (codes "=", 10) ∷
    (codes ">", 11) ∷
    (codes "?", 12) ∷
    (codes "@", 13) ∷
    (92 ∷ [], 14) ∷
    (codes "^", 17) ∷
    (codes "`", 16) ∷
    (codes "|", 18) ∷
    (codes "~", 15) ∷
    []
