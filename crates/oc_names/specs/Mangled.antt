-- How a name of Standard ML is spelled in OCaml.
use Rattle.std.specs.Prelude.{ℕ, Bool, false, not, ◌&&◌, ◌||◌, List, [], ◌∷◌, ◌++◌, Option, Some, None, is_some, nat_eq, codes, if◌then◌else◌}
use Rattle.tl_cases.specs.Rows.{value_at}
use Rattle.tl_cases.specs.Words.{oc_rows}
use Rattle.oc_rules.specs.Bytes.{is_small, is_capital, is_letter, is_digit, is_part, heads, shaped, is_any}
use Rattle.oc_rules.specs.Allowed.{is_low, is_cap}
use Rattle.oc_names.specs.declared.names.NameKind.{NameKind}
use Rattle.oc_names.specs.declared.names.NameKind.TheVariants.{Value, Constructor, TypeName, Module, Functor}

-- ---- symbols

-- each symbol with its word
abbrev pub symbol_words : List (ℕ × List ℕ)
symbol_words =
    (33, codes "bang") ∷ (37, codes "percent") ∷ (38, codes "amp") ∷ (36, codes "dollar") ∷ (35, codes "hash") ∷ (43, codes "plus") ∷
    (45, codes "minus") ∷ (47, codes "slash") ∷ (58, codes "colon") ∷ (60, codes "lt") ∷ (61, codes "eq") ∷ (62, codes "gt") ∷
    (63, codes "quest") ∷ (64, codes "at") ∷ (92, codes "backslash") ∷ (126, codes "tilde") ∷ (96, codes "tick") ∷ (94, codes "hat") ∷
    (124, codes "bar") ∷ (42, codes "star") ∷ []

abbrev pub look : ℕ → List (ℕ × List ℕ) → Option (List ℕ)
look c [] = None
look c (r ∷ rs) = if nat_eq c r.0 then Some r.1 else look c rs

abbrev pub or_none : Option (List ℕ) → List ℕ
or_none None = []
or_none (Some w) = w

abbrev pub word_of : ℕ → List ℕ
word_of c = or_none (look c symbol_words)

abbrev pub is_symbol : ℕ → Bool
is_symbol c = is_some (look c symbol_words)

-- the words, each behind `_`
abbrev pub words_of : List ℕ → List ℕ
words_of [] = []
words_of (c ∷ s) = (95 ∷ word_of c) ++ words_of s

-- ---- which names come in

abbrev pub is_alphanumeric : List ℕ → Bool
is_alphanumeric = shaped is_letter is_part

abbrev pub is_symbolic : List ℕ → Bool
is_symbolic = shaped is_symbol is_symbol

-- modules and functors have alphanumeric names
abbrev pub may_name : NameKind → List ℕ → Bool
may_name Value n = is_alphanumeric n || is_symbolic n
may_name Constructor n = is_alphanumeric n || is_symbolic n
may_name TypeName n = is_alphanumeric n || is_symbolic n
may_name Module n = is_alphanumeric n
may_name Functor n = is_alphanumeric n

-- ---- which names are kept

-- OCaml's own types, the constructors that are fixed, and the modules that texts use by their own names
abbrev pub base_rows : List (List ℕ × ℕ)
base_rows =
    (codes "array", 0) ∷ (codes "bool", 1) ∷ (codes "bytes", 2) ∷ (codes "char", 3) ∷ (codes "exn", 4) ∷ (codes "float", 5) ∷
    (codes "int", 6) ∷ (codes "list", 7) ∷ (codes "option", 8) ∷ (codes "ref", 9) ∷ (codes "string", 10) ∷ (codes "unit", 11) ∷ []

abbrev pub fixed_rows : List (List ℕ × ℕ)
fixed_rows = (codes "::", 0) ∷ (codes "false", 1) ∷ (codes "nil", 2) ∷ (codes "ref", 3) ∷ (codes "true", 4) ∷ []

abbrev pub own_rows : List (List ℕ × ℕ)
own_rows = (codes "Char", 0) ∷ (codes "Rt", 1) ∷ (codes "String", 2) ∷ []

abbrev pub is_listed : List (List ℕ × ℕ) → List ℕ → Bool
is_listed rows n = is_some (value_at n rows)

-- whether this byte and `_` stand first
abbrev pub prefixed : ℕ → List ℕ → Bool
prefixed c [] = false
prefixed c (a ∷ []) = false
prefixed c (a ∷ b ∷ s) = nat_eq a c && nat_eq b 95

-- whether `U` and a digit stand first, as in the module of a source
abbrev pub is_unit_like : List ℕ → Bool
is_unit_like [] = false
is_unit_like (a ∷ []) = false
is_unit_like (a ∷ b ∷ s) = nat_eq a 85 && is_digit b

abbrev pub keeps_low : List ℕ → Bool
keeps_low n = heads is_small n && (not (is_listed oc_rows n) && (not (prefixed 118 n) && (not (prefixed 115 n) && not (prefixed 122 n))))

abbrev pub keeps_type : List ℕ → Bool
keeps_type n = keeps_low n && not (is_listed base_rows n)

abbrev pub keeps_cap : List ℕ → Bool
keeps_cap n = heads is_capital n && (not (prefixed 67 n) && (not (prefixed 83 n) && not (prefixed 90 n)))

abbrev pub keeps_module : List ℕ → Bool
keeps_module n = keeps_cap n && (not (is_listed own_rows n) && (not (prefixed 70 n) && not (is_unit_like n)))

-- ---- the spelling

-- the name behind this letter and `_`
abbrev pub behind : ℕ → List ℕ → List ℕ
behind c n = (c ∷ 95 ∷ []) ++ n

-- a symbolic name behind its letter, and another one kept or behind its letter
abbrev pub spelling : ℕ → ℕ → Bool → List ℕ → List ℕ
spelling symbolic other keeps n = if heads is_symbol n then (symbolic ∷ []) ++ words_of n else (if keeps then n else behind other n)

-- the constructors that are fixed
abbrev pub fixed_of : ℕ → List ℕ
fixed_of k = if nat_eq k 0 then codes "::" else (if nat_eq k 1 then codes "false" else (if nat_eq k 2 then codes "[]" else (if nat_eq k 3 then codes "ref" else codes "true")))

abbrev pub constructor_by : Option ℕ → List ℕ → List ℕ
constructor_by None n = spelling 83 67 (keeps_cap n) n
constructor_by (Some k) n = fixed_of k

abbrev pub mangled : NameKind → List ℕ → List ℕ
mangled Value n = spelling 115 118 (keeps_low n) n
mangled TypeName n = spelling 115 118 (keeps_type n) n
mangled Constructor n = constructor_by (value_at n fixed_rows) n
mangled Module n = if keeps_module n then n else behind 67 n
mangled Functor n = behind 70 n

-- ---- what OCaml takes

-- a name that texts may have for the kind; a constructor may also be one of the fixed ones
abbrev pub lawful : NameKind → List ℕ → Bool
lawful Value n = is_low n
lawful TypeName n = is_low n
lawful Constructor n = is_cap n || is_any (codes "true" ∷ codes "false" ∷ codes "[]" ∷ codes "::" ∷ codes "ref" ∷ []) n
lawful Module n = is_cap n
lawful Functor n = is_cap n
