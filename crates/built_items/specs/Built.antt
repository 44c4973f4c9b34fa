-- Which top-level declarations are built, and the items that they are.
use Rattle.std.specs.Prelude.{◌≡◌, ◌<◌, ◌≤◌, ◌^◌, ℕ, ℤ, pos, negsuc, Bool, true, false, not, ◌&&◌, ◌||◌, nat_lt, nat_eq, List, [], ◌∷◌, ◌++◌, Option, Some, None, is_some, option_map, codes, if◌then◌else◌, Result, Ok, Err, MatchResult}
use Rattle.std.specs.List.{list_all, flat_map}
use Rattle.std.specs.Str.{bytes_eq}
use Rattle.tl_cases.specs.Rows.{value_at}
use Rattle.tl_text.specs.declared.place.Place.{Place}
use Rattle.tl_text.specs.declared.lit.Lit.{Lit}
use Rattle.tl_text.specs.declared.lit.Lit.TheVariants as lit
use Rattle.tl_text.specs.declared.code.Code.TheVariants.{Unbuilt}
use Rattle.tl_text.specs.declared.fault.Fault.{Fault}
use Rattle.tl_text.specs.declared.fault.Fault.TheVariants as fault
use Rattle.tl_text.specs.declared.fault.Refusal.{Refusal}
use Rattle.oc_rules.specs.Bytes.{every}
use Rattle.oc_names.specs.Mangled.{may_name}
use Rattle.oc_names.specs.declared.names.NameKind.TheVariants as kind
use Rattle.sml_ast.specs.declared.bare_pat.BareAtPat.{BareAtPat, out-BareAtPat}
use Rattle.sml_ast.specs.declared.bare_pat.BareAtPat.TheOpen.{BareAtPat-F, BarePField-F, BarePat-F}
use Rattle.sml_ast.specs.declared.bare_pat.BarePField.{BarePField}
use Rattle.sml_ast.specs.declared.bare_pat.BarePat.{BarePat, out-BarePat}
use Rattle.sml_ast.specs.declared.bare_exp.BareAtExp.{BareAtExp, out-BareAtExp}
use Rattle.sml_ast.specs.declared.bare_exp.BareAtExp.TheOpen.{BareAtExp-F, BareDec-F, BareExp-F}
use Rattle.sml_ast.specs.declared.bare_exp.BareRule.{BareRule}
use Rattle.sml_ast.specs.declared.bare_exp.BareExp.{BareExp, out-BareExp}
use Rattle.sml_ast.specs.declared.bare_exp.BareDec.{BareDec, out-BareDec}
use Rattle.sml_ast.specs.declared.bare_program.BareStrBind.{BareStrBind}
use Rattle.sml_ast.specs.declared.bare_program.BareStrBind.TheOpen.{BareStrDec-F}
use Rattle.sml_ast.specs.declared.bare_program.BareStrExp.{BareStrExp}
use Rattle.sml_ast.specs.declared.bare_program.BareStrDec.{BareStrDec, out-BareStrDec}
use Rattle.sml_ast.specs.declared.bare_program.BareTop.{BareTop}
use Rattle.sml_ast.specs.declared.bare_program.BareTop.TheVariants as top
use Rattle.sml_ast.specs.declared.bare_program.BareProgram.{BareProgram}
use Rattle.sml_ast.specs.declared.bare_program.BareProgram.TheVariants as program
use Rattle.built_items.specs.declared.item.SourceItem.{SourceItem}
use Rattle.built_items.specs.declared.item.Target.{Target}
use Rattle.built_items.specs.declared.item.Target.TheVariants.{Wild, Var}
use Rattle.built_items.specs.declared.item.Value.{Value}
use Rattle.built_items.specs.declared.item.Value.TheVariants.{Literal, Printed}

-- the names of the initial basis: types, constructors, exceptions, values and structures, in the order of their bytes
abbrev pub basis_rows : List (List ℕ × ℕ)
basis_rows =
    (codes "!", 0) ∷ (codes "*", 1) ∷ (codes "+", 2) ∷ (codes "-", 3) ∷ (codes "::", 4) ∷ (codes ":=", 5) ∷ (codes "<", 6) ∷ (codes "<=", 7) ∷
    (codes "<>", 8) ∷ (codes "=", 9) ∷ (codes ">", 10) ∷ (codes ">=", 11) ∷ (codes "@", 12) ∷ (codes "Bind", 13) ∷ (codes "Char", 14) ∷ (codes "Chr", 15) ∷
    (codes "Div", 16) ∷ (codes "EQUAL", 17) ∷ (codes "Empty", 18) ∷ (codes "Fail", 19) ∷ (codes "GREATER", 20) ∷ (codes "Int", 21) ∷ (codes "LESS", 22) ∷ (codes "Match", 23) ∷
    (codes "NONE", 24) ∷ (codes "Option", 25) ∷ (codes "Overflow", 26) ∷ (codes "SOME", 27) ∷ (codes "String", 28) ∷ (codes "Subscript", 29) ∷ (codes "Word", 30) ∷ (codes "^", 31) ∷
    (codes "abs", 32) ∷ (codes "before", 33) ∷ (codes "bool", 34) ∷ (codes "char", 35) ∷ (codes "chr", 36) ∷ (codes "concat", 37) ∷ (codes "div", 38) ∷ (codes "exn", 39) ∷
    (codes "explode", 40) ∷ (codes "false", 41) ∷ (codes "getOpt", 42) ∷ (codes "hd", 43) ∷ (codes "ignore", 44) ∷ (codes "implode", 45) ∷ (codes "int", 46) ∷ (codes "isSome", 47) ∷
    (codes "length", 48) ∷ (codes "list", 49) ∷ (codes "mod", 50) ∷ (codes "nil", 51) ∷ (codes "not", 52) ∷ (codes "null", 53) ∷ (codes "option", 54) ∷ (codes "ord", 55) ∷
    (codes "order", 56) ∷ (codes "print", 57) ∷ (codes "ref", 58) ∷ (codes "rev", 59) ∷ (codes "size", 60) ∷ (codes "str", 61) ∷ (codes "string", 62) ∷ (codes "substring", 63) ∷
    (codes "tl", 64) ∷ (codes "true", 65) ∷ (codes "unit", 66) ∷ (codes "valOf", 67) ∷ (codes "word", 68) ∷ (codes "~", 69) ∷ []

abbrev pub is_basis : List ℕ → Bool
is_basis n = is_some (value_at n basis_rows)

-- an identifier that is no name of the initial basis
abbrev pub is_free : List ℕ → Bool
is_free n = may_name kind.Value n && not (is_basis n)

-- an identifier that is no name of the initial basis other than print, which is built
abbrev pub is_known : List ℕ → Bool
is_known n = bytes_eq n (codes "print") || not (is_basis n)

-- an integer from -2^62 to 2^62 - 1
abbrev pub in_range : ℤ → Bool
in_range (pos n) = nat_lt n (2 ^ 62)
in_range (negsuc n) = nat_lt n (2 ^ 62)

-- bytes
abbrev pub are_bytes : List ℕ → Bool
are_bytes = every (λ c. nat_lt c 256)

-- a literal in the range of its type
abbrev pub is_literal : Lit → Bool
is_literal (lit.Int z) = in_range z
is_literal (lit.Word n) = nat_lt n (2 ^ 32)
is_literal (lit.Char c) = nat_lt c 256
is_literal (lit.Text s) = are_bytes s

-- ---- the forms that are built

-- `_`, or a variable
abbrev pub target_in : BareAtPat-F BareAtPat BarePField BarePat → Option Target
target_in (BareAtPat-F.Any p) = Some Wild
target_in (BareAtPat-F.PId p o (q, x ∷ [])) = if is_free x then Some (Var x) else None
target_in _ = None

abbrev pub target_of : BarePat-F BareAtPat BarePField BarePat → Option Target
target_of (BarePat-F.PAtom p a) = target_in (out-BareAtPat a)
target_of _ = None

-- a literal
abbrev pub literal_in : BareAtExp-F BareAtExp BareDec BareExp BareRule → Option Value
literal_in (BareAtExp-F.Lit p l) = if is_literal l then Some (Literal l) else None
literal_in _ = None

-- `print`
abbrev pub is_print : BareAtExp-F BareAtExp BareDec BareExp BareRule → Bool
is_print (BareAtExp-F.Id p o (q, x ∷ [])) = bytes_eq x (codes "print")
is_print _ = false

-- a string, as what is printed
abbrev pub printed_in : BareAtExp-F BareAtExp BareDec BareExp BareRule → Option Value
printed_in (BareAtExp-F.Lit p (lit.Text s)) = if are_bytes s then Some (Printed s) else None
printed_in _ = None

-- a literal, or `print` applied to a string
abbrev pub value_of : BareExp-F BareAtExp BareDec BareExp BareRule → Option Value
value_of (BareExp-F.Apply p (a ∷ [])) = literal_in (out-BareAtExp a)
value_of (BareExp-F.Apply p (f ∷ a ∷ [])) = if is_print (out-BareAtExp f) then printed_in (out-BareAtExp a) else None
value_of _ = None

-- the item of a binding
abbrev pub item_of : Option Target → Option Value → Option SourceItem
item_of (Some t) (Some v) = Some (record { target = t; value = v })
item_of _ _ = None

abbrev pub all_known : List (Place × List ℕ) → Bool
all_known [] = true
all_known (x ∷ xs) = is_known x.1 && all_known xs

-- The items of a declaration: `val pat = exp` is one, and a directive none; None where the declaration is not built.
abbrev pub items_of_dec : BareDec-F BareAtExp BareDec BareExp BareRule → Option (List SourceItem)
items_of_dec (BareDec-F.Vals p [] false (b ∷ [])) = option_map (λ i. i ∷ []) (item_of (target_of (out-BarePat b.0)) (value_of (out-BareExp b.1)))
items_of_dec (BareDec-F.Fix p r d xs) = if all_known xs then Some [] else None
items_of_dec (BareDec-F.Nonfix p xs) = if all_known xs then Some [] else None
items_of_dec _ = None

abbrev pub items_of_strdec : BareStrDec-F BareStrBind BareStrDec BareStrExp → Option (List SourceItem)
items_of_strdec (BareStrDec-F.Core p d) = items_of_dec (out-BareDec d)
items_of_strdec _ = None

abbrev pub items_of_top : BareTop → Option (List SourceItem)
items_of_top (top.Strs p d) = items_of_strdec (out-BareStrDec d)
items_of_top _ = None

-- ---- whole programs

-- the place of the first token
abbrev pub place_of : BareTop → Place
place_of (top.Strs p d) = p
place_of (top.Sigs p bs) = p
place_of (top.Funs p bs) = p

-- the items of a row of top-level declarations, or the place of the first that is not built
abbrev pub with_items : List SourceItem → Result (List SourceItem) Place → Result (List SourceItem) Place
with_items items (Ok more) = Ok (items ++ more)
with_items items (Err place) = Err place

abbrev pub read_on : Option (List SourceItem) → Place → Result (List SourceItem) Place → Result (List SourceItem) Place
read_on None place rest = Err place
read_on (Some items) place rest = with_items items rest

abbrev pub read_tops : List BareTop → Result (List SourceItem) Place
read_tops [] = Ok []
read_tops (t ∷ ts) = read_on (items_of_top t) (place_of t) (read_tops ts)

abbrev pub tops_of : BareProgram → List BareTop
tops_of (program.Tops p ts) = ts

-- these are the items of the program, each top-level declaration of which is built
abbrev pub AreItems : BareProgram → List SourceItem → Type 0
AreItems p items = read_tops (tops_of p) ≡ Ok items

-- a top-level declaration is not built, and the first of these begins at the place
abbrev pub IsUnbuilt : BareProgram → Place → Type 0
IsUnbuilt p place = read_tops (tops_of p) ≡ Err place

-- of a fault that is a refusal
abbrev pub IfRefused : Fault → (Refusal → Type 0) → Type 0
IfRefused (fault.Refused refusal) P = P refusal
IfRefused (fault.NoMemory _) P = Unit {0}

-- the answer is the items, or code 36 at the place where it has to be, or that there is no memory
abbrev pub Answers : BareProgram → Result (List SourceItem) Fault → Type 0
Answers p answer = MatchResult answer (AreItems p) (λ f. IfRefused f (λ r. IsUnbuilt p r.place × (r.code ≡ Unbuilt)))
