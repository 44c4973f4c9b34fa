-- Probes: rows of declarations that use what sources bind, and their plain text, which uses the homes.
use Rattle.std.specs.Prelude.{◌≡◌, ℕ, false, ◌&&◌, nat_le, List, [], ◌∷◌, Option, Some, None, IsTrue, if◌then◌else◌, codes}
use Rattle.std.specs.List.{starts_with}
use Rattle.std.specs.Prelude.{nat_eq}
use Rattle.std.specs.Str.{bytes_eq}
use Rattle.tl_cases.specs.Words.{oc_rows}
use Rattle.tl_cases.specs.Rows.{value_at}
use Rattle.tl_session.specs.Program.{Exp, Scon, Id, App, Record, Row, Exps, NoExps, MoreExps, Pat, Wild, Var, Dec}
use Rattle.tl_session.specs.Static.{Ty, Entry, Basis, bound, HasType}
use Rattle.oc_ast.specs.Plain as oc
use Rattle.tl_session.specs.Written.{literal_of}

-- an identifier that is written as it is
abbrev pub IsKeptName : List ℕ → Type 0
IsKeptName [] = ⊥
IsKeptName (b ∷ bytes) =
    IsTrue (nat_le 97 b && nat_le b 122)
    × (value_at (b ∷ bytes) oc_rows ≡ None)
    × (starts_with nat_eq (b ∷ bytes) (codes "v_") ≡ false)
    × (starts_with nat_eq (b ∷ bytes) (codes "s_") ≡ false)
    × (starts_with nat_eq (b ∷ bytes) (codes "z_") ≡ false)

-- a variable, a literal, or ()
abbrev pub IsArgument : Exp → Type 0
IsArgument (Id x) = Unit {0}
IsArgument (Scon literal) = Unit {0}
IsArgument (Record NoExps) = Unit {0}
IsArgument _ = ⊥

abbrev pub AreArguments : Exps → Type 0
AreArguments NoExps = Unit {0}
AreArguments (MoreExps e es) = IsArgument e × AreArguments es

-- f a, (a1, .., an) with n of at least 2, or [a1, .., an]
abbrev pub IsProbing : Exp → Type 0
IsProbing (App (Id f) a) = IsArgument a
IsProbing (Record (MoreExps a (MoreExps b more))) = IsArgument a × IsArgument b × AreArguments more
IsProbing (Row (MoreExps a more)) = IsArgument a × AreArguments more
IsProbing _ = ⊥

-- The declarations bind new names, one each, to such expressions, which have types. (Whether the program takes them as
-- a source already makes no difference.)
abbrev pub IsProbe : Basis → List Dec → Type 0
IsProbe basis [] = Unit {0}
IsProbe basis (d ∷ ds) =
    (p : List ℕ) × (t : Ty) × (d.pat ≡ Var p) × (basis p ≡ None) × IsKeptName p × IsProbing d.exp × HasType basis d.exp t
    × IsProbe (bound p (record { type = t; home = p ∷ [] }) basis) ds

-- the path of each variable in the text
abbrev pub Homes : Type 0
Homes = List ℕ → List (List ℕ)

abbrev pub home_in : Option Entry → List (List ℕ)
home_in None = []
home_in (Some e) = e.home

abbrev pub homes_in : Basis → Homes
homes_in basis = λ x. home_in (basis x)

-- an argument with its home in the place of a variable, and the literal of the same value in that of a literal
abbrev pub plain_atom : Homes → Exp → oc.PAtom
plain_atom homes (Id x) = oc.Val (homes x)
plain_atom homes (Scon literal) = oc.Const (literal_of literal)
plain_atom homes _ = oc.Nothing

abbrev pub plain_atoms : Homes → Exps → oc.PAtoms
plain_atoms homes NoExps = oc.NoAtoms
plain_atoms homes (MoreExps e es) = oc.MoreAtoms (plain_atom homes e) (plain_atoms homes es)

-- a tuple of these parts
abbrev pub tuple_of : oc.PAtoms → oc.PAtom
tuple_of oc.NoAtoms = oc.Nothing
tuple_of (oc.MoreAtoms a more) = oc.Tuple a more

abbrev pub plain : Homes → Exp → oc.PSimple
plain homes (App f a) = oc.Call (plain_atom homes f) (plain_atom homes a)
plain homes (Record es) = oc.One (tuple_of (plain_atoms homes es))
plain homes (Row es) = oc.One (oc.Items (plain_atoms homes es))
plain homes e = oc.One (plain_atom homes e)

abbrev pub plain_pat : Pat → oc.PPat
plain_pat Wild = oc.PAt oc.Any
plain_pat (Var x) = oc.PAt (oc.PVar x)

-- a name of the probe is at home by itself
abbrev pub with_name : Pat → Homes → Homes
with_name Wild homes = homes
with_name (Var p) homes = λ y. if bytes_eq p y then p ∷ [] else homes y

-- the plain text: a `let` for each declaration
abbrev pub plain_items : Homes → List Dec → oc.PItems
plain_items homes [] = oc.NoItems
plain_items homes (d ∷ ds) = oc.MoreItems (oc.Let (plain_pat d.pat) (plain homes d.exp)) (plain_items (with_name d.pat homes) ds)
