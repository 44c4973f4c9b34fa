-- Descriptions of types, datatypes and exceptions: which trees derive which tokens (the Definition, figures 5 and 7).
use Rattle.std.specs.Prelude.{ℕ, zero, suc, List, Option}
use Rattle.readers.specs.Language.{Both, Shows, As, Skip}
use Rattle.readers.specs.Room.{Room}
use Rattle.readers.specs.Forms.{Maybe, Seps, highest, height_of}
use Rattle.sml_lex.specs.declared.token.Token.{Token}
use Rattle.sml_ast.specs.declared.ty.Ty.{Ty}
use Rattle.sml_ast.specs.declared.data.DatDesc.{DatDesc}
use Rattle.sml_ast.specs.declared.data.DatDesc.TheVariants as dat
use Rattle.sml_grammar.specs.Words.{BAR, EQUALS, OF}
use Rattle.sml_grammar.specs.Tokens.{is, any_vid, long_tycon, tycon}
use Rattle.sml_grammar.specs.Types.{Ident, LongIdent, Tx, trees, ty_on}
use Rattle.sml_grammar.specs.Pats.{opt_height, opt_tree}
pub use Rattle.sml_grammar_exp.specs.Binds.{Vars, one_var, some_vars, Under, with_vars, no_vars, vars_of, vars_place, VarsD, UnderD, under_height, Tb, tybind_of, TyBindD}
pub use Rattle.sml_grammar_exp.specs.Clauses.{Many}

-- ---- trees, with their heights beside them

-- a type constructor with its type variables
abbrev pub Named : Type 0
Named = List Ident × Ident

abbrev pub named_of : Under Ident → Named
named_of x = (vars_of x.0, x.1)

-- a type that a long type constructor is made equal to, with the height of the node that does so
abbrev pub Re : Type 0
Re = (List Ident × LongIdent × Ty) × ℕ

abbrev pub real_bind_of : Under (LongIdent × Tx) → Re
real_bind_of x = ((vars_of x.0, x.1.0, x.1.1.0), suc x.1.1.1)

-- a constructor or an exception, which is no node
abbrev pub Co : Type 0
Co = (Ident × Option Ty) × ℕ

abbrev pub con_of : Ident × Option Tx → Co
con_of x = ((x.0, opt_tree x.1), opt_height x.1)

-- the constructors of a datatype, with the height of the description that they stand in
abbrev pub Cs : Type 0
Cs = List (Ident × Option Ty) × ℕ

abbrev pub cons_of : List Co → Cs
cons_of cs = (trees cs, suc (highest height_of cs))

-- a description of a datatype
abbrev pub Dd : Type 0
Dd = DatDesc × ℕ

abbrev pub desc_of : Under (Ident × Cs) → Dd
desc_of x = (dat.Desc (vars_place x.0 x.1.0.0) (vars_of x.0) x.1.0 x.1.1.0, x.1.1.1)

-- ---- the grammar

-- [tyvarseq] tycon
abbrev pub NamedD : Named → List Token → Type 0
NamedD = As named_of (UnderD (Shows tycon))

-- [tyvarseq] longtycon = Ty
abbrev pub RealBindD : (Tx → List Token → Type 0) → Re → List Token → Type 0
RealBindD T = As real_bind_of (UnderD (Both (Shows long_tycon) (Skip (is EQUALS) T)))

-- vid [of Ty]
abbrev pub ConD : (Tx → List Token → Type 0) → Co → List Token → Type 0
ConD T = As con_of (Both (Shows any_vid) (Maybe (Skip (is OF) T)))

-- {vid [of Ty]}/|
abbrev pub ConsD : (Tx → List Token → Type 0) → Cs → List Token → Type 0
ConsD T = As cons_of (Seps (is BAR) (ConD T))

-- Desc [tyvarseq] tycon = {vid [of Ty]}/|, over these constructors
abbrev pub DescD : (Cs → List Token → Type 0) → Dd → List Token → Type 0
DescD C = As desc_of (UnderD (Both (Shows tycon) (Skip (is EQUALS) C)))

-- the constructors of a description of this height, and a type for a realisation of this height
unfoldable pub cons_on : ℕ → Cs → List Token → Type 0
cons_on zero t w = ⊥
cons_on (suc h) t w = ConsD (ty_on h) t w

unfoldable pub real_bind_on : ℕ → Re → List Token → Type 0
real_bind_on zero t w = ⊥
real_bind_on (suc h) t w = RealBindD (ty_on h) t w

-- the same in a room
abbrev pub ConsR : Room → Cs → List Token → Type 0
ConsR r = cons_on r.height

abbrev pub RealBindR : Room → Re → List Token → Type 0
RealBindR r = real_bind_on r.height
