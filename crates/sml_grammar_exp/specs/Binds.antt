-- Bindings of types, datatypes and exceptions: which trees derive which tokens, under which fixities (the Definition, figure 4).
use Rattle.std.specs.Prelude.{ℕ, zero, suc, Bool, true, false, List, [], ◌∷◌, Option, Some, None}
use Rattle.tl_text.specs.declared.place.Place.{Place}
use Rattle.readers.specs.Language.{Both, Shows, As, Or, Skip, Close}
use Rattle.readers.specs.Room.{Room}
use Rattle.readers.specs.Forms.{Maybe, Seps, highest, height_of}
use Rattle.sml_lex.specs.declared.token.Token.{Token}
use Rattle.sml_fix.specs.Fixities.{Settings}
use Rattle.sml_ast.specs.declared.ty.Ty.{Ty}
use Rattle.sml_ast.specs.declared.data.DatBind.{DatBind}
use Rattle.sml_ast.specs.declared.data.DatBind.TheVariants as dat
use Rattle.sml_ast.specs.declared.data.ExBind.{ExBind}
use Rattle.sml_ast.specs.declared.data.ExBind.TheVariants as exn
use Rattle.sml_grammar.specs.Words.{BAR, CLOSE_PAREN, COMMA, EQUALS, OF, OP, OPEN_PAREN}
use Rattle.sml_grammar.specs.Tokens.{is, the, tyvar, tycon, vid, op_vid}
use Rattle.sml_grammar.specs.Types.{Ident, Tx, trees, ty_on}
use Rattle.sml_grammar.specs.Pats.{Name, NameD, opt_height, opt_tree}

-- ---- type variables before a name

-- the place of the first token, and the variables
abbrev pub Vars : Type 0
Vars = Place × List Ident

abbrev pub one_var : {X : Type 0} → Ident × X → Vars × X
one_var x = ((x.0.0, x.0 ∷ []), x.1)

abbrev pub some_vars : {X : Type 0} → Place × (List Ident × X) → Vars × X
some_vars x = ((x.0, x.1.0), x.1.1)

-- what follows, with the type variables before it, if there are any
abbrev pub Under : Type 0 → Type 0
Under X = Option Vars × X

abbrev pub with_vars : {X : Type 0} → Vars × X → Under X
with_vars x = (Some x.0, x.1)

abbrev pub no_vars : {X : Type 0} → X → Under X
no_vars x = (None, x)

abbrev pub vars_of : Option Vars → List Ident
vars_of None = []
vars_of (Some v) = v.1

-- the place of the first token, which is this one where there are no variables
abbrev pub vars_place : Option Vars → Place → Place
vars_place None p = p
vars_place (Some v) p = v.0

-- ( {tyvar}/, ) and what follows
abbrev pub ParenD : {X : Type 0} → (X → List Token → Type 0) → Place × (List Ident × X) → List Token → Type 0
ParenD D = Both (Shows (the OPEN_PAREN)) (Both (Close (Seps (is COMMA) (Shows tyvar)) (is CLOSE_PAREN)) D)

-- tyvarseq and what follows: several type variables, or one
abbrev pub VarsD : {X : Type 0} → (X → List Token → Type 0) → Vars × X → List Token → Type 0
VarsD D = Or (As some_vars (ParenD D)) (As one_var (Both (Shows tyvar) D))

-- [tyvarseq] and what follows
abbrev pub UnderD : {X : Type 0} → (X → List Token → Type 0) → Under X → List Token → Type 0
UnderD D = Or (As with_vars (VarsD D)) (As no_vars D)

-- ---- trees, with their heights beside them

abbrev pub under_height : {X : Type 0} → (X → ℕ) → Under X → ℕ
under_height tall x = tall x.1

-- a binding of a type
abbrev pub Tb : Type 0
Tb = (List Ident × Ident × Ty) × ℕ

abbrev pub tybind_of : Under (Ident × Tx) → Tb
tybind_of x = ((vars_of x.0, x.1.0, x.1.1.0), x.1.1.1)

-- [op] vid, with the place of its first token
abbrev pub Vid : Type 0
Vid = Place × Bool × Ident

abbrev pub plain_of : Ident → Vid
plain_of v = (v.0, false, v)

abbrev pub op_of : Place × Ident → Vid
op_of x = (x.0, true, x.1)

-- a constructor
abbrev pub Co : Type 0
Co = (Bool × Ident × Option Ty) × ℕ

abbrev pub con_of : Vid × Option Tx → Co
con_of x = ((x.0.1, x.0.2, opt_tree x.1), opt_height x.1)

-- the constructors of a datatype, with the height of the binding that they stand in
abbrev pub Cs : Type 0
Cs = List (Bool × Ident × Option Ty) × ℕ

abbrev pub cons_of : List Co → Cs
cons_of cs = (trees cs, suc (highest height_of cs))

-- a binding of a datatype
abbrev pub Db : Type 0
Db = DatBind × ℕ

abbrev pub datbind_of : Under (Ident × Cs) → Db
datbind_of x = (dat.Data (vars_place x.0 x.1.0.0) (vars_of x.0) x.1.0 x.1.1.0, x.1.1.1)

-- what follows the name of an exception: its argument, or the exception that it is
pub data Given : Type 0 where
  Of : Tx → Given
  Same : Name → Given

abbrev pub given_height : Option Given → ℕ
given_height None = 0
given_height (Some (Given.Of t)) = t.1
given_height (Some (Given.Same n)) = 0

abbrev pub exn_in : Vid → Option Given → ExBind
exn_in v None = exn.NewExn v.0 v.1 v.2 None
exn_in v (Some (Given.Of t)) = exn.NewExn v.0 v.1 v.2 (Some t.0)
exn_in v (Some (Given.Same n)) = exn.SameExn v.0 v.1 v.2 n.0.1 n.0.2

-- a binding of an exception
abbrev pub Xb : Type 0
Xb = ExBind × ℕ

abbrev pub exbind_of : Vid × Option Given → Xb
exbind_of x = (exn_in x.0 x.1, suc (given_height x.1))

-- ---- the grammar

-- [tyvarseq] tycon = Ty
abbrev pub TyBindD : (Tx → List Token → Type 0) → Tb → List Token → Type 0
TyBindD T = As tybind_of (UnderD (Both (Shows tycon) (Skip (is EQUALS) T)))

-- [op] vid
abbrev pub VidD : Settings → Vid → List Token → Type 0
VidD fix = Or (As op_of (Both (Shows (the OP)) (Shows op_vid))) (As plain_of (Shows (vid fix)))

-- [op] vid [of Ty]
abbrev pub ConD : Settings → (Tx → List Token → Type 0) → Co → List Token → Type 0
ConD fix T = As con_of (Both (VidD fix) (Maybe (Skip (is OF) T)))

-- {[op] vid [of Ty]}/|
abbrev pub ConsD : Settings → (Tx → List Token → Type 0) → Cs → List Token → Type 0
ConsD fix T = As cons_of (Seps (is BAR) (ConD fix T))

-- Data [tyvarseq] tycon = {[op] vid [of Ty]}/|, over the constructors of a binding
abbrev pub DatBindD : (Cs → List Token → Type 0) → Db → List Token → Type 0
DatBindD C = As datbind_of (UnderD (Both (Shows tycon) (Skip (is EQUALS) C)))

-- of Ty  |  = [op] longvid
abbrev pub GivenD : Settings → (Tx → List Token → Type 0) → Given → List Token → Type 0
GivenD fix T = Or (As Given.Same (Skip (is EQUALS) (NameD fix))) (As Given.Of (Skip (is OF) T))

-- NewExn [op] vid [of Ty]  |  SameExn [op] vid = [op] longvid
abbrev pub ExBindD : Settings → (Tx → List Token → Type 0) → Xb → List Token → Type 0
ExBindD fix T = As exbind_of (Both (VidD fix) (Maybe (GivenD fix T)))

-- the constructors of a binding of this height, and a binding of an exception
unfoldable pub cons_on : ℕ → Settings → Cs → List Token → Type 0
cons_on zero fix t w = ⊥
cons_on (suc h) fix t w = ConsD fix (ty_on h) t w

unfoldable pub exbind_on : ℕ → Settings → Xb → List Token → Type 0
exbind_on zero fix t w = ⊥
exbind_on (suc h) fix t w = ExBindD fix (ty_on h) t w

-- the same in a room
abbrev pub ConsR : Settings → Room → Cs → List Token → Type 0
ConsR fix r = cons_on r.height fix

abbrev pub ExBindR : Settings → Room → Xb → List Token → Type 0
ExBindR fix r = exbind_on r.height fix
