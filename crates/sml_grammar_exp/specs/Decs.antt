-- Declarations: which trees derive which tokens, under which fixities and over which expressions (the Definition, figures 4 and 17).
use Rattle.std.specs.Prelude.{ℕ, suc, codes, Bool, true, false, not, List, [], ◌∷◌, ◌++◌, Option, Some, None, max, map, if◌then◌else◌}
use Rattle.tl_text.specs.declared.place.Place.{Place}
use Rattle.readers.specs.Language.{Both, Bound, That, Shows, Row, Steps, As, Or, Skip, Close}
use Rattle.readers.specs.Forms.{Maybe, Seps, Ready, highest, height_of}
use Rattle.sml_lex.specs.declared.token.Token.{Token}
use Rattle.sml_fix.specs.Fixities.{Settings, assigned, none}
use Rattle.sml_fix.specs.declared.fixities.Side.{Side}
use Rattle.sml_fix.specs.declared.fixities.Side.TheVariants.{Left as ToLeft, Right as ToRight}
use Rattle.sml_ast.specs.declared.exp.AtExp.TheOpen.{Dec-F, Clause-F}
use Rattle.sml_ast.specs.declared.exp.Exp.{Exp}
use Rattle.sml_ast.specs.declared.exp.Dec.{Dec, fold-Dec, roll-Dec}
use Rattle.sml_ast.specs.declared.exp.Clause.{Clause, roll-Clause}
use Rattle.sml_grammar.specs.Words.{ABSTYPE, AND, BAR, COLON, DATATYPE, END, EQUALS, EXCEPTION, FUN, IN, INFIX, INFIXR, LOCAL, NONFIX, OPEN, REC, SEMICOLON, TYPE, VAL, WITH, WITHTYPE}
use Rattle.sml_grammar.specs.Tokens.{is, the, any_vid, digit, long_strid, long_tycon, tycon}
use Rattle.sml_grammar.specs.Types.{Ident, LongIdent, Tx, trees}
use Rattle.sml_grammar.specs.Pats.{Pt, opt_height, opt_tree, at_pat_place}
use Rattle.sml_grammar_exp.specs.Binds.{Vars, Under, VarsD, UnderD, vars_of, Tb, TyBindD, Cs, Db, DatBindD, datbind_of, Xb}
use Rattle.sml_grammar_exp.specs.Clauses.{Head, head_height, Many}
use Rattle.sml_grammar_exp.specs.Exps.{Ends, Ex, De, takes_bar}

-- ---- fixities behind a declaration

-- what directives say of identifiers, in their order
abbrev pub Changes : Type 0
Changes = List (List ℕ × Option (ℕ × Side))

abbrev pub changed : Settings → Changes → Settings
changed fix [] = fix
changed fix (c ∷ cs) = changed (assigned fix c.0 c.1) cs

-- the fixities where these directives are in force
abbrev pub fixed : Changes → Settings
fixed = changed none

abbrev pub each : ℕ × Side → List (List ℕ) → Changes
each s = map (λ v. (v, Some s))

-- those of the start
abbrev pub started : Changes
started =
    each (7, ToLeft) (codes "*" ∷ codes "/" ∷ codes "div" ∷ codes "mod" ∷ []) ++ each (6, ToLeft) (codes "+" ∷ codes "-" ∷ codes "^" ∷ []) ++ each (5, ToRight) (codes "::" ∷ codes "@" ∷ [])
    ++ each (4, ToLeft) (codes "=" ∷ codes "<>" ∷ codes ">" ∷ codes ">=" ∷ codes "<" ∷ codes "<=" ∷ []) ++ each (3, ToLeft) (codes ":=" ∷ codes "o" ∷ []) ++ each (0, ToLeft) (codes "before" ∷ [])

abbrev pub digit_of : Option ℕ → ℕ
digit_of None = 0
digit_of (Some n) = n

abbrev pub side_of : Bool → Side
side_of to_right = if to_right then ToRight else ToLeft

abbrev pub all_of : List Changes → Changes
all_of [] = []
all_of (c ∷ cs) = c ++ all_of cs

-- one level: those before the `in` of a `local` end with it
abbrev pub changes_step : Dec-F (Unit {0}) (Unit {0}) Changes (Unit {0}) (Unit {0}) → Changes
changes_step (Dec-F.Fix p r d xs) = map (λ x. (x.1, Some (digit_of d, side_of r))) xs
changes_step (Dec-F.Nonfix p xs) = map (λ x. (x.1, None)) xs
changes_step (Dec-F.Local p ds es) = all_of es
changes_step (Dec-F.Abs p bs ts ds) = all_of ds
changes_step _ = []

abbrev pub changes : Dec → Changes
changes = fold-Dec (Unit {0}) (Unit {0}) Changes (Unit {0}) (Unit {0}) (λ a. tt) (λ c. tt) changes_step (λ e. tt) (λ r. tt)

-- the directives in force behind a declaration, and behind a row of them
abbrev pub after : Changes → De → Changes
after cs d = cs ++ changes d.0

abbrev pub afters : Changes → List De → Changes
afters cs [] = cs
afters cs (d ∷ ds) = afters (after cs d) ds

-- ---- trees, with their heights beside them

-- a binding of values
abbrev pub Vb : Type 0
Vb = Pt × Ex

abbrev pub vb_height : Vb → ℕ
vb_height b = max b.0.1 b.1.1

-- bindings, and whether `rec` stands before them
abbrev pub Vbs : Type 0
Vbs = Bool × List Vb

abbrev pub vbs_of : Bool → List Vb → Vbs
vbs_of is_rec bs = (is_rec, bs)

abbrev pub vbs_height : Vbs → ℕ
vbs_height x = highest vb_height x.1

abbrev pub vals_of : Place × Under Vbs → De
vals_of x = (roll-Dec (Dec-F.Vals x.0 (vars_of x.1.0) x.1.1.0 (map (λ b. (b.0.0, b.1.0.0)) x.1.1.1)), suc (vbs_height x.1.1))

-- a clause, its height, and how it ends
abbrev pub Cl : Type 0
Cl = (Clause × Ends) × ℕ

-- a bar behind the clause begins the next one
abbrev pub clause_bar : Cl → Bool
clause_bar c = not (takes_bar c.0.1.reach)

abbrev pub clause_in : Head → Option Tx → Exp → Clause
clause_in (Head.Prefix x) t e = roll-Clause (Clause-F.Prefix x.0.0 x.0.1 x.0.2 (trees x.1) (opt_tree t) e)
clause_in (Head.Mid x) t e = roll-Clause (Clause-F.Mid (at_pat_place x.0.0) x.0.0 x.1.0 x.1.1.0 (opt_tree t) e)
clause_in (Head.MidMore x) t e = roll-Clause (Clause-F.MidMore x.0.0 x.0.1.0.0 x.0.1.1.0 x.0.1.1.1.0 (trees x.1) (opt_tree t) e)

abbrev pub clause_of : (Head × Option Tx) × Ex → Cl
clause_of x = ((clause_in x.0.0 x.0.1 x.1.0.0, x.1.0.1), suc (max (max (head_height x.0.0) (opt_height x.0.1)) x.1.1))

abbrev pub clauses_height : List Cl → ℕ
clauses_height = highest height_of

abbrev pub funs_of : Place × Under (List (List Cl)) → De
funs_of x = (roll-Dec (Dec-F.Funs x.0 (vars_of x.1.0) (map (λ cs. map (λ c. c.0.0) cs) x.1.1)), suc (highest clauses_height x.1.1))

abbrev pub types_of : Place × List Tb → De
types_of x = (roll-Dec (Dec-F.Types x.0 (trees x.1)), suc (highest height_of x.1))

abbrev pub opt_list : {T : Type 0} → Option (List T) → List T
opt_list None = []
opt_list (Some ts) = ts

-- the bindings of `withtype`
abbrev pub with_height : Option (List Tb) → ℕ
with_height None = 0
with_height (Some ts) = highest height_of ts

-- bindings of datatypes behind the first, which may be known in part, and those of `withtype`
abbrev pub Binds : Type 0 → Type 0
Binds X = (X × List Db) × Option (List Tb)

abbrev pub binds_height : {X : Type 0} → Binds (X × ℕ) → ℕ
binds_height x = max (max x.0.0.1 (highest height_of x.0.1)) (with_height x.1)

-- what follows `datatype`: a name and the type that it copies, or bindings
pub data Data : Type 0 where
  Copied : Ident × LongIdent → Data
  Bindings : Binds Db → Data

abbrev pub data_height : Data → ℕ
data_height (Data.Copied x) = 0
data_height (Data.Bindings x) = binds_height x

abbrev pub data_in : Place → Data → Dec
data_in p (Data.Copied x) = roll-Dec (Dec-F.Copy p x.0 x.1)
data_in p (Data.Bindings x) = roll-Dec (Dec-F.Datas p (x.0.0.0 ∷ trees x.0.1) (trees (opt_list x.1)))

abbrev pub data_of : Place × Data → De
data_of x = (data_in x.0 x.1, suc (data_height x.1))

-- what follows `datatype tycon =`
pub data Right : Type 0 where
  Copies : LongIdent → Right
  Cons : Binds Cs → Right

abbrev pub right_height : Right → ℕ
right_height (Right.Copies c) = 0
right_height (Right.Cons x) = binds_height x

abbrev pub right_in : Ident → Right → Data
right_in t (Right.Copies c) = Data.Copied (t, c)
right_in t (Right.Cons x) = Data.Bindings ((datbind_of (None, (t, x.0.0)), x.0.1), x.1)

abbrev pub right_of : Ident × Right → Data
right_of x = right_in x.0 x.1

-- behind type variables there are bindings
abbrev pub vars_data : Vars × (Ident × Binds Cs) → Data
vars_data x = Data.Bindings ((datbind_of (Some x.0, (x.1.0, x.1.1.0.0)), x.1.1.0.1), x.1.1.1)

abbrev pub abs_of : Place × ((List Db × Option (List Tb)) × List De) → De
abs_of x = (
  roll-Dec (Dec-F.Abs x.0 (trees x.1.0.0) (trees (opt_list x.1.0.1)) (trees x.1.1)),
  suc (max (max (highest height_of x.1.0.0) (with_height x.1.0.1)) (highest height_of x.1.1)),
)

abbrev pub exns_of : Place × List Xb → De
exns_of x = (roll-Dec (Dec-F.Exns x.0 (trees x.1)), suc (highest height_of x.1))

abbrev pub local_of : Place × (List De × List De) → De
local_of x = (roll-Dec (Dec-F.Local x.0 (trees x.1.0) (trees x.1.1)), suc (max (highest height_of x.1.0) (highest height_of x.1.1)))

abbrev pub opens_of : Place × List LongIdent → De
opens_of x = (roll-Dec (Dec-F.Opens x.0 x.1), 1)

abbrev pub fix_of : Bool → Place × (Option ℕ × List Ident) → De
fix_of to_right x = (roll-Dec (Dec-F.Fix x.0 to_right x.1.0 x.1.1), 1)

abbrev pub nonfix_of : Place × List Ident → De
nonfix_of x = (roll-Dec (Dec-F.Nonfix x.0 x.1), 1)

-- ---- the grammar, over the phrases one level lower

-- Pat = Exp
abbrev pub VbD : (Pt → List Token → Type 0) → (Ex → List Token → Type 0) → Vb → List Token → Type 0
VbD P E = Both P (Skip (is EQUALS) E)

-- [rec] {Pat = Exp}/and
abbrev pub VbsD : (Pt → List Token → Type 0) → (Ex → List Token → Type 0) → Vbs → List Token → Type 0
VbsD P E = Or (As (vbs_of true) (Skip (is REC) (Seps (is AND) (VbD P E)))) (As (vbs_of false) (Seps (is AND) (VbD P E)))

-- Vals val [tyvarseq] [rec] {Pat = Exp}/and
abbrev pub ValsD : (Pt → List Token → Type 0) → (Ex → List Token → Type 0) → De → List Token → Type 0
ValsD P E = As vals_of (Both (Shows (the VAL)) (UnderD (VbsD P E)))

-- Prefix, Mid, MidMore .. [: Ty] = Exp
abbrev pub ClauseD : (Head → List Token → Type 0) → (Tx → List Token → Type 0) → (Ex → List Token → Type 0) → Cl → List Token → Type 0
ClauseD H T E = As clause_of (Both (Both H (Maybe (Skip (is COLON) T))) (Skip (is EQUALS) E))

-- Funs fun [tyvarseq] {{Clause}/|}/and, where a bar belongs to the nearest match
abbrev pub FunsD : (Cl → List Token → Type 0) → De → List Token → Type 0
FunsD C = As funs_of (Both (Shows (the FUN)) (UnderD (Seps (is AND) (Ready (is BAR) clause_bar C))))

-- Types type {[tyvarseq] tycon = Ty}/and
abbrev pub TypesD : (Tx → List Token → Type 0) → De → List Token → Type 0
TypesD T = As types_of (Both (Shows (the TYPE)) (Seps (is AND) (TyBindD T)))

-- [withtype {[tyvarseq] tycon = Ty}/and]
abbrev pub WithD : (Tx → List Token → Type 0) → Option (List Tb) → List Token → Type 0
WithD T = Maybe (Skip (is WITHTYPE) (Seps (is AND) (TyBindD T)))

-- {and DatBind} [withtype ..] behind the first binding
abbrev pub BindsD : {X : Type 0} → (X → List Token → Type 0) → (Cs → List Token → Type 0) → (Tx → List Token → Type 0) → Binds X → List Token → Type 0
BindsD F C T = Both (Both F (Row (Skip (is AND) (DatBindD C)))) (WithD T)

-- datatype longtycon  |  {[op] vid [of Ty]}/| {and DatBind} [withtype ..]
abbrev pub RightD : (Cs → List Token → Type 0) → (Tx → List Token → Type 0) → Right → List Token → Type 0
RightD C T = Or (As Right.Copies (Skip (is DATATYPE) (Shows long_tycon))) (As Right.Cons (BindsD C C T))

-- tycon = and one of these  |  tyvarseq tycon = and the second
abbrev pub DataD : (Cs → List Token → Type 0) → (Tx → List Token → Type 0) → Data → List Token → Type 0
DataD C T =
    Or (As right_of (Both (Shows tycon) (Skip (is EQUALS) (RightD C T))))
    (As vars_data (VarsD (Both (Shows tycon) (Skip (is EQUALS) (BindsD C C T)))))

-- Copy datatype tycon = datatype longtycon  |  Datas datatype {DatBind}/and [withtype {[tyvarseq] tycon = Ty}/and]
abbrev pub DatasD : (Cs → List Token → Type 0) → (Tx → List Token → Type 0) → De → List Token → Type 0
DatasD C T = As data_of (Both (Shows (the DATATYPE)) (DataD C T))

-- Abs abstype {DatBind}/and [withtype {[tyvarseq] tycon = Ty}/and] with {Dec [;]} end
abbrev pub AbsD : (Cs → List Token → Type 0) → (Tx → List Token → Type 0) → (List De → List Token → Type 0) → De → List Token → Type 0
AbsD C T D = As abs_of (Both (Shows (the ABSTYPE)) (Both (Both (Seps (is AND) (DatBindD C)) (WithD T)) (Skip (is WITH) (Close D (is END)))))

-- Exns exception {ExBind}/and
abbrev pub ExnsD : (Xb → List Token → Type 0) → De → List Token → Type 0
ExnsD X = As exns_of (Both (Shows (the EXCEPTION)) (Seps (is AND) X))

-- Local local {Dec [;]} in {Dec [;]} end, the second row under the fixities that the first leaves
abbrev pub LocalD : (List De → List Token → Type 0) → (List De → List De → List Token → Type 0) → De → List Token → Type 0
LocalD D after = As local_of (Both (Shows (the LOCAL)) (Bound D (λ ds. Skip (is IN) (Close (after ds) (is END)))))

-- Opens open {longstrid}+
abbrev pub OpensD : De → List Token → Type 0
OpensD = As opens_of (Both (Shows (the OPEN)) (Many (Shows long_strid)))

-- Fix (infix | infixr) [digit] {vid}+
abbrev pub FixD : ℕ → Bool → De → List Token → Type 0
FixD word to_right = As (fix_of to_right) (Both (Shows (the word)) (Both (Maybe (Shows digit)) (Many (Shows any_vid))))

-- Nonfix nonfix {vid}+
abbrev pub NonfixD : De → List Token → Type 0
NonfixD = As nonfix_of (Both (Shows (the NONFIX)) (Many (Shows any_vid)))

-- Opens  |  Fix  |  Nonfix  |  Local  |  Copy, Datas  |  Types  |  Exns  |  Abs  |  Vals  |  Funs
abbrev pub dec_form : (List De → List Token → Type 0) → (List De → List De → List Token → Type 0) → (Tx → List Token → Type 0) → (Cs → List Token → Type 0) → (Xb → List Token → Type 0) → (Pt → List Token → Type 0) → (Ex → List Token → Type 0) → (Cl → List Token → Type 0) → De → List Token → Type 0
dec_form D after T C X P E F =
    Or OpensD
    (Or (FixD INFIX false)
    (Or (FixD INFIXR true)
    (Or NonfixD
    (Or (LocalD D after)
    (Or (DatasD C T)
    (Or (TypesD T)
    (Or (ExnsD X)
    (Or (AbsD C T D)
    (Or (ValsD P E)
    (FunsD F))))))))))

-- any number of semicolons
abbrev pub SemisD : List (Unit {0}) → List Token → Type 0
SemisD = Row (λ u. That (is SEMICOLON))

abbrev pub dec_alone : De × List (Unit {0}) → De
dec_alone x = x.0

abbrev pub decs_alone : List (Unit {0}) × List De → List De
decs_alone x = x.1

-- Dec [;]
abbrev pub ItemD : (De → List Token → Type 0) → De → List Token → Type 0
ItemD D = As dec_alone (Both D SemisD)

-- {Dec [;]}, each under the fixities that those before it leave
abbrev pub decs_form : (Changes → De → List Token → Type 0) → Changes → List De → List Token → Type 0
decs_form D cs = As decs_alone (Both SemisD (Steps after (λ c. ItemD (D c)) cs))
