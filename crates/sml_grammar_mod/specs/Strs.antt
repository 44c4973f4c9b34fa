-- Structure expressions, declarations at structure level and bindings: which trees derive which tokens (the Definition, figures 6 to 8).
use Rattle.std.specs.Prelude.{◌≡◌, ℕ, zero, suc, Bool, true, not, ◌&&◌, List, [], ◌∷◌, ◌++◌, Option, Some, None, max, is_some}
use Rattle.tl_text.specs.declared.place.Place.{Place}
use Rattle.readers.specs.Language.{Both, Bound, Shows, Steps, As, Or, Skip, Close}
use Rattle.readers.specs.Room.{Room}
use Rattle.readers.specs.Forms.{Maybe, Seps, Grown, any_tree, highest, height_of}
use Rattle.sml_lex.specs.declared.token.Token.{Token}
use Rattle.sml_ast.specs.declared.sig.Ascribe.{Ascribe}
use Rattle.sml_ast.specs.declared.sig.Ascribe.TheVariants as ascribe
use Rattle.sml_ast.specs.declared.exp.AtExp.{AtExp}
use Rattle.sml_ast.specs.declared.exp.AtExp.TheOpen.{Dec-F}
use Rattle.sml_ast.specs.declared.exp.Clause.{Clause}
use Rattle.sml_ast.specs.declared.exp.Dec.{Dec, out-Dec}
use Rattle.sml_ast.specs.declared.exp.Exp.{Exp}
use Rattle.sml_ast.specs.declared.exp.Rule.{Rule}
use Rattle.sml_ast.specs.declared.program.StrBind.TheOpen.{StrBind-F, StrDec-F, StrExp-F}
use Rattle.sml_ast.specs.declared.program.StrBind.{StrBind, roll-StrBind}
use Rattle.sml_ast.specs.declared.program.StrDec.{StrDec, fold-StrDec, out-StrDec, roll-StrDec}
use Rattle.sml_ast.specs.declared.program.StrExp.{StrExp, out-StrExp, roll-StrExp}
use Rattle.sml_ast.specs.declared.program.SigBind.{SigBind}
use Rattle.sml_ast.specs.declared.program.SigBind.TheVariants as sig_bind
use Rattle.sml_ast.specs.declared.program.FunBind.{FunBind}
use Rattle.sml_ast.specs.declared.program.FunBind.TheVariants as fun_bind
use Rattle.sml_grammar.specs.Words.{AND, CLOSE_PAREN, COLON, END, EQUALS, IN, LET, LOCAL, OPEN_PAREN, SEAL, STRUCT, STRUCTURE}
use Rattle.sml_grammar.specs.Tokens.{is, the, long_strid, strid}
use Rattle.sml_grammar.specs.Types.{Ident, LongIdent, trees}
use Rattle.sml_grammar.specs.Pats.{opt_height, opt_tree}
use Rattle.sml_grammar_exp.specs.Exps.{De}
use Rattle.sml_grammar_exp.specs.Decs.{Changes, all_of, changes, SemisD}
use Rattle.sml_grammar_exp.specs.Levels.{dec_on}
use Rattle.sml_grammar_sig.specs.Sigs.{Sx, Sp, specs_form, sig_on, spec_on}

-- ---- fixities behind a declaration at structure level

-- one level: those of a structure end with it, and those before the `in` of a `local` too
abbrev pub strdec_changes_step : StrDec-F (Unit {0}) Changes (Unit {0}) → Changes
strdec_changes_step (StrDec-F.Core p d) = changes d
strdec_changes_step (StrDec-F.Structs p bs) = []
strdec_changes_step (StrDec-F.LocalStr p ds es) = all_of es

abbrev pub strdec_changes : StrDec → Changes
strdec_changes = fold-StrDec (Unit {0}) Changes (Unit {0}) (λ b. tt) strdec_changes_step (λ e. tt)

-- ---- trees, with their heights beside them

-- a structure expression, a declaration at structure level, a binding of a structure, an ascription
abbrev pub St : Type 0
St = StrExp × ℕ

abbrev pub Sd : Type 0
Sd = StrDec × ℕ

abbrev pub Sb : Type 0
Sb = StrBind × ℕ

abbrev pub Ax : Type 0
Ax = Ascribe × ℕ

-- a binding of a signature, and of a functor
abbrev pub Gb : Type 0
Gb = SigBind × ℕ

abbrev pub Fb : Type 0
Fb = FunBind × ℕ

-- the directives in force behind a declaration, and behind a row of them
abbrev pub str_after : Changes → Sd → Changes
str_after cs d = cs ++ strdec_changes d.0

abbrev pub str_afters : Changes → List Sd → Changes
str_afters cs [] = cs
str_afters cs (d ∷ ds) = str_afters (str_after cs d) ds

-- the places of the first tokens
abbrev pub str_place_in : StrExp-F StrBind StrDec StrExp → Place
str_place_in (StrExp-F.Body p ds) = p
str_place_in (StrExp-F.At p x) = p
str_place_in (StrExp-F.Seal p e a) = p
str_place_in (StrExp-F.Call p f e) = p
str_place_in (StrExp-F.CallBody p f ds) = p
str_place_in (StrExp-F.LetStr p ds e) = p

abbrev pub str_place : StrExp → Place
str_place e = str_place_in (out-StrExp e)

abbrev pub dec_place_in : Dec-F AtExp Clause Dec Exp Rule → Place
dec_place_in (Dec-F.Vals p vs r bs) = p
dec_place_in (Dec-F.Funs p vs cs) = p
dec_place_in (Dec-F.Types p bs) = p
dec_place_in (Dec-F.Datas p bs ts) = p
dec_place_in (Dec-F.Copy p v x) = p
dec_place_in (Dec-F.Exns p bs) = p
dec_place_in (Dec-F.Local p ds es) = p
dec_place_in (Dec-F.Opens p xs) = p
dec_place_in (Dec-F.Fix p r d vs) = p
dec_place_in (Dec-F.Nonfix p vs) = p
dec_place_in (Dec-F.Abs p bs ts ds) = p

abbrev pub dec_place : Dec → Place
dec_place d = dec_place_in (out-Dec d)

abbrev pub clear_of : Place × Sx → Ax
clear_of x = (ascribe.Clear x.0 x.1.0, suc x.1.1)

abbrev pub opaque_of : Place × Sx → Ax
opaque_of x = (ascribe.Opaque x.0 x.1.0, suc x.1.1)

abbrev pub body_of : Place × List Sd → St
body_of x = (roll-StrExp (StrExp-F.Body x.0 (trees x.1)), suc (highest height_of x.1))

abbrev pub at_of : LongIdent → St
at_of x = (roll-StrExp (StrExp-F.At x.0 x), 1)

abbrev pub call_of : Ident × St → St
call_of x = (roll-StrExp (StrExp-F.Call x.0.0 x.0 x.1.0), suc x.1.1)

abbrev pub call_body_of : Ident × List Sd → St
call_body_of x = (roll-StrExp (StrExp-F.CallBody x.0.0 x.0 (trees x.1)), suc (highest height_of x.1))

abbrev pub let_str_of : Place × (List Sd × St) → St
let_str_of x = (roll-StrExp (StrExp-F.LetStr x.0 (trees x.1.0) x.1.1.0), suc (max (highest height_of x.1.0) x.1.1.1))

abbrev pub seal_of : St × Ax → St
seal_of x = (roll-StrExp (StrExp-F.Seal (str_place x.0.0) x.0.0 x.1.0), suc (max x.0.1 x.1.1))

abbrev pub core_of : De → Sd
core_of d = (roll-StrDec (StrDec-F.Core (dec_place d.0) d.0), suc d.1)

abbrev pub structs_of : Place × List Sb → Sd
structs_of x = (roll-StrDec (StrDec-F.Structs x.0 (trees x.1)), suc (highest height_of x.1))

abbrev pub local_str_of : Place × (List Sd × List Sd) → Sd
local_str_of x = (roll-StrDec (StrDec-F.LocalStr x.0 (trees x.1.0) (trees x.1.1)), suc (max (highest height_of x.1.0) (highest height_of x.1.1)))

abbrev pub core_in : StrDec-F StrBind StrDec StrExp → Option Dec
core_in (StrDec-F.Core p d) = Some d
core_in _ = None

-- the declaration of the core that it is, if it is one
abbrev pub core_dec : StrDec → Option Dec
core_dec d = core_in (out-StrDec d)

abbrev pub all_core : List Sd → Bool
all_core [] = true
all_core (d ∷ ds) = is_some (core_dec d.0) && all_core ds

-- not all members of a `local` are of the core
abbrev pub beyond_core : Place × (List Sd × List Sd) → Bool
beyond_core x = not (all_core x.1.0 && all_core x.1.1)

abbrev pub strbind_of : (Ident × Option Ax) × St → Sb
strbind_of x = (roll-StrBind (StrBind-F.Bind x.0.0.0 x.0.0 (opt_tree x.0.1) x.1.0), suc (max (opt_height x.0.1) x.1.1))

abbrev pub sigbind_of : Ident × Sx → Gb
sigbind_of x = (sig_bind.SigAs x.0.0 x.0 x.1.0, suc x.1.1)

-- what stands in the parentheses of a functor: a structure with its signature, or specifications alone
pub data Param : Type 0 where
  Named : Ident × Sx → Param
  Opened : List Sp → Param

abbrev pub param_height : Param → ℕ
param_height (Param.Named x) = x.1.1
param_height (Param.Opened ss) = highest height_of ss

abbrev pub funbind_in : Ident → Param → Option Ascribe → StrExp → FunBind
funbind_in f (Param.Named x) a e = fun_bind.FunOf f.0 f x.0 x.1.0 a e
funbind_in f (Param.Opened ss) a e = fun_bind.FunSpecs f.0 f (trees ss) a e

abbrev pub funbind_of : (Ident × (Param × Option Ax)) × St → Fb
funbind_of x = (funbind_in x.0.0 x.0.1.0 (opt_tree x.0.1.1) x.1.0, suc (max (max (param_height x.0.1.0) (opt_height x.0.1.1)) x.1.1))

-- ---- the grammar, over the phrases one level lower

-- phrases whose trees pass
abbrev pub Such : {T : Type 0} → (T → Bool) → (T → List Token → Type 0) → T → List Token → Type 0
Such test D t w = (test t ≡ true) × D t w

-- Clear : SigExp  |  Opaque :> SigExp
abbrev pub AscribeD : (Sx → List Token → Type 0) → Ax → List Token → Type 0
AscribeD G = Or (As clear_of (Both (Shows (the COLON)) G)) (As opaque_of (Both (Shows (the SEAL)) G))

-- Body struct {StrDec [;]} end
abbrev pub BodyD : (List Sd → List Token → Type 0) → St → List Token → Type 0
BodyD D = As body_of (Both (Shows (the STRUCT)) (Close D (is END)))

-- At longstrid
abbrev pub AtD : St → List Token → Type 0
AtD = As at_of (Shows long_strid)

-- Call funid ( StrExp )
abbrev pub CallD : (St → List Token → Type 0) → St → List Token → Type 0
CallD S = As call_of (Both (Shows strid) (Skip (is OPEN_PAREN) (Close S (is CLOSE_PAREN))))

-- CallBody funid ( {StrDec [;]} )
abbrev pub CallBodyD : (List Sd → List Token → Type 0) → St → List Token → Type 0
CallBodyD D = As call_body_of (Both (Shows strid) (Skip (is OPEN_PAREN) (Close D (is CLOSE_PAREN))))

-- LetStr let {StrDec [;]} in StrExp end, the expression under the fixities that the declarations leave
abbrev pub LetStrD : (List Sd → List Token → Type 0) → (List Sd → St → List Token → Type 0) → St → List Token → Type 0
LetStrD D after = As let_str_of (Both (Shows (the LET)) (Bound D (λ ds. Skip (is IN) (Close (after ds) (is END)))))

-- Body  |  At  |  Call  |  CallBody  |  LetStr
abbrev pub base_form : (List Sd → List Token → Type 0) → (St → List Token → Type 0) → (List Sd → St → List Token → Type 0) → St → List Token → Type 0
base_form D S after =
    Or (BodyD D)
    (Or AtD
    (Or (CallD S)
    (Or (CallBodyD D)
    (LetStrD D after))))

-- the same  |  Seal StrExp Ascribe
abbrev pub str_form : (St → List Token → Type 0) → (St → List Token → Type 0) → (Ax → List Token → Type 0) → St → List Token → Type 0
str_form B S A = Or B (As seal_of (Grown any_tree S A))

-- Bind strid [Ascribe] = StrExp
abbrev pub StrBindD : (Ax → List Token → Type 0) → (St → List Token → Type 0) → Sb → List Token → Type 0
StrBindD A S = As strbind_of (Both (Both (Shows strid) (Maybe A)) (Skip (is EQUALS) S))

-- Core Dec
abbrev pub CoreD : (De → List Token → Type 0) → Sd → List Token → Type 0
CoreD E = As core_of E

-- Structs structure {StrBind}/and
abbrev pub StructsD : (Sb → List Token → Type 0) → Sd → List Token → Type 0
StructsD B = As structs_of (Both (Shows (the STRUCTURE)) (Seps (is AND) B))

-- LocalStr local {StrDec [;]} in {StrDec [;]} end, where not all members are of the core; the second row under the fixities that the first leaves
abbrev pub LocalStrD : (List Sd → List Token → Type 0) → (List Sd → List Sd → List Token → Type 0) → Sd → List Token → Type 0
LocalStrD D after = As local_str_of (Such beyond_core (Both (Shows (the LOCAL)) (Bound D (λ ds. Skip (is IN) (Close (after ds) (is END))))))

-- Core  |  Structs  |  LocalStr
abbrev pub strdec_form : (De → List Token → Type 0) → (Sb → List Token → Type 0) → (List Sd → List Token → Type 0) → (List Sd → List Sd → List Token → Type 0) → Sd → List Token → Type 0
strdec_form E B D after =
    Or (CoreD E)
    (Or (StructsD B)
    (LocalStrD D after))

abbrev pub strdec_alone : Sd × List (Unit {0}) → Sd
strdec_alone x = x.0

abbrev pub strdecs_alone : List (Unit {0}) × List Sd → List Sd
strdecs_alone x = x.1

-- StrDec [;]
abbrev pub StrItemD : (Sd → List Token → Type 0) → Sd → List Token → Type 0
StrItemD D = As strdec_alone (Both D SemisD)

-- {StrDec [;]}, each under the fixities that those before it leave
abbrev pub strdecs_form : (Changes → Sd → List Token → Type 0) → Changes → List Sd → List Token → Type 0
strdecs_form D cs = As strdecs_alone (Both SemisD (Steps str_after (λ c. StrItemD (D c)) cs))

-- SigAs sigid = SigExp
abbrev pub SigBindD : (Sx → List Token → Type 0) → Gb → List Token → Type 0
SigBindD G = As sigbind_of (Both (Shows strid) (Skip (is EQUALS) G))

-- ( strid : SigExp )  |  ( {Spec [;]} )
abbrev pub ParamD : (Sx → List Token → Type 0) → (Sp → List Token → Type 0) → Param → List Token → Type 0
ParamD G P =
    Or (As Param.Named (Skip (is OPEN_PAREN) (Close (Both (Shows strid) (Skip (is COLON) G)) (is CLOSE_PAREN))))
    (As Param.Opened (Skip (is OPEN_PAREN) (Close (specs_form P) (is CLOSE_PAREN))))

-- FunOf funid ( strid : SigExp ) [Ascribe] = StrExp  |  FunSpecs funid ( {Spec [;]} ) [Ascribe] = StrExp
abbrev pub FunBindD : (Sx → List Token → Type 0) → (Sp → List Token → Type 0) → (Ax → List Token → Type 0) → (St → List Token → Type 0) → Fb → List Token → Type 0
FunBindD G P A S = As funbind_of (Both (Both (Shows strid) (Both (ParamD G P) (Maybe A))) (Skip (is EQUALS) S))

-- ---- all heights

-- an ascription of this height, which is at most the first
unfoldable pub ascribe_on : ℕ → Ax → List Token → Type 0
ascribe_on zero t w = ⊥
ascribe_on (suc h) t w = AscribeD (sig_on h) t w

-- the same of a structure expression without ascription, any, a binding, a declaration; the Boolean tells whether operators may clash
unfoldable mutual
  pub base_on : ℕ → Bool → Changes → St → List Token → Type 0
  base_on zero b cs t w = ⊥
  base_on (suc h) b cs t w = base_form (strdecs_form (strdec_on h b) cs) (str_on h b cs) (λ ds. str_on h b (str_afters cs ds)) t w

  pub str_on : ℕ → Bool → Changes → St → List Token → Type 0
  str_on zero b cs t w = ⊥
  str_on (suc h) b cs t w =
      str_form (base_form (strdecs_form (strdec_on h b) cs) (str_on h b cs) (λ ds. str_on h b (str_afters cs ds))) (str_on h b cs) (ascribe_on h) t w

  pub strbind_on : ℕ → Bool → Changes → Sb → List Token → Type 0
  strbind_on zero b cs t w = ⊥
  strbind_on (suc h) b cs t w = StrBindD (ascribe_on h) (str_on h b cs) t w

  pub strdec_on : ℕ → Bool → Changes → Sd → List Token → Type 0
  strdec_on zero b cs t w = ⊥
  strdec_on (suc h) b cs t w =
      strdec_form (dec_on h b cs) (strbind_on h b cs) (strdecs_form (strdec_on h b) cs) (λ ds. strdecs_form (strdec_on h b) (str_afters cs ds)) t w

unfoldable pub sigbind_on : ℕ → Gb → List Token → Type 0
sigbind_on zero t w = ⊥
sigbind_on (suc h) t w = SigBindD (sig_on h) t w

unfoldable pub funbind_on : ℕ → Bool → Changes → Fb → List Token → Type 0
funbind_on zero b cs t w = ⊥
funbind_on (suc h) b cs t w = FunBindD (sig_on h) (spec_on h) (ascribe_on h) (str_on h b cs) t w

-- the same in a room
abbrev pub AscribeR : Room → Ax → List Token → Type 0
AscribeR r = ascribe_on r.height

abbrev pub BaseR : Changes → Room → St → List Token → Type 0
BaseR cs r = base_on r.height r.clashes cs

abbrev pub StrR : Changes → Room → St → List Token → Type 0
StrR cs r = str_on r.height r.clashes cs

abbrev pub StrBindR : Changes → Room → Sb → List Token → Type 0
StrBindR cs r = strbind_on r.height r.clashes cs

abbrev pub StrDecR : Changes → Room → Sd → List Token → Type 0
StrDecR cs r = strdec_on r.height r.clashes cs

-- a row of declarations
abbrev pub StrDecsR : Changes → Room → List Sd → List Token → Type 0
StrDecsR cs r = strdecs_form (λ c. StrDecR c r) cs

abbrev pub SigBindR : Room → Gb → List Token → Type 0
SigBindR r = sigbind_on r.height

abbrev pub FunBindR : Changes → Room → Fb → List Token → Type 0
FunBindR cs r = funbind_on r.height r.clashes cs
