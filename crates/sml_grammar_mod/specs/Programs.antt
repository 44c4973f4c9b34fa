-- Top-level declarations and whole programs: which trees derive which tokens, and the fixities behind them (the Definition, figure 8).
use Rattle.std.specs.Prelude.{◌≡◌, ℕ, zero, suc, Bool, List, [], ◌∷◌, ◌++◌, Option, map}
use Rattle.tl_text.specs.declared.place.Place.{Place}
use Rattle.readers.specs.Language.{Both, Shows, Row, Steps, As, Or}
use Rattle.readers.specs.Room.{Room}
use Rattle.readers.specs.Forms.{Seps, highest, height_of, shown}
use Rattle.sml_lex.specs.declared.token.Token.{Token}
use Rattle.sml_ast.specs.declared.program.StrBind.{StrBind}
use Rattle.sml_ast.specs.declared.program.StrBind.TheOpen.{StrDec-F}
use Rattle.sml_ast.specs.declared.program.StrDec.{StrDec, out-StrDec}
use Rattle.sml_ast.specs.declared.program.StrExp.{StrExp}
use Rattle.sml_ast.specs.declared.program.Top.{Top}
use Rattle.sml_ast.specs.declared.program.Top.TheVariants as tops
use Rattle.sml_ast.specs.declared.program.Program.{Program}
use Rattle.sml_ast.specs.declared.program.Program.TheVariants as programs
use Rattle.sml_grammar.specs.Promise.{Derives}
use Rattle.sml_grammar.specs.Words.{AND, FUNCTOR, SEMICOLON, SIGNATURE}
use Rattle.sml_grammar.specs.Tokens.{Firsts, firsts, is, the, tokens_of, place, LAST}
use Rattle.sml_grammar.specs.Types.{trees}
use Rattle.sml_grammar_exp.specs.Exps.{Ex, exp_place}
use Rattle.sml_grammar_exp.specs.Decs.{Changes, SemisD}
use Rattle.sml_grammar_exp.specs.Levels.{exp_on}
use Rattle.sml_grammar_mod.specs.Strs.{Sd, Gb, Fb, strdec_changes, strdec_on, sigbind_on, funbind_on}

-- ---- trees, with their heights beside them

-- a top-level declaration, and a program
abbrev pub Tp : Type 0
Tp = Top × ℕ

abbrev pub Pr : Type 0
Pr = Program × ℕ

-- what directives a top-level declaration leaves
abbrev pub top_changes : Top → Changes
top_changes (tops.Strs p d) = strdec_changes d
top_changes _ = []

-- the places of the first tokens
abbrev pub top_place : Top → Place
top_place (tops.Strs p d) = p
top_place (tops.Sigs p bs) = p
top_place (tops.Funs p bs) = p
top_place (tops.Run p e) = p

abbrev pub strdec_place_in : StrDec-F StrBind StrDec StrExp → Place
strdec_place_in (StrDec-F.Core p d) = p
strdec_place_in (StrDec-F.Structs p bs) = p
strdec_place_in (StrDec-F.LocalStr p ds es) = p

abbrev pub strdec_place : StrDec → Place
strdec_place d = strdec_place_in (out-StrDec d)

abbrev pub strs_of : Sd → Tp
strs_of d = (tops.Strs (strdec_place d.0) d.0, suc d.1)

abbrev pub sigs_of : Place × List Gb → Tp
sigs_of x = (tops.Sigs x.0 (trees x.1), suc (highest height_of x.1))

abbrev pub funs_of : Place × List Fb → Tp
funs_of x = (tops.Funs x.0 (trees x.1), suc (highest height_of x.1))

abbrev pub run_of : Ex → Tp
run_of e = (tops.Run (exp_place e.0.0) e.0.0, suc e.1)

-- ---- rows of top-level declarations

-- a top-level declaration and the semicolons behind it
abbrev pub Item : Type 0
Item = Tp × List (Unit {0})

-- what stands before: nothing or a semicolon, a declaration, an expression
pub data Before : Type 0 where
  Fresh : Before
  Declared : Before
  Evaluated : Before

-- what stands before when there is no semicolon
abbrev pub behind_top : Top → Before
behind_top (tops.Run p e) = Evaluated
behind_top _ = Declared

abbrev pub behind : Top → List (Unit {0}) → Before
behind t [] = behind_top t
behind t (s ∷ ss) = Fresh

-- the directives in force, and what stands before
abbrev pub Site : Type 0
Site = Changes × Before

abbrev pub after_item : Site → Item → Site
after_item x u = (x.0 ++ top_changes u.0.0, behind u.0.0 u.1)

-- the place of the first token, which is the end of the source where there is no other
abbrev pub program_place : List Place → List Item → Place → Place
program_place (p ∷ ps) us q = p
program_place [] (u ∷ us) q = top_place u.0.0
program_place [] [] q = q

abbrev pub item_height : Item → ℕ
item_height u = u.0.1

abbrev pub item_trees : List Item → List Top
item_trees = map (λ u. u.0.0)

abbrev pub program_of : List Place × (List Item × Place) → Pr
program_of x = (programs.Tops (program_place x.0 x.1.0 x.1.1) (item_trees x.1.0), suc (highest item_height x.1.0))

-- the directives in force behind these, where the first were before them
abbrev pub left_by_tops : Changes → List Top → Changes
left_by_tops cs [] = cs
left_by_tops cs (t ∷ ts) = left_by_tops (cs ++ top_changes t) ts

abbrev pub left_in : Changes → Program → Changes
left_in cs (programs.Tops p ts) = left_by_tops cs ts

-- the directives in force behind a program
abbrev pub left_by : Changes → Pr → Changes
left_by cs t = left_in cs t.0

-- ---- the grammar, over the phrases one level lower

abbrev pub ends : Firsts
ends = firsts [] (LAST ∷ []) []

abbrev pub is_end : Token → Bool
is_end = tokens_of ends

-- the place of the end of the source
abbrev pub the_end : Token → Option Place
the_end = shown is_end place

-- Strs StrDec  |  Sigs signature {SigBind}/and  |  Funs functor {FunBind}/and
abbrev pub TopD : (Sd → List Token → Type 0) → (Gb → List Token → Type 0) → (Fb → List Token → Type 0) → Tp → List Token → Type 0
TopD D G F =
    Or (As strs_of D)
    (Or (As sigs_of (Both (Shows (the SIGNATURE)) (Seps (is AND) G)))
    (As funs_of (Both (Shows (the FUNCTOR)) (Seps (is AND) F))))

-- Run Exp, whose semicolon is one of those behind it or is left out at the end of the source
abbrev pub RunD : (Ex → List Token → Type 0) → Tp → List Token → Type 0
RunD E = As run_of E

-- what may stand here: an expression at the start of the source or right after a semicolon, and nothing right after an expression
abbrev pub HereD : (Tp → List Token → Type 0) → (Tp → List Token → Type 0) → Before → Tp → List Token → Type 0
HereD T R Fresh = Or T R
HereD T R Declared = T
HereD T R Evaluated = λ t w. ⊥

-- Top [;]
abbrev pub TopItemD : (Changes → Tp → List Token → Type 0) → (Changes → Tp → List Token → Type 0) → Site → Item → List Token → Type 0
TopItemD T R x = Both (HereD (T x.0) (R x.0) x.1) SemisD

-- Tops {Top [;]}, each under the fixities that those before it leave, up to the end of the source
abbrev pub ProgramD : (Changes → Tp → List Token → Type 0) → (Changes → Tp → List Token → Type 0) → Changes → Pr → List Token → Type 0
ProgramD T R cs = As program_of (Both (Row (Shows (the SEMICOLON))) (Both (Steps after_item (TopItemD T R) (cs, Fresh)) (Shows the_end)))

-- ---- all heights

unfoldable pub top_on : ℕ → Bool → Changes → Tp → List Token → Type 0
top_on zero b cs t w = ⊥
top_on (suc h) b cs t w = TopD (strdec_on h b cs) (sigbind_on h) (funbind_on h b cs) t w

unfoldable pub run_on : ℕ → Bool → Changes → Tp → List Token → Type 0
run_on zero b cs t w = ⊥
run_on (suc h) b cs t w = RunD (exp_on h b cs) t w

unfoldable pub program_on : ℕ → Bool → Changes → Pr → List Token → Type 0
program_on zero b cs t w = ⊥
program_on (suc h) b cs t w = ProgramD (top_on h b) (run_on h b) cs t w

-- the same in a room
abbrev pub TopR : Changes → Room → Tp → List Token → Type 0
TopR cs r = top_on r.height r.clashes cs

abbrev pub RunR : Changes → Room → Tp → List Token → Type 0
RunR cs r = run_on r.height r.clashes cs

abbrev pub ProgramR : Changes → Room → Pr → List Token → Type 0
ProgramR cs r = program_on r.height r.clashes cs

-- a program, with the directives in force behind it
abbrev pub SourceR : Changes → Room → Pr × Changes → List Token → Type 0
SourceR cs r x w = ProgramR cs r x.0 w × (x.1 ≡ left_by cs x.0)

-- the tokens are those of a program of at most this height, and these directives are in force behind it where the first were before it
abbrev pub Parses : ℕ → List Token → Changes → Pr → Changes → Type 0
Parses h tokens cs t left = Derives (ProgramR cs) h tokens t × (left ≡ left_by cs t)
