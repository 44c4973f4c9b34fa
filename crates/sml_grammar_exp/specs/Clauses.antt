-- The fronts of clauses, before `: Ty = Exp`: which trees derive which tokens, under which fixities (the Definition, figure 17).
use Rattle.std.specs.Prelude.{ℕ, List, max}
use Rattle.tl_text.specs.declared.place.Place.{Place}
use Rattle.readers.specs.Language.{Both, Shows, Row, As, Or, Close}
use Rattle.readers.specs.Room.{Room}
use Rattle.readers.specs.Forms.{highest, height_of, cons_of}
use Rattle.sml_lex.specs.declared.token.Token.{Token}
use Rattle.sml_fix.specs.Fixities.{Settings}
use Rattle.sml_grammar.specs.Words.{CLOSE_PAREN, OPEN_PAREN}
use Rattle.sml_grammar.specs.Tokens.{is, the, infix_vid}
use Rattle.sml_grammar.specs.Types.{Ident}
use Rattle.sml_grammar.specs.Pats.{Ap, at_on}
use Rattle.sml_grammar_exp.specs.Binds.{Vid, VidD}

-- ---- trees

-- two atomic patterns and the operator between them
abbrev pub Pair : Type 0
Pair = Ap × (Ident × Ap)

-- the place of the parenthesis before them
abbrev pub Parens : Type 0
Parens = Place × Pair

pub data Head : Type 0 where
  Prefix : Vid × List Ap → Head
  Mid : Pair → Head
  MidMore : Parens × List Ap → Head

abbrev pub pair_height : Pair → ℕ
pair_height x = max x.0.1 x.1.1.1

abbrev pub head_height : Head → ℕ
head_height (Head.Prefix x) = highest height_of x.1
head_height (Head.Mid x) = pair_height x
head_height (Head.MidMore x) = max (pair_height x.0.1) (highest height_of x.1)

-- ---- the grammar

-- AtPat vid AtPat
abbrev pub PairD : Settings → (Ap → List Token → Type 0) → Pair → List Token → Type 0
PairD fix A = Both A (Both (Shows (infix_vid fix)) A)

-- ( AtPat vid AtPat )
abbrev pub ParensD : Settings → (Ap → List Token → Type 0) → Parens → List Token → Type 0
ParensD fix A = Both (Shows (the OPEN_PAREN)) (Close (PairD fix A) (is CLOSE_PAREN))

-- one or more
abbrev pub Many : {T : Type 0} → (T → List Token → Type 0) → List T → List Token → Type 0
Many D = As cons_of (Both D (Row D))

-- Prefix [op] vid {AtPat}+  |  Mid AtPat vid AtPat  |  MidMore ( AtPat vid AtPat ) {AtPat}
abbrev pub HeadD : Settings → (Ap → List Token → Type 0) → Head → List Token → Type 0
HeadD fix A =
    Or (As Head.Prefix (Both (VidD fix) (Many A)))
    (Or (As Head.Mid (PairD fix A))
    (As Head.MidMore (Both (ParensD fix A) (Row A))))

-- in a room
abbrev pub HeadR : Settings → Room → Head → List Token → Type 0
HeadR fix r = HeadD fix (at_on r.height r.clashes fix)
