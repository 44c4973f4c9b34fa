-- Expressions: which trees derive which tokens, under which fixities and over which declarations (the Definition, figure 4 and appendix A).
use Rattle.std.specs.Prelude.{ℕ, suc, Bool, true, false, not, List, [], ◌∷◌, Option, Some, None, max, map}
use Rattle.tl_text.specs.declared.place.Place.{Place}
use Rattle.tl_text.specs.declared.lit.Lit.{Lit}
use Rattle.readers.specs.Language.{Joined, Both, Bound, That, Shows, Row, As, Or, Skip, Close}
use Rattle.readers.specs.Infix.{Left, AboveTop, floor_of}
use Rattle.readers.specs.Forms.{Seps, Ready, Enclosed, Grown, any_tree, highest, height_of}
use Rattle.sml_lex.specs.declared.token.Token.{Token}
use Rattle.sml_fix.specs.Fixities.{Settings}
use Rattle.sml_ast.specs.declared.exp.AtExp.{AtExp, out-AtExp, roll-AtExp}
use Rattle.sml_ast.specs.declared.exp.AtExp.TheOpen.{AtExp-F, Exp-F, Rule-F}
use Rattle.sml_ast.specs.declared.exp.Exp.{Exp, out-Exp, roll-Exp}
use Rattle.sml_ast.specs.declared.exp.Rule.{Rule, roll-Rule}
use Rattle.sml_ast.specs.declared.exp.Dec.{Dec}
use Rattle.sml_ast.specs.declared.exp.Clause.{Clause}
use Rattle.sml_grammar.specs.Words.{ANDALSO, CASE, DO, ELSE, END, FN, HANDLE, IF, IN, LET, OF, ORELSE, RAISE, THEN, WHILE, OPEN_PAREN, CLOSE_PAREN, OPEN_BRACKET, CLOSE_BRACKET, OPEN_BRACE, CLOSE_BRACE, COMMA, COLON, SEMICOLON, BAR, EQUALS, DARROW, HASH}
use Rattle.sml_grammar.specs.Tokens.{is, the, scon, lab, operator}
use Rattle.sml_grammar.specs.Types.{Ident, Label, Tx, trees}
use Rattle.sml_grammar.specs.Pats.{tight, right, Name, Pt, NameD, pat_place}

-- ---- trees, with their heights beside them, and how they end

-- how far to the right a tree reaches: `raise`, `if`, `while`, `case`, `fn` and matches reach as far as they can, and a bar
-- belongs to the nearest match
pub data Reach : Type 0 where
  Near : Reach
  Far : Reach
  Match : Reach

-- how a tree ends: whether in a type, and how far it reaches
pub record Ends : Type 0 where
  pub typed : Bool
  pub reach : Reach

abbrev pub ends_in : Bool → Reach → Ends
ends_in t r = record { typed = t; reach = r }

abbrev pub farther : Reach → Reach
farther Near = Far
farther Far = Far
farther Match = Match

-- as this one, and further to the right
abbrev pub far_end : Ends → Ends
far_end e = ends_in e.typed (farther e.reach)

abbrev pub match_ends : Ends → Ends
match_ends e = ends_in e.typed Match

abbrev pub near : Reach → Bool
near Near = true
near Far = false
near Match = false

abbrev pub takes_bar : Reach → Bool
takes_bar Near = false
takes_bar Far = false
takes_bar Match = true

abbrev pub At : Type 0
At = AtExp × ℕ

abbrev pub Ex : Type 0
Ex = (Exp × Ends) × ℕ

abbrev pub Ru : Type 0
Ru = (Rule × Ends) × ℕ

abbrev pub exp_trees : List Ex → List Exp
exp_trees = map (λ x. x.0.0)

abbrev pub rule_trees : List Ru → List Rule
rule_trees = map (λ x. x.0.0)

-- nothing that reaches further stands at the right end
abbrev pub is_near : Ex → Bool
is_near x = near x.0.1.reach

-- a bar behind the rule begins the next one
abbrev pub before_bar : Ru → Bool
before_bar r = not (takes_bar r.0.1.reach)

-- how a match ends: as its last rule
abbrev pub match_end : List Ru → Ends
match_end [] = ends_in false Near
match_end (r ∷ []) = r.0.1
match_end (r ∷ q ∷ rs) = match_end (q ∷ rs)

abbrev pub at_place_in : AtExp-F AtExp Clause Dec Exp Rule → Place
at_place_in (AtExp-F.Lit p l) = p
at_place_in (AtExp-F.Id p o x) = p
at_place_in (AtExp-F.Fields p fields) = p
at_place_in (AtExp-F.Pick p l) = p
at_place_in (AtExp-F.Unit p) = p
at_place_in (AtExp-F.Tuple p e es) = p
at_place_in (AtExp-F.Items p es) = p
at_place_in (AtExp-F.Seq p e es) = p
at_place_in (AtExp-F.Let p ds es) = p
at_place_in (AtExp-F.Paren p e) = p

abbrev pub exp_place_in : Exp-F AtExp Clause Dec Exp Rule → Place
exp_place_in (Exp-F.Apply p es) = p
exp_place_in (Exp-F.Infix p e v f) = p
exp_place_in (Exp-F.Typed p e t) = p
exp_place_in (Exp-F.AndAlso p e f) = p
exp_place_in (Exp-F.OrElse p e f) = p
exp_place_in (Exp-F.Handle p e rules) = p
exp_place_in (Exp-F.Raise p e) = p
exp_place_in (Exp-F.If p e f g) = p
exp_place_in (Exp-F.While p e f) = p
exp_place_in (Exp-F.Case p e rules) = p
exp_place_in (Exp-F.Fn p rules) = p

-- the place of the first token
abbrev pub at_exp_place : AtExp → Place
at_exp_place a = at_place_in (out-AtExp a)

abbrev pub exp_place : Exp → Place
exp_place e = exp_place_in (out-Exp e)

abbrev pub lit_of : Place × Lit → At
lit_of x = (roll-AtExp (AtExp-F.Lit x.0 x.1), 1)

abbrev pub id_of : Name → At
id_of n = (roll-AtExp (AtExp-F.Id n.0.0 n.0.1 n.0.2), n.1)

abbrev pub ExField : Type 0
ExField = Label × Ex

abbrev pub field_height : ExField → ℕ
field_height f = f.1.1

abbrev pub fields_of : Place × List ExField → At
fields_of x = (roll-AtExp (AtExp-F.Fields x.0 (map (λ f. (f.0, f.1.0.0)) x.1)), suc (highest field_height x.1))

abbrev pub pick_of : Place × Label → At
pick_of x = (roll-AtExp (AtExp-F.Pick x.0 x.1), 1)

abbrev pub items_of : Place × List Ex → At
items_of x = (roll-AtExp (AtExp-F.Items x.0 (exp_trees x.1)), suc (highest height_of x.1))

-- what follows an expression behind a parenthesis: the other one, or further ones with commas or semicolons between
pub data Behind : Type 0 where
  Closed : Behind
  Commas : List Ex → Behind
  Semis : List Ex → Behind

abbrev pub behind_height : Behind → ℕ
behind_height Behind.Closed = 0
behind_height (Behind.Commas es) = highest height_of es
behind_height (Behind.Semis es) = highest height_of es

-- what stands in parentheses
pub data Inside : Type 0 where
  Empty : Inside
  Parts : Ex × Behind → Inside

abbrev pub inside_height : Inside → ℕ
inside_height Inside.Empty = 0
inside_height (Inside.Parts x) = max x.0.1 (behind_height x.1)

abbrev pub parts_in : Place → Exp → Behind → AtExp
parts_in p e Behind.Closed = roll-AtExp (AtExp-F.Paren p e)
parts_in p e (Behind.Commas es) = roll-AtExp (AtExp-F.Tuple p e (exp_trees es))
parts_in p e (Behind.Semis es) = roll-AtExp (AtExp-F.Seq p e (exp_trees es))

abbrev pub inside_in : Place → Inside → AtExp
inside_in p Inside.Empty = roll-AtExp (AtExp-F.Unit p)
inside_in p (Inside.Parts x) = parts_in p x.0.0.0 x.1

abbrev pub paren_of : Place × Inside → At
paren_of x = (inside_in x.0 x.1, suc (inside_height x.1))

-- a declaration and its height
abbrev pub De : Type 0
De = Dec × ℕ

abbrev pub let_of : Place × (List De × List Ex) → At
let_of x = (roll-AtExp (AtExp-F.Let x.0 (trees x.1.0) (exp_trees x.1.1)), suc (max (highest height_of x.1.0) (highest height_of x.1.1)))

abbrev pub apply_of : At × List At → Ex
apply_of x = ((roll-Exp (Exp-F.Apply (at_exp_place x.0.0) (x.0.0 ∷ map (λ a. a.0) x.1)), ends_in false Near), suc (max x.0.1 (highest height_of x.1)))

abbrev pub infix_of : Ex → Ident → Ex → Ex
infix_of l v r = ((roll-Exp (Exp-F.Infix (exp_place l.0.0) l.0.0 v r.0.0), ends_in false Near), suc (max l.1 r.1))

abbrev pub infixed : Ex × (Ident × Ex) → Ex
infixed x = infix_of x.0 x.1.0 x.1.1

abbrev pub top_in : Exp-F AtExp Clause Dec Exp Rule → Option Ident
top_in (Exp-F.Infix p e v f) = Some v
top_in _ = None

-- the operator at the top
abbrev pub top : Ex → Option Ident
top x = top_in (out-Exp x.0.0)

abbrev pub typed_of : Ex → Tx → Ex
typed_of e t = ((roll-Exp (Exp-F.Typed (exp_place e.0.0) e.0.0 t.0), ends_in true Near), suc (max e.1 t.1))

abbrev pub and_of : Ex → Ex → Ex
and_of e f = ((roll-Exp (Exp-F.AndAlso (exp_place e.0.0) e.0.0 f.0.0), f.0.1), suc (max e.1 f.1))

abbrev pub or_of : Ex → Ex → Ex
or_of e f = ((roll-Exp (Exp-F.OrElse (exp_place e.0.0) e.0.0 f.0.0), f.0.1), suc (max e.1 f.1))

abbrev pub handle_of : Ex → List Ru → Ex
handle_of e rs = ((roll-Exp (Exp-F.Handle (exp_place e.0.0) e.0.0 (rule_trees rs)), match_ends (match_end rs)), suc (max e.1 (highest height_of rs)))

abbrev pub raise_of : Place × Ex → Ex
raise_of x = ((roll-Exp (Exp-F.Raise x.0 x.1.0.0), far_end x.1.0.1), suc x.1.1)

abbrev pub if_of : Place × (Ex × (Ex × Ex)) → Ex
if_of x = ((roll-Exp (Exp-F.If x.0 x.1.0.0.0 x.1.1.0.0.0 x.1.1.1.0.0), far_end x.1.1.1.0.1), suc (max x.1.0.1 (max x.1.1.0.1 x.1.1.1.1)))

abbrev pub while_of : Place × (Ex × Ex) → Ex
while_of x = ((roll-Exp (Exp-F.While x.0 x.1.0.0.0 x.1.1.0.0), far_end x.1.1.0.1), suc (max x.1.0.1 x.1.1.1))

abbrev pub case_of : Place × (Ex × List Ru) → Ex
case_of x = ((roll-Exp (Exp-F.Case x.0 x.1.0.0.0 (rule_trees x.1.1)), match_ends (match_end x.1.1)), suc (max x.1.0.1 (highest height_of x.1.1)))

abbrev pub fn_of : Place × List Ru → Ex
fn_of x = ((roll-Exp (Exp-F.Fn x.0 (rule_trees x.1)), match_ends (match_end x.1)), suc (highest height_of x.1))

abbrev pub arm_of : Pt × Ex → Ru
arm_of x = ((roll-Rule (Rule-F.Arm (pat_place x.0.0) x.0.0 x.1.0.0), x.1.0.1), suc (max x.0.1 x.1.1))

-- ---- the grammar, over the expressions, rules and rows of declarations one level lower

-- lab = Exp
abbrev pub FieldD : (Ex → List Token → Type 0) → ExField → List Token → Type 0
FieldD E = Both (Shows lab) (Skip (is EQUALS) E)

-- )  |  , {Exp}/, )  |  ; {Exp}/; )
abbrev pub BehindD : (Ex → List Token → Type 0) → Behind → List Token → Type 0
BehindD E =
    Or (As (λ u. Behind.Closed) (λ (u : Unit {0}). That (is CLOSE_PAREN)))
    (Or (As Behind.Commas (Skip (is COMMA) (Close (Seps (is COMMA) E) (is CLOSE_PAREN))))
    (As Behind.Semis (Skip (is SEMICOLON) (Close (Seps (is SEMICOLON) E) (is CLOSE_PAREN)))))

-- )  |  Exp and what follows it
abbrev pub InsideD : (Ex → List Token → Type 0) → Inside → List Token → Type 0
InsideD E = Or (As (λ u. Inside.Empty) (λ (u : Unit {0}). That (is CLOSE_PAREN))) (As Inside.Parts (Both E (BehindD E)))

-- {Dec [;]} in {Exp}/; end, the expressions under the fixities that the declarations leave
abbrev pub LetD : (List De → List Token → Type 0) → (List De → Ex → List Token → Type 0) → List De × List Ex → List Token → Type 0
LetD D after = Bound D (λ ds. Skip (is IN) (Close (Seps (is SEMICOLON) (after ds)) (is END)))

-- Lit scon  |  Pick # lab  |  Fields { [{lab = Exp}/,] }  |  Items [ [{Exp}/,] ]  |  Unit ( ), Paren ( Exp ), Tuple, Seq  |  Id [op] longvid  |  Let let {Dec [;]} in {Exp}/; end
abbrev pub at_form : Settings → (List De → List Token → Type 0) → (Ex → List Token → Type 0) → (List De → Ex → List Token → Type 0) → At → List Token → Type 0
at_form fix D E after =
    Or (As lit_of (Shows scon))
    (Or (As pick_of (Both (Shows (the HASH)) (Shows lab)))
    (Or (As fields_of (Both (Shows (the OPEN_BRACE)) (Enclosed (is COMMA) (FieldD E) (is CLOSE_BRACE))))
    (Or (As items_of (Both (Shows (the OPEN_BRACKET)) (Enclosed (is COMMA) E (is CLOSE_BRACKET))))
    (Or (As paren_of (Both (Shows (the OPEN_PAREN)) (InsideD E)))
    (Or (As id_of (NameD fix))
    (As let_of (Both (Shows (the LET)) (LetD D after))))))))

-- Apply {AtExp}+
abbrev pub ApplyD : (At → List Token → Type 0) → At × List At → List Token → Type 0
ApplyD A = Both A (Row A)

-- Infix Exp vid Exp, where operators may clash or not
abbrev pub InfixD : (Ex → List Token → Type 0) → Bool → Settings → Ex × (Ident × Ex) → List Token → Type 0
InfixD R b fix x w =
    Left (tight fix) (right fix) b (top x.0) x.1.0 × AboveTop (tight fix) (right fix) b (floor_of (tight fix) (right fix) x.1.0) (top x.1.1)
    × Joined (R x.0) (Joined (Shows (operator fix) x.1.0) (R x.1.1)) w

abbrev pub row_form : Bool → Settings → (At → List Token → Type 0) → (Ex → List Token → Type 0) → Ex → List Token → Type 0
row_form b fix A R = Or (As apply_of (ApplyD A)) (As infixed (InfixD R b fix))

-- the same  |  Typed Exp : Ty
abbrev pub typed_form : (Ex → List Token → Type 0) → (Tx → List Token → Type 0) → (Ex → List Token → Type 0) → Ex → List Token → Type 0
typed_form R T Y = Or R (As (λ x. typed_of x.0 x.1) (Grown any_tree Y (Skip (is COLON) T)))

-- the same  |  AndAlso Exp andalso Exp, to the right of it what is as tight or reaches far
abbrev pub and_form : (Ex → List Token → Type 0) → (Ex → List Token → Type 0) → (Ex → List Token → Type 0) → Ex → List Token → Type 0
and_form Y Z A = Or Y (As (λ x. and_of x.0 x.1) (Grown is_near A (Skip (is ANDALSO) Z)))

-- the same  |  OrElse Exp orelse Exp
abbrev pub or_form : (Ex → List Token → Type 0) → (Ex → List Token → Type 0) → (Ex → List Token → Type 0) → Ex → List Token → Type 0
or_form A Z O = Or A (As (λ x. or_of x.0 x.1) (Grown is_near O (Skip (is ORELSE) Z)))

-- {Rule}/|, where a bar belongs to the nearest match
abbrev pub MatchD : (Ru → List Token → Type 0) → List Ru → List Token → Type 0
MatchD R = Ready (is BAR) before_bar R

-- the same  |  Handle Exp handle {Rule}/|
abbrev pub handle_form : (Ex → List Token → Type 0) → (Ru → List Token → Type 0) → (Ex → List Token → Type 0) → Ex → List Token → Type 0
handle_form O R P = Or O (As (λ x. handle_of x.0 x.1) (Grown is_near P (Skip (is HANDLE) (MatchD R))))

-- Raise raise Exp  |  If if Exp then Exp else Exp  |  While while Exp do Exp  |  Case case Exp of {Rule}/|  |  Fn fn {Rule}/|
abbrev pub far_form : (Ex → List Token → Type 0) → (Ru → List Token → Type 0) → Ex → List Token → Type 0
far_form E R =
    Or (As raise_of (Both (Shows (the RAISE)) E))
    (Or (As if_of (Both (Shows (the IF)) (Both E (Both (Skip (is THEN) E) (Skip (is ELSE) E)))))
    (Or (As while_of (Both (Shows (the WHILE)) (Both E (Skip (is DO) E))))
    (Or (As case_of (Both (Shows (the CASE)) (Both E (Skip (is OF) (MatchD R)))))
    (As fn_of (Both (Shows (the FN)) (MatchD R))))))

-- Arm Pat => Exp
abbrev pub rule_form : (Pt → List Token → Type 0) → (Ex → List Token → Type 0) → Ru → List Token → Type 0
rule_form P E = As arm_of (Both P (Skip (is DARROW) E))
